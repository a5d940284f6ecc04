use Rattle.std.proofs.Common.{length}
use Rattle.vf_top.proofs.WriteLemmas.{IsWritten}
use Rattle.vf_top.proofs.command.write.Given as goal

-- of the text the rest is still to be written
abbrev pub invariant-loop-rest : goal.invariant-loop-rest
invariant-loop-rest g l = IsWritten (g.K.Sink.seen l.initial.out) (g.K.Sink.seen l.out) l.text l.rest

abbrev pub decreases-loop-rest : goal.decreases-loop-rest
decreases-loop-rest g l = length l.rest
