use Rattle.std.proofs.Common.{length}
use Rattle.vf_macro.proofs.Counting.{CountsOn}
use Rattle.vf_macro.proofs.scan.counted.Given as goal

abbrev pub invariant-loop-first : goal.invariant-loop-first
invariant-loop-first l = CountsOn l.fn.bytes l.text.items l.rest

abbrev pub decreases-loop-first : goal.decreases-loop-first
decreases-loop-first l = length l.rest
