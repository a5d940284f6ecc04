use Rattle.std.proofs.Common.{length}
use Rattle.vf_early.proofs.Texts.{IsCut}
use Rattle.vf_early.proofs.scan.tokens.Given as goal

-- the text is cut into the tokens so far and the rest
abbrev pub invariant-loop-first : goal.invariant-loop-first
invariant-loop-first l = IsCut l.bytes l.tokens.items l.rest

abbrev pub decreases-loop-first : goal.decreases-loop-first
decreases-loop-first l = length l.rest
