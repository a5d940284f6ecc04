use Rattle.std.proofs.Common.{◌≡◌, length}
use Rattle.vf_lexeme.specs.Reading.{after_first_close}
use Rattle.vf_lexeme.proofs.skips.after_first_close.Given as goal

-- the mark is not after us
abbrev pub invariant-loop-more : goal.invariant-loop-more
invariant-loop-more l = after_first_close l.close l.text ≡ after_first_close l.close l.rest

abbrev pub decreases-loop-more : goal.decreases-loop-more
decreases-loop-more l = length l.rest
