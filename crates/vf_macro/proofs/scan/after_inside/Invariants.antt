use Rattle.std.proofs.Common.{List, ℕ, length}
use Rattle.vf_macro.specs.Scanning.{Runs}
use Rattle.vf_macro.proofs.scan.after_inside.Given as goal

-- the end of what runs from here on is the end of what runs from the start on
abbrev pub invariant-loop-more : goal.invariant-loop-more
invariant-loop-more l = (end : List ℕ) → Runs l.inside l.rest end → Runs l.inside l.fn.bytes end

abbrev pub decreases-loop-more : goal.decreases-loop-more
decreases-loop-more l = length l.rest
