use Rattle.std.proofs.Common.{◌≡◌, ◌+◌, ◌*◌, ◌-◌, ◌≤◌, [], ◌∷◌, length, codes}
use Rattle.vf_expression.specs.Reading.{expr_at, after}
use Rattle.vf_control.specs.Lists.{many_from}
use Rattle.vf_control.specs.Reading.{target_within}
use Rattle.vf_control.proofs.targets.+targets.Given as goal

abbrev pub decreases-target_within : goal.decreases-target_within
decreases-target_within l = 8 * l.nesting

abbrev pub decreases-more : goal.decreases-more
decreases-more l = 8 * l.nesting + 1

abbrev pub decreases-list : goal.decreases-list
decreases-list l = 8 * l.nesting + 2

abbrev pub decreases-concat : goal.decreases-concat
decreases-concat l = 8 * l.nesting + 3

abbrev pub decreases-target_by : goal.decreases-target_by
decreases-target_by l = 8 * l.nesting + 4

abbrev pub decreases-target_over : goal.decreases-target_over
decreases-target_over l = 8 * l.nesting + 5

-- what is still read is what was to be read
abbrev pub invariant-more-loop : goal.invariant-more-loop
invariant-more-loop l = record {
  same : many_from (after (codes ",")) (target_within (expr_at l.depth) l.nesting) (l.end - l.counter) l.items l.deepest l.rest
      ≡ many_from (after (codes ",")) (target_within (expr_at l.depth) l.nesting) (length l.tokens) (l.fn.first ∷ []) l.fn.deep l.tokens;
  small : l.deepest ≤ l.depth;
}
