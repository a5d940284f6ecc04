use Rattle.std.proofs.Common.{◌≡◌, ◌-◌, ◌≤◌, [], length}
use Rattle.vf_expression.specs.Reading.{expr_at}
use Rattle.vf_control.specs.Lists.{many_from}
use Rattle.vf_control.specs.Reading.{join_at, next_event}
use Rattle.vf_control.proofs.waits.more.Given as goal

-- what is still read is what was to be read
abbrev pub invariant-loop : goal.invariant-loop
invariant-loop l = record {
  same : many_from join_at (next_event (expr_at l.depth)) (l.end - l.counter) l.items l.deepest l.rest ≡ many_from join_at (next_event (expr_at l.depth)) (length l.tokens) [] l.fn.deep l.tokens;
  small : l.deepest ≤ l.depth;
}
