use Rattle.std.proofs.Common.{◌≡◌, ◌+◌, ◌*◌, ◌-◌, ◌≤◌, length}
use Rattle.vf_early.specs.Reading.{block_from, statement_at}
use Rattle.vf_early.proofs.read.+statements.Given as goal

abbrev pub decreases-statement : goal.decreases-statement
decreases-statement l = 4 * l.depth

abbrev pub decreases-guarded : goal.decreases-guarded
decreases-guarded l = 4 * l.depth + 1

abbrev pub decreases-while_loop : goal.decreases-while_loop
decreases-while_loop l = 4 * l.depth + 2

abbrev pub decreases-if_guard : goal.decreases-if_guard
decreases-if_guard l = 4 * l.depth + 2

abbrev pub decreases-block : goal.decreases-block
decreases-block l = 4 * l.depth + 2

abbrev pub decreases-nested : goal.decreases-nested
decreases-nested l = 4 * l.depth + 3

-- what is still read is what was to be read
abbrev pub invariant-block-loop : goal.invariant-block-loop
invariant-block-loop l = record {
  same : block_from (statement_at l.variable l.depth) l.variable (l.end - l.counter) l.code.items l.rest ≡ block_from (statement_at l.variable l.depth) l.variable (length l.tokens) l.fn.code.items l.tokens;
  grows : length l.fn.code.items ≤ length l.code.items;
  fits : length l.code.items ≤ 65536;
}
