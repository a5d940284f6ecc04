use Rattle.std.proofs.Common.{◌≡◌, ◌+◌, ◌*◌, ◌-◌, ◌≤◌, [], ◌∷◌, length}
use Rattle.vf_statement.specs.Reading.{stmts_from, citems_from, stmt_at}
use Rattle.vf_statement.proofs.read.+statements.Given as goal

abbrev pub decreases-stmt : goal.decreases-stmt
decreases-stmt l = 16 * l.depth

abbrev pub decreases-stmts : goal.decreases-stmts
decreases-stmts l = 16 * l.depth + 1

abbrev pub decreases-block : goal.decreases-block
decreases-block l = 16 * l.depth + 2

abbrev pub decreases-otherwise : goal.decreases-otherwise
decreases-otherwise l = 16 * l.depth + 1

abbrev pub decreases-conditional : goal.decreases-conditional
decreases-conditional l = 16 * l.depth + 2

abbrev pub decreases-guarded_stmt : goal.decreases-guarded_stmt
decreases-guarded_stmt l = 16 * l.depth + 1

abbrev pub decreases-forever : goal.decreases-forever
decreases-forever l = 16 * l.depth + 1

abbrev pub decreases-for_stmt : goal.decreases-for_stmt
decreases-for_stmt l = 16 * l.depth + 1

abbrev pub decreases-delayed : goal.decreases-delayed
decreases-delayed l = 16 * l.depth + 1

abbrev pub decreases-on : goal.decreases-on
decreases-on l = 16 * l.depth + 1

abbrev pub decreases-default_item : goal.decreases-default_item
decreases-default_item l = 16 * l.depth + 1

abbrev pub decreases-labelled : goal.decreases-labelled
decreases-labelled l = 16 * l.depth + 1

abbrev pub decreases-citem : goal.decreases-citem
decreases-citem l = 16 * l.depth + 2

abbrev pub decreases-more_citems : goal.decreases-more_citems
decreases-more_citems l = 16 * l.depth + 3

abbrev pub decreases-citems : goal.decreases-citems
decreases-citems l = 16 * l.depth + 4

abbrev pub decreases-case : goal.decreases-case
decreases-case l = 16 * l.depth + 5

abbrev pub decreases-choice : goal.decreases-choice
decreases-choice l = 16 * l.depth + 6

abbrev pub decreases-by_word : goal.decreases-by_word
decreases-by_word l = 16 * l.depth + 7

abbrev pub decreases-by_sign : goal.decreases-by_sign
decreases-by_sign l = 16 * l.depth + 2

abbrev pub decreases-stmt_by : goal.decreases-stmt_by
decreases-stmt_by l = 16 * l.depth + 8

abbrev pub decreases-stmt_over : goal.decreases-stmt_over
decreases-stmt_over l = 16 * l.depth + 9

-- what is still read is what was to be read
abbrev pub invariant-stmts-loop : goal.invariant-stmts-loop
invariant-stmts-loop l = record {
  same : stmts_from l.depth (stmt_at l.depth) (l.end - l.counter) l.items l.deepest l.rest ≡ stmts_from l.depth (stmt_at l.depth) (length l.tokens) [] 0 l.tokens;
  small : l.deepest ≤ l.depth;
}

abbrev pub invariant-more_citems-loop : goal.invariant-more_citems-loop
invariant-more_citems-loop l = record {
  same : citems_from l.depth (stmt_at l.depth) (l.end - l.counter) l.seen l.items l.deepest l.rest ≡ citems_from l.depth (stmt_at l.depth) (length l.tokens) l.fn.default (l.fn.first ∷ []) l.fn.deep l.tokens;
  small : l.deepest ≤ l.depth;
}
