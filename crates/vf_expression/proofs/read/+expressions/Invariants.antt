use Rattle.std.proofs.Common.{◌≡◌, ◌+◌, ◌*◌, ◌-◌, ◌≤◌, [], ◌∷◌, length}
use Rattle.vf_expression.specs.Reading.{more_from, chain_at, expr_at}
use Rattle.vf_expression.proofs.read.+expressions.Given as goal

abbrev pub decreases-expr : goal.decreases-expr
decreases-expr l = 16 * l.depth

abbrev pub decreases-more : goal.decreases-more
decreases-more l = 16 * l.depth + 1

abbrev pub decreases-exprs : goal.decreases-exprs
decreases-exprs l = 16 * l.depth + 2

abbrev pub decreases-part_select : goal.decreases-part_select
decreases-part_select l = 16 * l.depth + 1

abbrev pub decreases-select : goal.decreases-select
decreases-select l = 16 * l.depth + 2

abbrev pub decreases-second_select : goal.decreases-second_select
decreases-second_select l = 16 * l.depth + 3

abbrev pub decreases-selects : goal.decreases-selects
decreases-selects l = 16 * l.depth + 4

abbrev pub decreases-named : goal.decreases-named
decreases-named l = 16 * l.depth + 5

abbrev pub decreases-closed : goal.decreases-closed
decreases-closed l = 16 * l.depth + 1

abbrev pub decreases-paren : goal.decreases-paren
decreases-paren l = 16 * l.depth + 2

abbrev pub decreases-argument : goal.decreases-argument
decreases-argument l = 16 * l.depth + 2

abbrev pub decreases-feof : goal.decreases-feof
decreases-feof l = 16 * l.depth + 3

abbrev pub decreases-sign_call : goal.decreases-sign_call
decreases-sign_call l = 16 * l.depth + 3

abbrev pub decreases-system : goal.decreases-system
decreases-system l = 16 * l.depth + 4

abbrev pub decreases-repeat : goal.decreases-repeat
decreases-repeat l = 16 * l.depth + 3

abbrev pub decreases-concat : goal.decreases-concat
decreases-concat l = 16 * l.depth + 3

abbrev pub decreases-braces : goal.decreases-braces
decreases-braces l = 16 * l.depth + 4

abbrev pub decreases-prefixed : goal.decreases-prefixed
decreases-prefixed l = 16 * l.depth + 2

abbrev pub decreases-opened : goal.decreases-opened
decreases-opened l = 16 * l.depth + 5

abbrev pub decreases-signed : goal.decreases-signed
decreases-signed l = 16 * l.depth + 6

abbrev pub decreases-operand_by : goal.decreases-operand_by
decreases-operand_by l = 16 * l.depth + 7

abbrev pub decreases-operand : goal.decreases-operand
decreases-operand l = 16 * l.depth + 8

abbrev pub decreases-link : goal.decreases-link
decreases-link l = 16 * l.depth + 1

abbrev pub decreases-chain : goal.decreases-chain
decreases-chain l = 16 * l.depth + 2

abbrev pub decreases-arms : goal.decreases-arms
decreases-arms l = 16 * l.depth + 1

abbrev pub decreases-picked : goal.decreases-picked
decreases-picked l = 16 * l.depth + 2

abbrev pub decreases-chained : goal.decreases-chained
decreases-chained l = 16 * l.depth + 9

abbrev pub decreases-expr_over : goal.decreases-expr_over
decreases-expr_over l = 16 * l.depth + 10

-- what is still read is what was to be read
abbrev pub invariant-more-loop : goal.invariant-more-loop
invariant-more-loop l = record {
  same : more_from (expr_at l.depth) (l.end - l.counter) l.items l.deepest l.rest ≡ more_from (expr_at l.depth) (length l.tokens) (l.fn.first ∷ []) l.fn.deep l.tokens;
  small : l.deepest ≤ l.depth;
}

abbrev pub invariant-chain-loop : goal.invariant-chain-loop
invariant-chain-loop l = record {
  same : chain_at (expr_at l.depth) l.depth (l.end - l.counter) l.level l.left l.deepest l.rest ≡ chain_at (expr_at l.depth) l.depth (l.depth + 1) l.level l.fn.first l.fn.deep l.tokens;
  small : l.deepest ≤ l.depth + 1;
}
