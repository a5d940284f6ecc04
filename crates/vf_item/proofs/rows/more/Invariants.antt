use Rattle.std.proofs.Common.{◌≡◌, ◌-◌, length, codes}
use Rattle.vf_expression.specs.Reading.{after}
use Rattle.vf_item.specs.Rows.{row_from}
use Rattle.vf_item.proofs.rows.more.Given as goal

-- what is still read is what was to be read
abbrev pub invariant-loop : goal.invariant-loop
invariant-loop g l = row_from (after (codes ",")) g.P.Piece.reads (l.end - l.counter) l.items l.rest ≡ row_from (after (codes ",")) g.P.Piece.reads (length l.tokens) l.fn.before l.tokens
