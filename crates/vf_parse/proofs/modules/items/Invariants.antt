use Rattle.std.proofs.Common.{◌≡◌, ◌-◌, [], length}
use Rattle.vf_item.specs.Rows.{row_from}
use Rattle.vf_item.specs.Reading.{item_at}
use Rattle.vf_parse.specs.Reading.{before_end}
use Rattle.vf_parse.proofs.modules.items.Given as goal

-- what is still read is what was to be read
abbrev pub invariant-loop : goal.invariant-loop
invariant-loop l = row_from before_end item_at (l.end - l.counter) l.items l.rest ≡ row_from before_end item_at (length l.tokens) [] l.tokens
