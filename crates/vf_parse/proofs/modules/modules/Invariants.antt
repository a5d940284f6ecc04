use Rattle.std.proofs.Common.{◌≡◌, ◌-◌, [], ◌∷◌, length}
use Rattle.vf_item.specs.Rows.{row_from}
use Rattle.vf_parse.specs.Reading.{module_at, some_tokens}
use Rattle.vf_parse.proofs.modules.modules.Given as goal

-- what is still read is what was to be read
abbrev pub invariant-loop : goal.invariant-loop
invariant-loop l = row_from some_tokens module_at (l.end - l.counter) l.modules l.rest ≡ row_from some_tokens module_at (length l.tokens) (l.fn.first ∷ []) l.tokens
