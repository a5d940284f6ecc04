-- What the readers do, as functions on lists of tokens. The grammar does not rest on them: the proofs show that they read
-- exactly what it says.
use Rattle.std.specs.Prelude.{[], ◌∷◌, length, Option, Some, None, codes, if◌then◌else◌}
use Rattle.vf_base.specs.declared.names.Place.{Place}
use Rattle.vf_tree.specs.declared.modules.Module.{Module}
use Rattle.vf_tree.specs.declared.modules.Source.{Source}
use Rattle.vf_expression.specs.Grammar.{Tokens}
use Rattle.vf_expression.specs.Reading.{◌>>=◌, found_or, after, ended}
use Rattle.vf_statement.specs.Reading.{is_word, after_word, name_at}
use Rattle.vf_item.specs.Rows.{Found, row_from}
use Rattle.vf_item.specs.Reading.{params_at, port_list_at, item_at}

-- where a further item begins: before anything but `endmodule`
abbrev pub before_end : Tokens → Option Tokens
before_end ts = found_or (after_word (codes "endmodule") ts) (λ us. None) (Some ts)

-- the tokens after `endmodule`
abbrev pub after_end : Tokens → Option Tokens
after_end ts = after_word (codes "endmodule") ts

-- a module after its `module`
unfoldable pub module_from : Place → Tokens → Found Module
module_from p ts = do
  n ← name_at ts
  ps ← params_at n.1
  l ← port_list_at ps.1
  us ← after (codes ";") l.1
  is ← row_from before_end item_at (length us) [] us
  rest ← after_end is.1
  Some (record { place = p; name = n.0; params = ps.0; ports = l.0; items = is.0 }, rest)

unfoldable pub module_at : Tokens → Found Module
module_at [] = None
module_at (t ∷ rest) = if is_word (codes "module") t.kind then module_from t.place rest else None

-- where a further module begins: before any token
abbrev pub some_tokens : Tokens → Option Tokens
some_tokens [] = None
some_tokens (t ∷ rest) = Some (t ∷ rest)

-- the design that all of the tokens are
unfoldable pub source_of : Tokens → Option Source
source_of ts = do
  m ← module_at ts
  l ← row_from some_tokens module_at (length m.1) (m.0 ∷ []) m.1
  end ← ended l.1
  Some (record { place = m.0.place; modules = l.0 })
