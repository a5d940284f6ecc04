-- What the code's reader stands for.
use Rattle.std.specs.Prelude.{ℕ, List, Option, None, Some, reverse}
use Rattle.std.specs.Str.{bytes_eq}
use Rattle.indexmap.specs.IndexMap.{get_by}
use Rattle.vf_lex.specs.declared.reader.Reader.{Reader}
use Rattle.vf_lex.specs.Around.{Around}

-- the text of a macro by the entry of its name, of which one without a text stands for none
abbrev pub text_in : {V : Type 0} → (V → List ℕ) → Option (Option V) → Option (List ℕ)
text_in items None = None
text_in items (Some None) = None
text_in items (Some (Some text)) = Some (items text)

unfoldable pub around : Reader → Around
around r = record {
  macros = λ name. text_in (λ text. text.items) (get_by (λ key. bytes_eq name key.items) r.macros);
  conditions = reverse r.conditions.items;
  tokens = r.tokens.items;
  macro_bytes = r.macro_bytes;
}
