-- Words of the standard that the language leaves out (docs/LANGUAGE.md, "Left-out words").
use Rattle.std.specs.Prelude.{◌≡◌, ℕ, ◌+◌, ◌<◌, Bool, true, false, not, ◌&&◌, ◌==◌, List, [], ◌∷◌, drop, slice_get, Some, codes, if◌then◌else◌}
use Rattle.std.specs.List.{list_any}
use Rattle.std.specs.Str.{bytes_eq}
use Rattle.vf_base.specs.declared.names.Place.{Place}
use Rattle.vf_lexeme.specs.declared.kinds.TokenKind.{TokenKind}
use Rattle.vf_lexeme.specs.declared.kinds.TokenKind.TheVariants as token
use Rattle.vf_lexeme.specs.Words.{left_out_words}
use Rattle.vf_lex.specs.declared.token.Token.{Token}
use Rattle.vf_expression.specs.Grammar.{Tokens}
use Rattle.vf_expression.specs.Reading.{is_sign}

-- the system tasks and functions that the grammar quotes
abbrev pub system_names : List (List ℕ)
system_names = codes "$display" ∷ codes "$write" ∷ codes "$strobe" ∷ codes "$monitor" ∷ codes "$save" ∷ codes "$incsave" ∷ codes "$finish" ∷ codes "$stop" ∷ codes "$fgetc"
    ∷ codes "$time" ∷ codes "$feof" ∷ codes "$signed" ∷ codes "$unsigned" ∷ []

-- a token that the language leaves out by itself
abbrev pub is_left_out : TokenKind → Bool
is_left_out (token.Word text) = list_any (bytes_eq text) left_out_words
is_left_out (token.System text) = not (list_any (bytes_eq text) system_names)
is_left_out (token.Name text) = false
is_left_out (token.Sign text) = false
is_left_out (token.Number value) = false
is_left_out (token.Quoted text) = false

-- the place right after a one-byte token at the first
abbrev pub is_right_after : Place → Place → Bool
is_right_after p q = (q.line == p.line) && (q.column == p.column + 1)

-- the sign `**`, which is two tokens `*` side by side
abbrev pub is_power : Token → Tokens → Bool
is_power t [] = false
is_power t (u ∷ rest) = is_sign (codes "*") t.kind && (is_sign (codes "*") u.kind && is_right_after t.place u.place)

-- whether what the language leaves out stands in front
abbrev pub begins_left_out : Tokens → Bool
begins_left_out [] = false
begins_left_out (t ∷ rest) = if is_left_out t.kind then true else is_power t rest

-- no token is left out by the language
abbrev pub NoneLeftOut : Tokens → Type 0
NoneLeftOut ts = (k : ℕ) → begins_left_out (drop k ts) ≡ false

-- the first token that is left out stands at the place
pub record IsLeftOutAt (ts : Tokens) (p : Place) : Type 0 where
  pub index : ℕ
  pub token : Token
  pub at : slice_get ts index ≡ Some token
  pub placed : token.place ≡ p
  pub here : begins_left_out (drop index ts) ≡ true
  pub first : (j : ℕ) → j < index → begins_left_out (drop j ts) ≡ false
