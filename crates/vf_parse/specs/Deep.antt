-- How many brackets and blocks are open at a token (docs/LANGUAGE.md, "Grammar").
use Rattle.std.specs.Prelude.{◌≡◌, ℕ, ◌+◌, ◌<◌, ◌≤◌, Bool, false, List, ◌∷◌, [], take, slice_get, Some, codes}
use Rattle.std.specs.List.{list_any, count_by}
use Rattle.std.specs.Str.{bytes_eq}
use Rattle.vf_base.specs.declared.names.Place.{Place}
use Rattle.vf_lexeme.specs.declared.kinds.TokenKind.{TokenKind}
use Rattle.vf_lexeme.specs.declared.kinds.TokenKind.TheVariants as token
use Rattle.vf_lex.specs.declared.token.Token.{Token}
use Rattle.vf_expression.specs.Grammar.{Tokens}

abbrev pub opening_signs : List (List ℕ)
opening_signs = codes "(" ∷ codes "[" ∷ codes "{" ∷ []

abbrev pub closing_signs : List (List ℕ)
closing_signs = codes ")" ∷ codes "]" ∷ codes "}" ∷ []

abbrev pub opening_words : List (List ℕ)
opening_words = codes "begin" ∷ codes "case" ∷ codes "casez" ∷ codes "casex" ∷ []

abbrev pub closing_words : List (List ℕ)
closing_words = codes "end" ∷ codes "endcase" ∷ []

abbrev pub is_opening : TokenKind → Bool
is_opening (token.Sign text) = list_any (bytes_eq text) opening_signs
is_opening (token.Word text) = list_any (bytes_eq text) opening_words
is_opening (token.Name text) = false
is_opening (token.System text) = false
is_opening (token.Number value) = false
is_opening (token.Quoted text) = false

abbrev pub is_closing : TokenKind → Bool
is_closing (token.Sign text) = list_any (bytes_eq text) closing_signs
is_closing (token.Word text) = list_any (bytes_eq text) closing_words
is_closing (token.Name text) = false
is_closing (token.System text) = false
is_closing (token.Number value) = false
is_closing (token.Quoted text) = false

abbrev pub open_in : Tokens → ℕ
open_in ts = count_by (λ t. is_opening t.kind) ts

abbrev pub closed_in : Tokens → ℕ
closed_in ts = count_by (λ t. is_closing t.kind) ts

-- more than 200 are open at the end of these tokens
abbrev pub IsDeep : Tokens → Type 0
IsDeep ts = closed_in ts + 200 < open_in ts

-- there is no token at which more than 200 are open
abbrev pub IsNowhereDeep : Tokens → Type 0
IsNowhereDeep ts = (k : ℕ) → IsDeep (take k ts) → ⊥

-- the first token at which more than 200 are open stands at the place
pub record IsDeepAt (ts : Tokens) (p : Place) : Type 0 where
  pub index : ℕ
  pub token : Token
  pub at : slice_get ts index ≡ Some token
  pub placed : token.place ≡ p
  pub here : IsDeep (take (index + 1) ts)
  pub first : (j : ℕ) → j ≤ index → IsDeep (take j ts) → ⊥
