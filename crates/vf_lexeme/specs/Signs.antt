-- Signs, and the comments and attributes that begin with the same bytes. (docs/LANGUAGE.md, "Text and tokens"; IEEE Std 1364-2005,
-- clauses 3.3, 3.4 and 3.8.)
use Rattle.std.specs.Prelude.{◌≡◌, ℕ, ◌≤◌, ◌==◌, Bool, true, List, [], ◌∷◌, ◌++◌, length, codes}
use Rattle.std.specs.List.{list_all, list_any}
use Rattle.std.specs.Str.{bytes_eq}
use Rattle.vf_lexeme.specs.Bytes.{is_no_newline, Ends, Lacks}

abbrev pub signs : List (List ℕ)
signs = codes "(" ∷ codes ")" ∷ codes "[" ∷ codes "]" ∷ codes "{" ∷ codes "}" ∷ codes ";" ∷ codes ":" ∷ codes "," ∷ codes "."
    ∷ codes "#" ∷ codes "@" ∷ codes "=" ∷ codes "?" ∷ codes "+" ∷ codes "-" ∷ codes "*" ∷ codes "/" ∷ codes "%" ∷ codes "!"
    ∷ codes "~" ∷ codes "&" ∷ codes "|" ∷ codes "^" ∷ codes "<" ∷ codes ">" ∷ codes "<=" ∷ codes ">=" ∷ codes "==" ∷ codes "!="
    ∷ codes "===" ∷ codes "!==" ∷ codes "&&" ∷ codes "||" ∷ codes "<<" ∷ codes ">>" ∷ codes "<<<" ∷ codes ">>>" ∷ codes "~&"
    ∷ codes "~|" ∷ codes "~^" ∷ codes "^~" ∷ codes "+:" ∷ codes "-:" ∷ []

unfoldable pub is_sign : List ℕ → Bool
is_sign bytes = list_any (bytes_eq bytes) signs

-- what follows `(*` is no `)`
abbrev pub is_close : ℕ → Bool
is_close byte = byte == 41

-- a comment or an attribute begins the text
pub data OpensSkip (text : List ℕ) : Type 0 where
  opens_line : (rest : List ℕ) → text ≡ codes "//" ++ rest → OpensSkip text
  opens_block : (rest : List ℕ) → text ≡ codes "/*" ++ rest → OpensSkip text
  opens_attribute : (rest : List ℕ) → Ends is_close rest → text ≡ codes "(*" ++ rest → OpensSkip text

-- A whole comment or attribute at the front of a text, and what follows it. One of a line ends before the newline, the others with
-- the first mark that ends them.
pub data IsSkipped (text rest : List ℕ) : Type 0 where
  line : (inside : List ℕ) → list_all is_no_newline inside ≡ true → Ends is_no_newline rest
      → text ≡ codes "//" ++ (inside ++ rest) → IsSkipped text rest
  block : (inside : List ℕ) → Lacks (codes "*/") (inside ++ codes "*")
      → text ≡ codes "/*" ++ (inside ++ (codes "*/" ++ rest)) → IsSkipped text rest
  attribute : (inside : List ℕ) → Lacks (codes "*)") (inside ++ codes "*") → Ends is_close inside
      → text ≡ codes "(*" ++ (inside ++ (codes "*)" ++ rest)) → IsSkipped text rest

-- a comment or an attribute begins the text and does not end
pub data IsOpen (text : List ℕ) : Type 0 where
  open_block : (inside : List ℕ) → Lacks (codes "*/") inside → text ≡ codes "/*" ++ inside → IsOpen text
  open_attribute : (inside : List ℕ) → Lacks (codes "*)") inside → Ends is_close inside → text ≡ codes "(*" ++ inside → IsOpen text

-- the longest sign at the front of a text, and what follows it
pub record IsSignAt (text sign rest : List ℕ) : Type 0 where
  pub listed : is_sign sign ≡ true
  pub parts : text ≡ sign ++ rest
  pub longest : (other more : List ℕ) → is_sign other ≡ true → text ≡ other ++ more → length other ≤ length sign
  pub no_skip : OpensSkip text → ⊥
