-- The tokens of an early design's text (IEEE Std 1364-2005, clause 3). A token is its bytes.
use Rattle.std.specs.Prelude.{◌≡◌, ◌≢◌, ℕ, Bool, true, false, ◌==◌, ◌&&◌, ◌||◌, nat_le, List, [], ◌∷◌, ◌++◌, codes}
use Rattle.std.specs.List.{list_all}

abbrev pub is_digit : ℕ → Bool
is_digit byte = nat_le 48 byte && nat_le byte 57

abbrev pub is_letter : ℕ → Bool
is_letter byte = (nat_le 65 byte && nat_le byte 90) || (nat_le 97 byte && nat_le byte 122)

-- space, tab, newline, form feed and carriage return
abbrev pub is_blank : ℕ → Bool
is_blank byte = byte == 32 || byte == 9 || byte == 10 || byte == 12 || byte == 13

-- a byte of a name: a letter, a digit, `_` or `$` (3.7)
abbrev pub is_name_byte : ℕ → Bool
is_name_byte byte = is_letter byte || is_digit byte || byte == 95 || byte == 36

-- a byte of a word: names, system names and numbers, `32'h8000_0000` too, are words
abbrev pub is_word_byte : ℕ → Bool
is_word_byte byte = is_name_byte byte || byte == 39

-- what follows does not begin with a word byte, so that the word before it ends there
abbrev pub EndsWord : List ℕ → Type 0
EndsWord [] = Unit {0}
EndsWord (byte ∷ rest) = is_word_byte byte ≡ false

-- what follows does not begin with `=`
abbrev pub EndsAssign : List ℕ → Type 0
EndsAssign [] = Unit {0}
EndsAssign (byte ∷ rest) = byte ≢ 61

-- What stands between the quotes of a string (3.6): bytes other than `"`, `\` and newline, and `\` with a byte after it
-- that is no newline.
pub data IsQuotable : List ℕ → Type 0 where
  nothing : IsQuotable []
  plain : {byte : ℕ} {rest : List ℕ} → byte ≢ 34 → byte ≢ 92 → byte ≢ 10 → IsQuotable rest → IsQuotable (byte ∷ rest)
  escape : {byte : ℕ} {rest : List ℕ} {text : List ℕ} → byte ≢ 10 → IsQuotable rest → text ≡ 92 ∷ byte ∷ rest → IsQuotable text

-- A token, and what follows it in the text: a longest run of word bytes, a string on one line, or a sign. The longest
-- sign is taken.
pub data IsToken (token rest : List ℕ) : Type 0 where
  word : (first : ℕ) (more : List ℕ) → is_word_byte first ≡ true → list_all is_word_byte more ≡ true → EndsWord rest → token ≡ first ∷ more → IsToken token rest
  quoted : (inside : List ℕ) → IsQuotable inside → token ≡ 34 ∷ (inside ++ 34 ∷ []) → IsToken token rest
  semicolon : token ≡ codes ";" → IsToken token rest
  open_paren : token ≡ codes "(" → IsToken token rest
  close_paren : token ≡ codes ")" → IsToken token rest
  minus : token ≡ codes "-" → IsToken token rest
  comma : token ≡ codes "," → IsToken token rest
  equal : token ≡ codes "==" → IsToken token rest
  differs : token ≡ codes "!=" → IsToken token rest
  assign : EndsAssign rest → token ≡ codes "=" → IsToken token rest

-- the text is these tokens, with blanks before, between and after them
abbrev pub IsTokens : List ℕ → List (List ℕ) → Type 0
IsTokens bytes [] = list_all is_blank bytes ≡ true
IsTokens bytes (token ∷ tokens) = (blanks : List ℕ) × (rest : List ℕ) × (list_all is_blank blanks ≡ true) × IsToken token rest × (bytes ≡ blanks ++ (token ++ rest)) × IsTokens rest tokens
