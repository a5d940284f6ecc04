-- Strings: what stands between the quotes, and the bytes that it stands for. (docs/LANGUAGE.md, "Text and tokens"; IEEE Std
-- 1364-2005, clause 3.6.)
use Rattle.std.specs.Prelude.{◌≡◌, ◌≢◌, ℕ, ◌%◌, Bool, true, false, ◌&&◌, nat_le, List, [], ◌∷◌, ◌++◌, codes}
use Rattle.std.specs.Str.Parse.{digits_value}
use Rattle.vf_lexeme.specs.Bytes.{Ends}

abbrev pub is_octal : ℕ → Bool
is_octal byte = nat_le 48 byte && nat_le byte 55

-- the low 8 bits of the value of octal digits
abbrev pub octal_byte : List ℕ → ℕ
octal_byte digits = digits_value 8 digits % 256

-- What stands after a `\`, the byte that it stands for, and what follows: `n`, `t`, one to three octal digits, as many as
-- stand there, or any other byte but a newline, which stands for itself: `\` and `"` too.
pub data IsEscape (code : List ℕ) (byte : ℕ) (rest : List ℕ) : Type 0 where
  newline : code ≡ codes "n" → byte ≡ 10 → IsEscape code byte rest
  tab : code ≡ codes "t" → byte ≡ 9 → IsEscape code byte rest
  one : (a : ℕ) → is_octal a ≡ true → Ends is_octal rest → code ≡ a ∷ [] → byte ≡ octal_byte code → IsEscape code byte rest
  two : (a b : ℕ) → is_octal a ≡ true → is_octal b ≡ true → Ends is_octal rest → code ≡ a ∷ b ∷ []
      → byte ≡ octal_byte code → IsEscape code byte rest
  three : (a b c : ℕ) → is_octal a ≡ true → is_octal b ≡ true → is_octal c ≡ true → code ≡ a ∷ b ∷ c ∷ []
      → byte ≡ octal_byte code → IsEscape code byte rest
  itself : byte ≢ 110 → byte ≢ 116 → byte ≢ 10 → is_octal byte ≡ false → code ≡ byte ∷ [] → IsEscape code byte rest

-- What stands between the quotes of a string, and the bytes that it stands for: bytes other than `"`, `\` and newline stand
-- for themselves.
pub data Spells : List ℕ → List ℕ → Type 0 where
  nothing : Spells [] []
  plain : {byte : ℕ} {rest value : List ℕ} → byte ≢ 34 → byte ≢ 92 → byte ≢ 10 → Spells rest value
      → Spells (byte ∷ rest) (byte ∷ value)
  escape : {text code rest value : List ℕ} {byte : ℕ} → IsEscape code byte rest → Spells rest value
      → text ≡ 92 ∷ (code ++ rest) → Spells text (byte ∷ value)

-- what follows the first quote of a string: the string's text, which stands for that value, its last quote, and the rest
pub record IsQuoted (after value rest : List ℕ) : Type 0 where
  pub inside : List ℕ
  pub spelled : Spells inside value
  pub closed : after ≡ inside ++ 34 ∷ rest
