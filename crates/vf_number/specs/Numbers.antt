-- Numbers: their shape, their size and their bits. (docs/LANGUAGE.md, "Text and tokens"; IEEE Std 1364-2005, clause 3.5.)
use Rattle.std.specs.Prelude.{◌≡◌, ℕ, ◌^◌, ◌≤◌, ◌<◌, Bool, true, false, ◌==◌, ◌&&◌, ◌||◌, not, nat_le, List, [], ◌∷◌, ◌++◌, take, filter, replicate, Option, Some, None, Result, Ok, Err, if◌then◌else◌}
use Rattle.std.specs.List.{list_all}
use Rattle.std.specs.Char.{digit_value}
use Rattle.std.specs.Str.Parse.{digits_value}
use Rattle.vf_fours.specs.declared.Bit.{Bit}
use Rattle.vf_fours.specs.declared.Bit.TheVariants.{Zero, X, Z}
use Rattle.vf_fours.specs.Bits.{FourState}
use Rattle.vf_fours.specs.Numbers.{digits_of}
use Rattle.vf_number.specs.declared.bases.Base.{Base}
use Rattle.vf_number.specs.declared.bases.Base.TheVariants.{Binary, Octal, Decimal, Hex}
use Rattle.vf_number.specs.declared.fault.NumberFault.{NumberFault}
use Rattle.vf_number.specs.declared.fault.NumberFault.TheVariants.{BadNumber, TooWide}
use Rattle.vf_number.specs.Bytes.{is_digit, is_blank, Ends}

-- ---- decimal digits

abbrev pub is_underscore : ℕ → Bool
is_underscore byte = byte == 95

abbrev pub is_decimal_byte : ℕ → Bool
is_decimal_byte byte = is_digit byte || is_underscore byte

-- a digit, then digits and `_`
abbrev pub IsUnsigned : List ℕ → Type 0
IsUnsigned [] = ⊥
IsUnsigned (first ∷ more) = (is_digit first ≡ true) × (list_all is_decimal_byte more ≡ true)

-- the number that decimal digits write, without their `_`
abbrev pub decimal_value : List ℕ → ℕ
decimal_value digits = digits_value 10 (filter (λ byte. not (is_underscore byte)) digits)

-- ---- digits of a base

-- `x` in either case
abbrev pub is_x : ℕ → Bool
is_x byte = byte == 120 || byte == 88

-- `z` in either case, or `?`
abbrev pub is_z : ℕ → Bool
is_z byte = byte == 122 || byte == 90 || byte == 63

abbrev pub is_unknown : ℕ → Bool
is_unknown byte = is_x byte || is_z byte

-- the base that a letter names, in either case
abbrev pub base_of : ℕ → Option Base
base_of letter =
    if letter == 98 || letter == 66 then Some Binary else
    if letter == 111 || letter == 79 then Some Octal else
    if letter == 100 || letter == 68 then Some Decimal else
    if letter == 104 || letter == 72 then Some Hex else None

-- the digits of a base; a decimal's are numbers alone
abbrev pub is_digit_of : Base → ℕ → Bool
is_digit_of Binary byte = byte == 48 || byte == 49 || is_unknown byte
is_digit_of Octal byte = (nat_le 48 byte && nat_le byte 55) || is_unknown byte
is_digit_of Decimal byte = is_digit byte
is_digit_of Hex byte = is_digit byte || (nat_le 97 byte && nat_le byte 102) || (nat_le 65 byte && nat_le byte 70) || is_unknown byte

-- a digit of the base, or `_`
abbrev pub is_byte_of : Base → ℕ → Bool
is_byte_of base byte = is_digit_of base byte || is_underscore byte

-- The digits of a based number, and what follows: a digit of the base and any digits and `_`, or for a decimal one `x`, `z` or
-- `?` and any `_`.
pub data IsDigits (base : Base) (digits rest : List ℕ) : Type 0 where
  known : (first : ℕ) (more : List ℕ) → is_digit_of base first ≡ true → list_all (is_byte_of base) more ≡ true
      → Ends (is_byte_of base) rest → digits ≡ first ∷ more → IsDigits base digits rest
  unknown : (first : ℕ) (more : List ℕ) → base ≡ Decimal → is_unknown first ≡ true → list_all is_underscore more ≡ true
      → Ends is_underscore rest → digits ≡ first ∷ more → IsDigits base digits rest

-- ---- bits

-- how many bits a digit of the base has
abbrev pub digit_width : Base → ℕ
digit_width Binary = 1
digit_width Octal = 3
digit_width Decimal = 0
digit_width Hex = 4

-- the bits of a digit, least first
abbrev pub digit_bits : Base → ℕ → List Bit
digit_bits base byte =
    if is_x byte then replicate (digit_width base) X else
    if is_z byte then replicate (digit_width base) Z else
    digits_of (digit_width base) (digit_value byte)

-- the bits of digits, least first: those of the digits after a digit stand below its own; a `_` has none
unfoldable pub spelled_bits : Base → List ℕ → List Bit
spelled_bits base [] = []
spelled_bits base (byte ∷ rest) = spelled_bits base rest ++ (if is_underscore byte then [] else digit_bits base byte)

-- what fills a number above its leftmost digit
abbrev pub fill_of : List ℕ → Bit
fill_of [] = Zero
fill_of (first ∷ more) = if is_x first then X else if is_z first then Z else Zero

-- the digits are `x`, `z` or `?` at their left
abbrev pub is_unknown_at : List ℕ → Bool
is_unknown_at [] = false
is_unknown_at (first ∷ more) = is_unknown first

-- the bits of the digits of a base at a width: high bits above it are dropped, and missing ones are filled
unfoldable pub bits_at : Base → ℕ → List ℕ → List Bit
bits_at Binary width digits = take width (spelled_bits Binary digits ++ replicate width (fill_of digits))
bits_at Octal width digits = take width (spelled_bits Octal digits ++ replicate width (fill_of digits))
bits_at Decimal width digits =
    if is_unknown_at digits then replicate width (fill_of digits) else digits_of width (decimal_value digits)
bits_at Hex width digits = take width (spelled_bits Hex digits ++ replicate width (fill_of digits))

-- a decimal above 2^128 - 1
unfoldable pub is_too_large : Base → List ℕ → Bool
is_too_large Binary digits = false
is_too_large Octal digits = false
is_too_large Decimal digits = not (is_unknown_at digits) && nat_le (2 ^ 128) (decimal_value digits)
is_too_large Hex digits = false

-- ---- shape

-- what stands up to the `'` of a based number and with it, the size that it gives, and what follows
pub data IsSized (text : List ℕ) (size : Option ℕ) (rest : List ℕ) : Type 0 where
  unsized : text ≡ 39 ∷ rest → size ≡ None → IsSized text size rest
  sized : (digits blanks : List ℕ) → IsUnsigned digits → list_all is_blank blanks ≡ true
      → text ≡ digits ++ (blanks ++ 39 ∷ rest) → size ≡ Some (decimal_value digits) → IsSized text size rest

-- what stands after the `'`: an `s` in either case or none, a base, blanks and digits
pub data IsBased (text : List ℕ) (signed : Bool) (base : Base) (digits rest : List ℕ) : Type 0 where
  unmarked : (letter : ℕ) (blanks : List ℕ) → base_of letter ≡ Some base → list_all is_blank blanks ≡ true
      → IsDigits base digits rest → text ≡ letter ∷ (blanks ++ (digits ++ rest)) → signed ≡ false
      → IsBased text signed base digits rest
  marked : (mark letter : ℕ) (blanks : List ℕ) → (mark == 115 || mark == 83) ≡ true → base_of letter ≡ Some base
      → list_all is_blank blanks ≡ true → IsDigits base digits rest → text ≡ mark ∷ letter ∷ (blanks ++ (digits ++ rest))
      → signed ≡ true → IsBased text signed base digits rest

-- the width of a number: its size, and 32 bits without one
abbrev pub width_of : Option ℕ → ℕ
width_of None = 32
width_of (Some n) = n

-- a `'` after any blanks
pub record IsTicked (text : List ℕ) : Type 0 where
  pub blanks : List ℕ
  pub rest : List ℕ
  pub blank : list_all is_blank blanks ≡ true
  pub ticked : text ≡ blanks ++ 39 ∷ rest

-- a number's value and what follows it, or its fault
abbrev pub Read : Type 0
Read = Result (FourState × List ℕ) NumberFault

-- A number at the front of a text: its value and what follows it, or its fault.
pub data IsNumber (text : List ℕ) (seen : Read) : Type 0 where
  plain : (digits rest : List ℕ) → IsUnsigned digits → Ends is_decimal_byte rest → (IsTicked rest → ⊥) → text ≡ digits ++ rest
      → decimal_value digits < 2 ^ 32
      → seen ≡ Ok (record { bits = digits_of 32 (decimal_value digits); signed = true }, rest) → IsNumber text seen
  plain_too_large : (digits rest : List ℕ) → IsUnsigned digits → Ends is_decimal_byte rest → (IsTicked rest → ⊥)
      → text ≡ digits ++ rest → 2 ^ 32 ≤ decimal_value digits → seen ≡ Err BadNumber → IsNumber text seen
  based : (size : Option ℕ) (signed : Bool) (base : Base) (after digits rest : List ℕ) → IsSized text size after
      → IsBased after signed base digits rest → 1 ≤ width_of size → width_of size ≤ 128 → is_too_large base digits ≡ false
      → seen ≡ Ok (record { bits = bits_at base (width_of size) digits; signed = signed }, rest) → IsNumber text seen
  no_digits : (size : Option ℕ) (after : List ℕ) → IsSized text size after
      → ((signed : Bool) (base : Base) (digits rest : List ℕ) → IsBased after signed base digits rest → ⊥)
      → seen ≡ Err BadNumber → IsNumber text seen
  no_bits : (size : Option ℕ) (signed : Bool) (base : Base) (after digits rest : List ℕ) → IsSized text size after
      → IsBased after signed base digits rest → width_of size ≡ 0 → seen ≡ Err BadNumber → IsNumber text seen
  too_large : (size : Option ℕ) (signed : Bool) (base : Base) (after digits rest : List ℕ) → IsSized text size after
      → IsBased after signed base digits rest → is_too_large base digits ≡ true → seen ≡ Err BadNumber → IsNumber text seen
  too_wide : (size : Option ℕ) (signed : Bool) (base : Base) (after digits rest : List ℕ) → IsSized text size after
      → IsBased after signed base digits rest → is_too_large base digits ≡ false → 128 < width_of size → seen ≡ Err TooWide
      → IsNumber text seen

-- a number begins with a digit or with the `'` of a based one
abbrev pub begins_number : ℕ → Bool
begins_number byte = is_digit byte || byte == 39

-- the first byte of the text begins a number
abbrev pub BeginsNumber : List ℕ → Type 0
BeginsNumber [] = ⊥
BeginsNumber (first ∷ more) = begins_number first ≡ true
