-- What the code does, as functions on lists. The definitions of numbers do not rest on them: the proofs show that they read exactly
-- what those say.
use Rattle.std.specs.Prelude.{◌≡◌, ℕ, ◌+◌, ◌-◌, ◌*◌, ◌^◌, Bool, true, false, ◌==◌, ◌||◌, ◌&&◌, nat_lt, List, [], ◌∷◌, ◌++◌, take, Option, Some, None, Result, Ok, Err, if◌then◌else◌}
use Rattle.std.specs.Char.{digit_value}
use Rattle.std.specs.List.{list_all}
use Rattle.vf_fours.specs.declared.Bit.{Bit}
use Rattle.vf_fours.specs.Bits.{FourState}
use Rattle.vf_fours.specs.Numbers.{digits_of}
use Rattle.vf_number.specs.declared.bases.Base.{Base}
use Rattle.vf_number.specs.declared.bases.Base.TheVariants as bases
use Rattle.vf_number.specs.declared.bases.Base.TheVariants.{Binary, Octal, Hex}
use Rattle.vf_number.specs.declared.classes.Class.{Class}
use Rattle.vf_number.specs.declared.classes.Class.TheVariants.{Blank, Decimal, Underscore, Digits}
use Rattle.vf_number.specs.declared.fault.NumberFault.{NumberFault}
use Rattle.vf_number.specs.declared.fault.NumberFault.TheVariants.{BadNumber, TooWide}
use Rattle.vf_number.specs.Bytes.{is_blank}
use Rattle.vf_number.specs.Runs.{run, after_run}
use Rattle.vf_number.specs.Numbers.{Read, is_decimal_byte, is_underscore, is_byte_of, is_digit_of, is_unknown, base_of, decimal_value, is_unknown_at, digit_bits, digit_width, bits_at, is_too_large}

-- ---- classes and answers

abbrev pub in_class : Class → ℕ → Bool
in_class Blank byte = is_blank byte
in_class Decimal byte = is_decimal_byte byte
in_class Underscore byte = is_underscore byte
in_class (Digits base) byte = is_byte_of base byte

-- what a function returned, seen by view, is what reading gives
abbrev pub Shows : {X Y E : Type 0} → (X → Y) → Result X E → Result Y E → Type 0
Shows view (Ok x) read = read ≡ Ok (view x)
Shows view (Err e) read = read ≡ Err e

infixl 10 ◌>>=◌
abbrev pub ◌>>=◌ : {A B : Type 0} → Result A NumberFault → (A → Result B NumberFault) → Result B NumberFault
(Ok x) >>= f = f x
(Err e) >>= f = Err e

-- ---- numbers

-- a number where it is below a limit
abbrev pub below : ℕ → ℕ → Option ℕ
below limit n = if nat_lt n limit then Some n else None

-- a number with one more decimal digit, or as it is before a `_`
unfoldable pub appended : ℕ → ℕ → Option ℕ
appended n byte = if byte == 95 then Some n else below (2 ^ 128) (n * 10 + digit_value byte)

unfoldable pub width_at : List ℕ → Result ℕ NumberFault
width_at [] = Ok 32
width_at (first ∷ more) =
    let n = decimal_value (first ∷ more) in
    if n == 0 then Err BadNumber else if nat_lt 128 n then Err TooWide else Ok n

unfoldable pub mark_at : List ℕ → Bool × List ℕ
mark_at [] = (false, [])
mark_at (first ∷ rest) = if first == 115 || first == 83 then (true, rest) else (false, first ∷ rest)

abbrev pub seen_base : Option Base → List ℕ → Result (Base × List ℕ) NumberFault
seen_base (Some base) rest = Ok (base, rest)
seen_base None rest = Err BadNumber

unfoldable pub base_at : List ℕ → Result (Base × List ℕ) NumberFault
base_at [] = Err BadNumber
base_at (first ∷ rest) = seen_base (base_of first) rest

abbrev pub is_decimal : Base → Bool
is_decimal Binary = false
is_decimal Octal = false
is_decimal bases.Decimal = true
is_decimal Hex = false

-- digits of a base, or of a decimal one that is not known
abbrev pub AreDigits : Base → List ℕ → Type 0
AreDigits Binary digits = list_all (is_byte_of Binary) digits ≡ true
AreDigits Octal digits = list_all (is_byte_of Octal) digits ≡ true
AreDigits bases.Decimal digits = is_unknown_at digits ≡ false → list_all is_decimal_byte digits ≡ true
AreDigits Hex digits = list_all (is_byte_of Hex) digits ≡ true

-- the low 128 bits of a value with one more digit after it
unfoldable pub with_digit : Base → ℕ → List Bit → List Bit
with_digit base byte bits = if is_underscore byte then bits else digit_bits base byte ++ take (128 - digit_width base) bits

-- with all digits after it, one after the other
unfoldable pub with_digits : Base → List ℕ → List Bit → List Bit
with_digits base [] bits = bits
with_digits base (byte ∷ rest) bits = with_digits base rest (with_digit base byte bits)

unfoldable pub digits_at : Base → List ℕ → Result (List ℕ × List ℕ) NumberFault
digits_at base [] = Err BadNumber
digits_at base (first ∷ rest) =
    if is_digit_of base first then Ok (run (is_byte_of base) (first ∷ rest), after_run (is_byte_of base) (first ∷ rest)) else
    if is_decimal base && is_unknown first then Ok (first ∷ run is_underscore rest, after_run is_underscore rest) else Err BadNumber

-- the low 128 bits of digits
unfoldable pub value_at : Base → List ℕ → Result (List Bit) NumberFault
value_at base digits = if is_too_large base digits then Err BadNumber else Ok (bits_at base 128 digits)

-- the low bits of a value
abbrev pub cut : FourState → ℕ → Bool → FourState
cut value width signed = record { bits = take width value.bits; signed = signed }

-- the number of a size, or of none, and of what follows its `'`
unfoldable pub based_at : List ℕ → List ℕ → Read
based_at size text = do
  base ← base_at (mark_at text).1
  digits ← digits_at base.0 (after_run is_blank base.1)
  bits ← value_at base.0 digits.0
  width ← width_at size
  Ok (record { bits = take width bits; signed = (mark_at text).0 }, digits.1)

unfoldable pub plain_at : List ℕ → List ℕ → Read
plain_at digits rest =
    let n = decimal_value digits in
    if nat_lt n (2 ^ 32) then Ok (record { bits = digits_of 32 n; signed = true }, rest) else Err BadNumber

-- the number of digits, what follows them, and what follows with no blank before it
unfoldable pub plain_or_based : List ℕ → List ℕ → List ℕ → Read
plain_or_based digits rest [] = plain_at digits rest
plain_or_based digits rest (first ∷ more) = if first == 39 then based_at digits more else plain_at digits rest

unfoldable pub number_at : List ℕ → Read
number_at text = plain_or_based (run is_decimal_byte text) (after_run is_decimal_byte text) (after_run is_blank (after_run is_decimal_byte text))
