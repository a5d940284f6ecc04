-- What a format prints of a value (docs/LANGUAGE.md, "Printed values"; IEEE Std 1364-2005, 17.1.1, of which this is an own form).
use Rattle.std.specs.Prelude.{ℕ, zero, suc, ◌+◌, ◌-◌, ◌*◌, ◌^◌, Bool, true, false, ◌==◌, nat_lt, if◌then◌else◌, List, [], ◌∷◌, ◌++◌, length, take, drop, replicate, decimal, Option, Some, None, unwrap_or}
use Rattle.std.specs.List.{list_any, list_all}
use Rattle.std.specs.Fmt.{signed_decimal}
use Rattle.std.specs.Int.{div_ceil}
use Rattle.vf_fours.specs.declared.Bit.{Bit}
use Rattle.vf_fours.specs.declared.Bit.TheVariants.{Zero, One, X, Z}
use Rattle.vf_fours.specs.Bits.{FourState, is_z}
use Rattle.vf_fours.specs.Numbers.{number, integer}
use Rattle.vf_fours.specs.Operators.{resize_of}
use Rattle.vf_format.specs.declared.format.Form.{Form}
use Rattle.vf_format.specs.declared.format.Form.TheVariants.{Dec, Hex, Oct, Bin, Char, Str, Time}

-- ---- lists from the top down

-- f (n - 1), .., f 1, f 0
unfoldable pub falling : (ℕ → ℕ) → ℕ → List ℕ
falling f zero = []
falling f (suc n) = f n ∷ falling f n

-- a text without the bytes c that it begins with
abbrev pub without_first : ℕ → List ℕ → List ℕ
without_first c [] = []
without_first c (d ∷ rest) = if d == c then without_first c rest else d ∷ rest

-- a text without the digits 0 that it begins with, down to one digit
abbrev pub trimmed : List ℕ → List ℕ
trimmed [] = []
trimmed (c ∷ []) = c ∷ []
trimmed (c ∷ d ∷ rest) = if c == 48 then trimmed (d ∷ rest) else c ∷ d ∷ rest

-- ---- digits

abbrev pub is_x : Bit → Bool
is_x Zero = false
is_x One = false
is_x X = true
is_x Z = false

-- The letter for bits that are not all known: x and z where all of them are that; else X where there is an x, and Z.
unfoldable pub letter_of : List Bit → Option ℕ
letter_of bits =
    if list_any is_x bits then Some (if list_all is_x bits then 120 else 88)
    else (if list_any is_z bits then Some (if list_all is_z bits then 122 else 90) else None)

-- 0 to 9, then a to f
abbrev pub digit_char : ℕ → ℕ
digit_char n = if nat_lt n 10 then 48 + n else 87 + n

-- one digit for a few bits
unfoldable pub digit_of : List Bit → ℕ
digit_of bits = unwrap_or (letter_of bits) (digit_char (number bits))

-- The bits of digit k, where a digit stands for so many bits. Digits are counted from the least, and the top one may have fewer.
abbrev pub group : ℕ → List Bit → ℕ → List Bit
group size bits k = take size (drop (size * k) bits)

unfoldable pub digit_at : ℕ → List Bit → ℕ → ℕ
digit_at size bits k = digit_of (group size bits k)

-- one digit for each group of bits
abbrev pub digits : ℕ → List Bit → List ℕ
digits size bits = falling (digit_at size bits) (div_ceil (length bits) size)

abbrev pub digits_text : ℕ → Bool → List Bit → List ℕ
digits_text size least bits = if least then trimmed (digits size bits) else digits size bits

-- ---- decimal

abbrev pub number_or_letter : Option ℕ → List ℕ → List ℕ
number_or_letter (Some letter) text = letter ∷ []
number_or_letter None text = text

unfoldable pub decimal_of : FourState → List ℕ
decimal_of a = number_or_letter (letter_of a.bits) (signed_decimal (integer a.signed a.bits))

-- as wide as the greatest number of the width, and one wider where the value is signed
unfoldable pub field_of : Bool → FourState → ℕ
field_of least a = if least then 0 else length (decimal (2 ^ length a.bits - 1)) + (if a.signed then 1 else 0)

-- spaces before a text that is shorter than the field
abbrev pub padded : ℕ → List ℕ → List ℕ
padded field text = replicate (field - length text) 32 ++ text

abbrev pub decimal_text : Bool → FourState → List ℕ
decimal_text least a = padded (field_of least a) (decimal_of a)

-- ---- bytes

-- eight bits as a byte, of which x and z count as 0
unfoldable pub byte_at : List Bit → ℕ → ℕ
byte_at bits k = number (group 8 bits k)

-- the bytes of the value from the top, without the zero bytes before the first other one
abbrev pub bytes_text : List Bit → List ℕ
bytes_text bits = without_first 0 (falling (byte_at bits) (div_ceil (length bits) 8))

-- ---- the formats

-- what a format prints of a value; `least` asks for the least width
abbrev pub printed : Form → Bool → FourState → List ℕ
printed Dec least a = decimal_text least a
printed Hex least a = digits_text 4 least a.bits
printed Oct least a = digits_text 3 least a.bits
printed Bin least a = digits_text 1 least a.bits
printed Char least a = byte_at a.bits 0 ∷ []
printed Str least a = bytes_text a.bits
printed Time least a = decimal_text least (resize_of a 64 false)
