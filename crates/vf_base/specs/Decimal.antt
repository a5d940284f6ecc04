-- Decimal numbers of at most 64 bits.
use Rattle.std.specs.Prelude.{ℕ, ◌<◌, ◌^◌, List, length}
use Rattle.std.specs.Str.Parse.{AllDigits, digits_value}

-- the text is one or more decimal digits, and writes a number of at most 64 bits
pub record IsDecimal (text : List ℕ) : Type 0 where
  pub some : 0 < length text
  pub digits : AllDigits 10 text
  pub fits : digits_value 10 text < 2 ^ 64
