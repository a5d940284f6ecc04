-- What holds of the numbers of every text.
use Rattle.std.specs.Prelude.{◌≡◌, ℕ, List, Ok}
use Rattle.vf_fours.specs.Bits.{FourState}
use Rattle.vf_number.specs.Bytes.{IsRest}
use Rattle.vf_number.specs.Numbers.{Read, IsNumber, BeginsNumber}

-- one number or one fault at most stands at the front of a text
abbrev pub NumbersOnce : Type 0
NumbersOnce = (text : List ℕ) (seen other : Read) → IsNumber text seen → IsNumber text other → seen ≡ other

-- a number or its fault stands at the front of a text where one begins, and of no other
abbrev pub NumbersSome : Type 0
NumbersSome = ((text : List ℕ) → BeginsNumber text → (seen : Read) × IsNumber text seen)
    × ((text : List ℕ) (seen : Read) → IsNumber text seen → BeginsNumber text)

-- a number takes one byte or more, and leaves what is after it
abbrev pub NumbersTake : Type 0
NumbersTake = (text : List ℕ) (value : FourState) (rest : List ℕ) → IsNumber text (Ok (value, rest)) → IsRest text rest
