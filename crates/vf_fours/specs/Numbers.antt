-- The number that known bits stand for, and the bits of a number. (IEEE Std 1364-2005, clauses 4.1.3 and 5.1.5.)
use Rattle.std.specs.Prelude.{ℕ, Bool, true, false, ◌&&◌, List, [], ◌∷◌, length, ◌+◌, ◌*◌, ◌^◌, ℤ, pos, negsuc, ◌-ℤ◌, neg_ℤ, unsigned_abs, if◌then◌else◌, nat_eq, nat_lt, Option, Some, None}
use Rattle.std.specs.Int.{int_rem_euclid, bit_at}
use Rattle.vf_fours.specs.declared.Bit.{Bit}
use Rattle.vf_fours.specs.declared.Bit.TheVariants.{Zero, One, X, Z}
use Rattle.vf_fours.specs.Bits.{FourState, is_one, top, tabulate, all_known}

-- the sum of 2^i over the places i of a list, of which each bit counts as the weight says
unfoldable pub weight_of : (Bit → ℕ) → List Bit → ℕ
weight_of weight [] = 0
weight_of weight (b ∷ bs) = weight b + 2 * weight_of weight bs

-- a 1 counts
abbrev pub of_one : Bit → ℕ
of_one Zero = 0
of_one One = 1
of_one X = 0
of_one Z = 0

-- the sum of 2^i over the 1 bits
abbrev pub number : List Bit → ℕ
number bits = weight_of of_one bits

-- the number, less 2^w where the reading is signed and the top bit is 1
unfoldable pub integer : Bool → List Bit → ℤ
integer signed bits =
    if signed && is_one (top bits) then pos (number bits) -ℤ pos (2 ^ length bits) else pos (number bits)

-- what is left of an integer modulo 2^w, from 0 to 2^w - 1
unfoldable pub residue : ℕ → ℤ → ℕ
residue width z = unsigned_abs (int_rem_euclid z (pos (2 ^ width)))

-- the bit 0 or 1
abbrev pub digit : Bool → Bit
digit false = Zero
digit true = One

-- the test whether bit i of a number is 1
abbrev pub bit_is : ℕ → ℕ → Bool
bit_is n i = nat_eq (bit_at n i) 1

-- the low bits of a number
unfoldable pub digits_of : ℕ → ℕ → List Bit
digits_of width n = tabulate (λ i. digit (bit_is n i)) width

-- the bits of an integer modulo 2^w
abbrev pub wrapped_bits : ℕ → ℤ → List Bit
wrapped_bits width z = digits_of width (residue width z)

-- the number of a value without its mark, where no bit is x or z
unfoldable pub u128_of : FourState → Option ℕ
u128_of a = if all_known a.bits then Some (number a.bits) else None

-- the integer lies from -2^n to 2^n - 1
abbrev pub fits : ℕ → ℤ → Bool
fits n (pos z) = nat_lt z (2 ^ n)
fits n (negsuc z) = nat_lt z (2 ^ n)

-- the number of a value by its mark, where no bit is x or z and it fits
unfoldable pub fitting : ℕ → FourState → Option ℤ
fitting n a =
    let z = integer a.signed a.bits in
    if all_known a.bits && fits n z then Some z else None

-- the number, where it fits an i64
abbrev pub narrower : ℤ → Option ℤ
narrower z = if fits 63 z then Some z else None

abbrev pub i64_of : FourState → Option ℤ
i64_of = fitting 63

abbrev pub i128_of : FourState → Option ℤ
i128_of = fitting 127

-- the number, or its opposite
abbrev pub with_sign : Bool → ℕ → ℤ
with_sign false n = pos n
with_sign true n = neg_ℤ (pos n)

abbrev pub is_below_zero : ℤ → Bool
is_below_zero (pos n) = false
is_below_zero (negsuc n) = true
