-- A value as two numbers: `ones` and `unknown`, one bit each for every place. 0 is (0, 0), 1 is (1, 0), z is (0, 1), x is (1, 1).
use Rattle.std.specs.Prelude.{ℕ, ◌≡◌, ◌≤◌, ◌<◌, ◌^◌, Bool, true, false, List, length}
use Rattle.vf_fours.specs.declared.Bit.{Bit}
use Rattle.vf_fours.specs.declared.Bit.TheVariants.{Zero, One, X, Z}
use Rattle.vf_fours.specs.declared.planes.Planes.{Planes}
use Rattle.vf_fours.specs.Bits.{tabulate}
use Rattle.vf_fours.specs.Numbers.{weight_of, bit_is}

abbrev pub bit_of : Bool → Bool → Bit
bit_of false false = Zero
bit_of true false = One
bit_of false true = Z
bit_of true true = X

-- the bit at a place of two planes
unfoldable pub bit_from : ℕ → ℕ → ℕ → Bit
bit_from ones unknown i = bit_of (bit_is ones i) (bit_is unknown i)

-- the bits of two planes
unfoldable pub bits_of : ℕ → ℕ → ℕ → List Bit
bits_of width ones unknown = tabulate (λ i. bit_from ones unknown i) width

-- 1 and x are set in the plane of ones
abbrev pub in_ones : Bit → ℕ
in_ones Zero = 0
in_ones One = 1
in_ones X = 1
in_ones Z = 0

-- x and z are set in the plane of the unknown
abbrev pub in_unknown : Bit → ℕ
in_unknown Zero = 0
in_unknown One = 0
in_unknown X = 1
in_unknown Z = 1

-- the planes of a list of bits
abbrev pub ones_of : List Bit → ℕ
ones_of bits = weight_of in_ones bits

abbrev pub unknown_of : List Bit → ℕ
unknown_of bits = weight_of in_unknown bits

-- the bit at a place of a pair of planes
abbrev pub plane_bit : Planes → ℕ → Bit
plane_bit p i = bit_from p.ones p.unknown i

-- no plane has a bit from a place on
pub record IsBelow (p : Planes) (width : ℕ) : Type 0 where
  pub ones_fit : p.ones < 2 ^ width
  pub unknown_fit : p.unknown < 2 ^ width

-- the planes are those of a list of 1 to 128 bits
pub record Shows (p : Planes) (bits : List Bit) : Type 0 where
  pub bits_are : bits ≡ bits_of (length bits) p.ones p.unknown
  pub below : IsBelow p (length bits)
  pub some : 1 ≤ length bits
  pub most : length bits ≤ 128
