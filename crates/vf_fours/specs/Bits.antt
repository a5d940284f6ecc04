-- A value as its bits, least first, and what the operators do to one bit and to a pair of bits. (IEEE Std 1364-2005, clauses 4.1 and 5.1.)
use Rattle.std.specs.Prelude.{ℕ, zero, suc, Bool, true, false, ◌||◌, not, List, [], ◌∷◌, ◌-◌, length, slice_index_or, replicate}
use Rattle.std.specs.List.{list_all}
use Rattle.vf_fours.specs.declared.Bit.{Bit}
use Rattle.vf_fours.specs.declared.Bit.TheVariants.{Zero, One, X, Z}

-- a value: its bits, least first, and its sign mark
pub record FourState : Type 0 where
  pub bits : List Bit
  pub signed : Bool

-- ---- one bit

-- the bit as an operator sees it: z counts as x
abbrev pub settled_bit : Bit → Bit
settled_bit Zero = Zero
settled_bit One = One
settled_bit X = X
settled_bit Z = X

abbrev pub is_known : Bit → Bool
is_known Zero = true
is_known One = true
is_known X = false
is_known Z = false

abbrev pub is_one : Bit → Bool
is_one Zero = false
is_one One = true
is_one X = false
is_one Z = false

abbrev pub is_zero : Bit → Bool
is_zero Zero = true
is_zero One = false
is_zero X = false
is_zero Z = false

abbrev pub is_z : Bit → Bool
is_z Zero = false
is_z One = false
is_z X = false
is_z Z = true

-- `~` (clause 5.1.10)
abbrev pub not_bit : Bit → Bit
not_bit Zero = One
not_bit One = Zero
not_bit X = X
not_bit Z = X

-- ---- a pair of bits

-- `&`: 0 where a side is 0, 1 where both are 1, else x (clause 5.1.10)
abbrev pub and_bit : Bit → Bit → Bit
and_bit Zero b = Zero
and_bit a Zero = Zero
and_bit One One = One
and_bit a b = X

-- `|`: 1 where a side is 1, 0 where both are 0, else x (clause 5.1.10)
abbrev pub or_bit : Bit → Bit → Bit
or_bit One b = One
or_bit a One = One
or_bit Zero Zero = Zero
or_bit a b = X

-- `^`: x where a side is not known (clause 5.1.10)
abbrev pub xor_bit : Bit → Bit → Bit
xor_bit Zero Zero = Zero
xor_bit One One = Zero
xor_bit Zero One = One
xor_bit One Zero = One
xor_bit a b = X

-- `~^` (clause 5.1.10)
abbrev pub xnor_bit : Bit → Bit → Bit
xnor_bit a b = not_bit (xor_bit a b)

-- `?:` with a condition that is not known: what both arms agree on (clause 5.1.13)
abbrev pub merge_bit : Bit → Bit → Bit
merge_bit Zero Zero = Zero
merge_bit One One = One
merge_bit a b = X

-- two drivers of one wire: z yields, and what does not agree is x (clause 4.6.1)
abbrev pub wire_bit : Bit → Bit → Bit
wire_bit Z b = b
wire_bit a Z = a
wire_bit Zero Zero = Zero
wire_bit One One = One
wire_bit a b = X

-- the bits are the same, x and z included
abbrev pub same_bit : Bit → Bit → Bool
same_bit Zero Zero = true
same_bit One One = true
same_bit X X = true
same_bit Z Z = true
same_bit a b = false

-- one bit is 0 and the other 1
abbrev pub differ : Bit → Bit → Bool
differ Zero One = true
differ One Zero = true
differ a b = false

-- `casez`: the same, or a side is z
abbrev pub fits_z : Bit → Bit → Bool
fits_z a b = same_bit a b || (is_z a || is_z b)

-- `casex`: the same, or a side is x or z
abbrev pub fits_x : Bit → Bit → Bool
fits_x a b = same_bit a b || (not (is_known a) || not (is_known b))

-- ---- lists of bits

-- the answers of f at each place that both lists have
unfoldable pub zip_with : {A : Type 0} → (Bit → Bit → A) → List Bit → List Bit → List A
zip_with f [] bs = []
zip_with f (a ∷ rest) [] = []
zip_with f (a ∷ rest) (b ∷ bs) = f a b ∷ zip_with f rest bs

-- the list f 0, f 1, .. of n elements
unfoldable pub tabulate : {A : Type 0} → (ℕ → A) → ℕ → List A
tabulate f zero = []
tabulate f (suc n) = f 0 ∷ tabulate (λ i. f (suc i)) n

-- the bit at a place, and x outside
abbrev pub bit_in : List Bit → ℕ → Bit
bit_in bits i = slice_index_or bits i X

-- the top bit
abbrev pub top : List Bit → Bit
top bits = bit_in bits (length bits - 1)

abbrev pub all_x : ℕ → List Bit
all_x width = replicate width X

-- no bit is x or z
unfoldable pub all_known : List Bit → Bool
all_known bits = list_all is_known bits
