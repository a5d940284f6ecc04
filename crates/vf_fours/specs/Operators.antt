-- The operators on values, each by its rule for bits or for numbers. (IEEE Std 1364-2005, clauses 4.1, 4.6, 5.1 and 9.5.)
use Rattle.std.specs.Prelude.{ℕ, ◌+◌, ◌-◌, Bool, false, ◌&&◌, List, [], ◌∷◌, ◌++◌, length, map, ℤ, pos, negsuc, ◌+ℤ◌, ◌-ℤ◌, ◌*ℤ◌, neg_ℤ, int_lt, int_le, int_div, int_rem, if◌then◌else◌, nat_lt, fold}
use Rattle.std.specs.List.{list_any, list_all}
use Rattle.vf_fours.specs.declared.Bit.{Bit}
use Rattle.vf_fours.specs.declared.Bit.TheVariants.{Zero, One, X}
use Rattle.vf_fours.specs.declared.Fold.{Fold}
use Rattle.vf_fours.specs.declared.Fold.TheVariants.{And, Nand, Or, Nor, Xor, Xnor}
use Rattle.vf_fours.specs.Bits.{FourState, settled_bit, not_bit, and_bit, or_bit, xor_bit, xnor_bit, merge_bit, wire_bit, same_bit, differ, fits_z, fits_x, is_one, is_zero, zip_with, tabulate, bit_in, top, all_x, all_known}
use Rattle.vf_fours.specs.Numbers.{number, integer, wrapped_bits, digit}

-- ---- marks, and values of one bit

-- a binary operator is signed only where both operands are
abbrev pub both_signed : FourState → FourState → Bool
both_signed a b = a.signed && b.signed

abbrev pub both_known : FourState → FourState → Bool
both_known a b = all_known a.bits && all_known b.bits

-- a bit as a value: one bit wide, unsigned
abbrev pub one_bit : Bit → FourState
one_bit b = record { bits = b ∷ []; signed = false }

-- ---- bit by bit

-- an operator on two values that works at each place by itself
unfoldable pub bitwise_of : (Bit → Bit → Bit) → FourState → FourState → FourState
bitwise_of f a b = record { bits = zip_with f a.bits b.bits; signed = both_signed a b }

abbrev pub and_of : FourState → FourState → FourState
and_of a b = bitwise_of and_bit a b

abbrev pub or_of : FourState → FourState → FourState
or_of a b = bitwise_of or_bit a b

abbrev pub xor_of : FourState → FourState → FourState
xor_of a b = bitwise_of xor_bit a b

abbrev pub xnor_of : FourState → FourState → FourState
xnor_of a b = bitwise_of xnor_bit a b

-- both arms of `?:` where the condition is not known
abbrev pub merge_of : FourState → FourState → FourState
merge_of a b = bitwise_of merge_bit a b

-- two drivers of a wire, with the mark of the first
unfoldable pub wire_of : FourState → FourState → FourState
wire_of a b = record { bits = zip_with wire_bit a.bits b.bits; signed = a.signed }

unfoldable pub not_of : FourState → FourState
not_of a = record { bits = map not_bit a.bits; signed = a.signed }

-- unary plus: z counts as x, and nothing else changes
unfoldable pub plus_of : FourState → FourState
plus_of a = record { bits = map settled_bit a.bits; signed = a.signed }

-- ---- numbers

-- an operator on integers: all x where a bit is x or z, else its answer modulo 2^w; signed where both are
unfoldable pub numeric_of : (ℤ → ℤ → ℤ) → FourState → FourState → FourState
numeric_of f a b =
    let signed = both_signed a b in
    record {
      bits = if both_known a b then wrapped_bits (length a.bits) (f (integer signed a.bits) (integer signed b.bits)) else all_x (length a.bits);
      signed = signed;
    }

abbrev pub add_of : FourState → FourState → FourState
add_of a b = numeric_of ◌+ℤ◌ a b

abbrev pub sub_of : FourState → FourState → FourState
sub_of a b = numeric_of ◌-ℤ◌ a b

abbrev pub mul_of : FourState → FourState → FourState
mul_of a b = numeric_of ◌*ℤ◌ a b

-- the same, but all x where the second operand is 0
unfoldable pub divided_of : (ℤ → ℤ → ℤ) → FourState → FourState → FourState
divided_of f a b =
    if list_all is_zero b.bits then record { bits = all_x (length a.bits); signed = both_signed a b } else numeric_of f a b

-- rounded towards zero
abbrev pub div_of : FourState → FourState → FourState
div_of a b = divided_of int_div a b

-- with the sign of the first operand
abbrev pub rem_of : FourState → FourState → FourState
rem_of a b = divided_of int_rem a b

unfoldable pub neg_of : FourState → FourState
neg_of a = record {
  bits = if all_known a.bits then wrapped_bits (length a.bits) (neg_ℤ (integer a.signed a.bits)) else all_x (length a.bits);
  signed = a.signed;
}

-- ---- shifts

-- a shift by a number of places: all x where the amount, read as unsigned, is not known
unfoldable pub shifted_of : (List Bit → ℕ → List Bit) → FourState → FourState → FourState
shifted_of f a by = record {
  bits = if all_known by.bits then f (map settled_bit a.bits) (number by.bits) else all_x (length a.bits);
  signed = a.signed;
}

-- 0 below, then the bits from the least on
abbrev pub bits_moved_up : List Bit → ℕ → List Bit
bits_moved_up bits n = tabulate (λ i. if nat_lt i n then Zero else bit_in bits (i - n)) (length bits)

-- the bits from place n on, then the fill
abbrev pub bits_moved_down : Bit → List Bit → ℕ → List Bit
bits_moved_down fill bits n = tabulate (λ i. if nat_lt (i + n) (length bits) then bit_in bits (i + n) else fill) (length bits)

abbrev pub shl_of : FourState → FourState → FourState
shl_of a by = shifted_of bits_moved_up a by

abbrev pub shr_of : FourState → FourState → FourState
shr_of a by = shifted_of (bits_moved_down Zero) a by

-- the top bit is repeated
abbrev pub sar_of : FourState → FourState → FourState
sar_of a by = shifted_of (λ bits n. bits_moved_down (top bits) bits n) a by

-- `>>>`: the top bit is repeated where the left operand is signed, else 0 comes in
abbrev pub arithmetic_shr_of : FourState → FourState → FourState
arithmetic_shr_of a by = if a.signed then sar_of a by else shr_of a by

-- ---- comparisons

-- some answer of a list is true, or each is
abbrev pub some : List Bool → Bool
some answers = list_any (λ t. t) answers

abbrev pub every : List Bool → Bool
every answers = list_all (λ t. t) answers

-- `==`: 0 where two known bits differ, else x where a bit is x or z, else 1
unfoldable pub eq_of : FourState → FourState → Bit
eq_of a b =
    if some (zip_with differ a.bits b.bits) then Zero else (if both_known a b then One else X)

-- `===`: the same bits, x and z included
unfoldable pub eqq_of : FourState → FourState → Bit
eqq_of a b = digit (every (zip_with same_bit a.bits b.bits))

-- a comparison of the integers: x where a bit is x or z; signed where both are
unfoldable pub compared_of : (ℤ → ℤ → Bool) → FourState → FourState → Bit
compared_of test a b =
    let signed = both_signed a b in
    if both_known a b then digit (test (integer signed a.bits) (integer signed b.bits)) else X

abbrev pub lt_of : FourState → FourState → Bit
lt_of a b = compared_of int_lt a b

abbrev pub le_of : FourState → FourState → Bit
le_of a b = compared_of int_le a b

-- `casez` and `casex`: each place is the same, or is ignored
unfoldable pub matches_z : FourState → FourState → Bool
matches_z a b = every (zip_with fits_z a.bits b.bits)

unfoldable pub matches_x : FourState → FourState → Bool
matches_x a b = every (zip_with fits_x a.bits b.bits)

-- ---- one bit from many

-- 1 where a bit is 1, 0 where all are 0, else x
unfoldable pub truth_of : List Bit → Bit
truth_of bits = if list_any is_one bits then One else (if list_all is_zero bits then Zero else X)

-- the operator between all bits, one after the other; `~&`, `~|` and `~^` are turned at the end
unfoldable pub reduce_of : Fold → List Bit → Bit
reduce_of And bits = fold and_bit One bits
reduce_of Nand bits = not_bit (fold and_bit One bits)
reduce_of Or bits = fold or_bit Zero bits
reduce_of Nor bits = not_bit (fold or_bit Zero bits)
reduce_of Xor bits = fold xor_bit Zero bits
reduce_of Xnor bits = not_bit (fold xor_bit Zero bits)

-- ---- parts

-- the first operand stands above the second; unsigned
unfoldable pub concat_of : FourState → FourState → FourState
concat_of a low = record { bits = low.bits ++ a.bits; signed = false }

-- the bit at a place that may lie outside, where it is x
abbrev pub bit_at_place : List Bit → ℤ → Bit
bit_at_place bits (pos i) = bit_in bits i
bit_at_place bits (negsuc i) = X

-- the bits from a place on; unsigned
unfoldable pub select_of : FourState → ℤ → ℕ → FourState
select_of a low width = record {
  bits = tabulate (λ i. bit_at_place a.bits (low +ℤ pos i)) width;
  signed = false;
}

-- cut to a width, or extended: by the top bit where the value is signed, else by 0; then with the mark given
unfoldable pub resize_of : FourState → ℕ → Bool → FourState
resize_of a width signed =
    let fill = if a.signed then top a.bits else Zero in
    record {
      bits = tabulate (λ i. if nat_lt i (length a.bits) then bit_in a.bits i else fill) width;
      signed = signed;
    }
