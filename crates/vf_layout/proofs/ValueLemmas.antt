-- A value is what its words say.
use Rattle.std.proofs.Common.{◌≡◌, ℕ, ◌+◌, ◌*◌, ◌/◌, ◌%◌, ◌^◌, ◌<◌, ◌≤◌, Bool, true, false, List, [], ◌∷◌, length, slice_index, sym, ◌∙◌, ap, ap₂, subst, arith, if◌then◌else◌}
use Rattle.std.proofs.Math.Nat.{pow-suc}
use Rattle.vf_fours.specs.declared.Bit.{Bit}
use Rattle.vf_fours.specs.declared.Bit.TheVariants.{Zero, One, X, Z}
use Rattle.vf_fours.specs.Numbers.{weight_of}
use Rattle.vf_fours.specs.Planes.{bits_of, in_ones, in_unknown, ones_of, unknown_of}
use Rattle.vf_fours.specs.Shapes.{length-bits_of, ones_of-bits_of, unknown_of-bits_of}
use Rattle.vf_elaborated.specs.Layout.{plane_at, value_at, HasValue}
use Rattle.vf_elaborated.specs.Addresses.{is_wide}
use Rattle.vf_scheduler.specs.Words.{value_words}
use Rattle.vf_scheduler.proofs.CallerLemmas.{value_told}
use Rattle.vf_layout.specs.Puts.{StandsAt}

ones_small : (b : Bit) → in_ones b ≤ 1
ones_small Zero = omega arith
ones_small One = omega arith
ones_small X = omega arith
ones_small Z = omega arith

unknown_small : (b : Bit) → in_unknown b ≤ 1
unknown_small Zero = omega arith
unknown_small One = omega arith
unknown_small X = omega arith
unknown_small Z = omega arith

weight_small : (weight : Bit → ℕ) (bits : List Bit) → ((b : Bit) → weight b ≤ 1) → weight_of weight bits < 2 ^ length bits
unfolding weight_of
weight_small weight [] small = omega arith
weight_small weight (b ∷ bits) small =
    let first = small b in
    let rest = weight_small weight bits small in
    let double = pow-suc 2 (length bits) in
    omega (arith, first, rest, double)

-- the bits of the planes of a list are the list
pub bits_again : (bits : List Bit) (width : ℕ) → length bits ≡ width → bits_of width (ones_of bits) (unknown_of bits) ≡ bits
bits_again bits width long =
    let ones = subst (λ n. ones_of bits < 2 ^ n) long (weight_small in_ones bits ones_small) in
    let unknown = subst (λ n. unknown_of bits < 2 ^ n) long (weight_small in_unknown bits unknown_small) in
    (value_told false (bits_of width (ones_of bits) (unknown_of bits)) bits [] [] (length-bits_of width (ones_of bits) (unknown_of bits) ∙ sym long)
    (ap₂ (λ a b. a ∷ b ∷ []) (ones_of-bits_of width (ones_of bits) (unknown_of bits) ones) (unknown_of-bits_of width (ones_of bits) (unknown_of bits) unknown))).same

-- ---- planes in words

-- the planes of a value at an address
pub record PlanesStand (words : List ℕ) (width at : ℕ) (bits : List Bit) : Type 0 where
  pub ones : plane_at words width at ≡ ones_of bits
  pub unknown : plane_at words width (at + 1) ≡ unknown_of bits

plane_by : List ℕ → Bool → ℕ → ℕ
plane_by words wide at = if wide then slice_index words at + 2 ^ 64 * slice_index words (at + 2) else slice_index words at

record PlanesBy (words : List ℕ) (wide : Bool) (at : ℕ) (bits : List Bit) : Type 0 where
  ones : plane_by words wide at ≡ ones_of bits
  unknown : plane_by words wide (at + 1) ≡ unknown_of bits

planes_by : (words : List ℕ) (wide : Bool) (at : ℕ) (bits : List Bit) → StandsAt words at (value_words wide bits) → PlanesBy words wide at bits
unfolding plane_by
planes_by words false at bits h = record {
  ones = ap (slice_index words) (omega arith) ∙ h 0 (omega arith);
  unknown = h 1 (omega arith);
}
planes_by words true at bits h =
    let one : slice_index words at ≡ ones_of bits % 2 ^ 64 = ap (slice_index words) (omega arith) ∙ h 0 (omega arith) in
    let two : slice_index words (at + 1) ≡ unknown_of bits % 2 ^ 64 = h 1 (omega arith) in
    let three : slice_index words (at + 2) ≡ ones_of bits / 2 ^ 64 = h 2 (omega arith) in
    let four : slice_index words (at + 1 + 2) ≡ unknown_of bits / 2 ^ 64 = ap (slice_index words) (omega arith) ∙ h 3 (omega arith) in
    record { ones = omega (arith, one, three); unknown = omega (arith, two, four) }

pub planes_stand : (words : List ℕ) (width at : ℕ) (bits : List Bit) → length bits ≡ width → StandsAt words at (value_words (is_wide (length bits)) bits) → PlanesStand words width at bits
unfolding plane_by
planes_stand words width at bits long h =
    let by = planes_by words (is_wide (length bits)) at bits h in
    let same = ap is_wide (sym long) in
    record { ones = ap (λ wide. plane_by words wide at) same ∙ by.ones; unknown = ap (λ wide. plane_by words wide (at + 1)) same ∙ by.unknown }

pub value_stands : (words : List ℕ) (width at : ℕ) (bits : List Bit) → length bits ≡ width → StandsAt words at (value_words (is_wide (length bits)) bits) → value_at words width at ≡ bits
unfolding value_at
value_stands words width at bits long h =
    let planes = planes_stand words width at bits long h in
    ap₂ (bits_of width) planes.ones planes.unknown ∙ bits_again bits width long

pub has_value : (words : List ℕ) (width at : ℕ) (bits : List Bit) → length bits ≡ width → StandsAt words at (value_words (is_wide (length bits)) bits) → HasValue words width at
has_value words width at bits long h =
    let planes = planes_stand words width at bits long h in
    record {
      ones = subst (λ n. n < 2 ^ width) (sym planes.ones) (subst (λ n. ones_of bits < 2 ^ n) long (weight_small in_ones bits ones_small));
      unknown = subst (λ n. n < 2 ^ width) (sym planes.unknown) (subst (λ n. unknown_of bits < 2 ^ n) long (weight_small in_unknown bits unknown_small));
    }

-- the planes of a value have no bit above its width
pub ones_below : (bits : List Bit) → ones_of bits < 2 ^ length bits
ones_below bits = weight_small in_ones bits ones_small

pub unknown_below : (bits : List Bit) → unknown_of bits < 2 ^ length bits
unknown_below bits = weight_small in_unknown bits unknown_small
