-- A select at a place that fits no i64 is all x.
use Rattle.std.proofs.Common.{◌≡◌, ℕ, ◌+◌, ◌^◌, ◌<◌, ◌≤◌, ◌⊎◌, inl, inr, Bool, true, false, length, Option, Some, None, cond, refl, sym, ◌∙◌, ap, arith}
use Rattle.std.specs.Prelude.{ℤ, pos, negsuc, neg_ℤ, ◌+ℤ◌, ◌≤ℤ◌}
use Rattle.std.specs.Option.{option_and_then}
use Rattle.std.proofs.lemmas.Int.{ints}
use Rattle.std.proofs.lemmas.Bool.{ltb-false}
use Rattle.vf_fours.specs.declared.Bit.{Bit}
use Rattle.vf_fours.specs.Bits.{FourState, all_x}
use Rattle.vf_fours.specs.Numbers.{fits, narrower}
use Rattle.vf_fours.specs.Operators.{select_of}
use Rattle.vf_fours.proofs.CallerLemmas.{select_outside}
use Rattle.vf_elaborated.specs.Values.{selected_of}

far_select : (a : FourState) (z : ℤ) (width : ℕ) → length a.bits ≤ 128 → width ≤ 128 → fits 63 z ≡ false
    → record { bits = all_x width; signed = false } ≡ select_of a z width
unfolding select_of
far_select a (pos n) width most few h =
    let far : 2 ^ 63 ≤ n = ltb-false n (2 ^ 63) h in
    let above : pos (length a.bits) ≤ℤ pos n = omega (arith, ints, most, far) in
    ap (λ bits. record { bits = bits; signed = false }) (select_outside a.bits (pos n) width (inl above))
far_select a (negsuc n) width most few h =
    let far : 2 ^ 63 ≤ n = ltb-false n (2 ^ 63) h in
    let below : negsuc n ≤ℤ neg_ℤ (pos width) = omega (arith, ints, few, far) in
    ap (λ bits. record { bits = bits; signed = false }) (select_outside a.bits (negsuc n) width (inr below))

selected_by : (a : FourState) (z : ℤ) (width : ℕ) (fit : Bool) → length a.bits ≤ 128 → width ≤ 128 → fits 63 z ≡ fit
    → selected_of a (cond fit (Some z) None) width ≡ select_of a z width
selected_by a z width true most few h = refl
selected_by a z width false most few h = far_select a z width most few h

selected_from : (a : FourState) (low : Option ℤ) (width : ℕ) → length a.bits ≤ 128 → width ≤ 128
    → selected_of a (option_and_then narrower low) width ≡ selected_of a low width
selected_from a None width most few = refl
selected_from a (Some z) width most few = selected_by a z width (fits 63 z) most few refl

-- the select at a place that is told where it fits
pub selected_is : (a : FourState) (low place : Option ℤ) (width : ℕ) (value : FourState) → length a.bits ≤ 128 → width ≤ 128
    → place ≡ option_and_then narrower low → value ≡ selected_of a place width → value ≡ selected_of a low width
selected_is a low place width value most few p v = v ∙ ap (λ o. selected_of a o width) p ∙ selected_from a low width most few
