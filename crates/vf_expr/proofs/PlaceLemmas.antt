-- A place by a far index fits no i64.
use Rattle.std.proofs.Common.{◌≡◌, ℕ, ◌+◌, ◌-◌, ◌^◌, ◌<◌, ◌≤◌, ◌⊎◌, inl, inr, Bool, true, false, ◌&&◌, cond, Option, Some, None, refl, sym, ◌∙◌, ap, arith, lt-ltb, le-ltb}
use Rattle.std.specs.Prelude.{nat_lt, nat_eq, ◌==◌, ℤ, pos, negsuc, neg_ℤ, ◌+ℤ◌, ◌-ℤ◌, ◌*ℤ◌, ◌≤ℤ◌}
use Rattle.std.specs.Option.{option_map, option_and_then}
use Rattle.std.proofs.lemmas.Int.{ints}
use Rattle.std.proofs.lemmas.Bool.{eqb-true, ltb-true, ltb-false}
use Rattle.vf_fours.specs.Bits.{FourState, all_known}
use Rattle.vf_fours.specs.Numbers.{integer, fits, fitting, narrower}
use Rattle.vf_elaborated.specs.declared.design.Signal.{Signal}
use Rattle.vf_elaborated.specs.Shapes.{is_scale}
use Rattle.vf_elaborated.specs.Values.{index_of, low_of, inside, element_of}
use Rattle.vf_expr.specs.Near.{is_near, placed_at, near_place}

-- an integer that is too great or too small fits not
unfit : (z : ℤ) → (pos (2 ^ 63) ≤ℤ z) ⊎ (z ≤ℤ neg_ℤ (pos (2 ^ 63 + 1))) → narrower z ≡ None
unfit (pos n) (inl h) = ap (λ b. cond b (Some (pos n)) None) (le-ltb n (2 ^ 63) (omega (arith, ints, h)))
unfit (pos n) (inr h) = absurd (omega (arith, ints, h))
unfit (negsuc n) (inl h) = absurd (omega (arith, ints, h))
unfit (negsuc n) (inr h) = ap (λ b. cond b (Some (negsuc n)) None) (le-ltb n (2 ^ 63) (omega (arith, ints, h)))

record Shifts (shift : ℤ) : Type 0 where
  least : neg_ℤ (pos (2 ^ 63)) ≤ℤ shift
  greatest : shift ≤ℤ pos (2 ^ 63)

far_up : (shift z : ℤ) → Shifts shift → is_near z ≡ false → narrower (z +ℤ shift) ≡ None
far_up shift (pos n) s h =
    let far : 2 ^ 65 ≤ n = ltb-false n (2 ^ 65) h in
    let least = s.least in
    unfit (pos n +ℤ shift) (inl (omega (arith, ints, far, least)))
far_up shift (negsuc n) s h =
    let far : 2 ^ 65 - 1 ≤ n = ltb-false n (2 ^ 65 - 1) h in
    let greatest = s.greatest in
    unfit (negsuc n +ℤ shift) (inr (omega (arith, ints, far, greatest)))

far_down : (shift z : ℤ) → Shifts shift → is_near z ≡ false → narrower (neg_ℤ z +ℤ shift) ≡ None
far_down shift (pos n) s h =
    let far : 2 ^ 65 ≤ n = ltb-false n (2 ^ 65) h in
    let greatest = s.greatest in
    unfit (neg_ℤ (pos n) +ℤ shift) (inr (omega (arith, ints, far, greatest)))
far_down shift (negsuc n) s h =
    let far : 2 ^ 65 - 1 ≤ n = ltb-false n (2 ^ 65 - 1) h in
    let least = s.least in
    unfit (neg_ℤ (negsuc n) +ℤ shift) (inl (omega (arith, ints, far, least)))

-- ---- places

one_times : (z : ℤ) → pos 1 *ℤ z ≡ z
one_times z = omega (arith, ints)

minus_times : (z : ℤ) → negsuc 0 *ℤ z ≡ neg_ℤ z
minus_times z = omega (arith, ints)

far_place : (scale shift z : ℤ) → is_scale scale ≡ true → Shifts shift → is_near z ≡ false → placed_at scale shift z ≡ None
far_place (pos n) shift z one s h =
    ap (λ m. narrower (pos m *ℤ z +ℤ shift)) (eqb-true n 1 one) ∙ ap (λ y. narrower (y +ℤ shift)) (one_times z) ∙ far_up shift z s h
far_place (negsuc n) shift z one s h =
    ap (λ m. narrower (negsuc m *ℤ z +ℤ shift)) (eqb-true n 0 one) ∙ ap (λ y. narrower (y +ℤ shift)) (minus_times z) ∙ far_down shift z s h

near_fits : (z : ℤ) → fits 127 z ≡ false → is_near z ≡ false
near_fits (pos n) h = let far : 2 ^ 127 ≤ n = ltb-false n (2 ^ 127) h in le-ltb n (2 ^ 65) (omega (arith, far))
near_fits (negsuc n) h = let far : 2 ^ 127 ≤ n = ltb-false n (2 ^ 127) h in le-ltb n (2 ^ 65 - 1) (omega (arith, far))

module _ (scale shift z : ℤ) (one : is_scale scale ≡ true) (s : Shifts shift) where
  place_by : (known fit close : Bool) → fits 127 z ≡ fit → is_near z ≡ close
      → option_and_then (near_place scale shift) (cond (known && fit) (Some z) None)
      ≡ option_and_then narrower (option_map (λ i. scale *ℤ i +ℤ shift) (cond known (Some z) None))
  place_by false fit close f n = refl
  place_by true true true f n = ap (λ b. cond b (placed_at scale shift z) None) n
  place_by true true false f n = ap (λ b. cond b (placed_at scale shift z) None) n ∙ sym (far_place scale shift z one s n)
  place_by true false close f n = sym (far_place scale shift z one s (near_fits z f))

-- the place of an index by its number, where it fits an i128
place_of : (a : FourState) (scale shift : ℤ) → is_scale scale ≡ true → Shifts shift
    → option_and_then (near_place scale shift) (fitting 127 a) ≡ option_and_then narrower (low_of scale shift a)
unfolding fitting index_of
place_of a scale shift one s =
    let z = integer a.signed a.bits in place_by scale shift z one s (all_known a.bits) (fits 127 z) (is_near z) refl refl

pub place_is : (a : FourState) (scale shift : ℤ) (number place : Option ℤ) → is_scale scale ≡ true → neg_ℤ (pos (2 ^ 63)) ≤ℤ shift → shift ≤ℤ pos (2 ^ 63)
    → number ≡ fitting 127 a → place ≡ option_and_then (near_place scale shift) number → place ≡ option_and_then narrower (low_of scale shift a)
place_is a scale shift number place one least greatest n p =
    p ∙ ap (option_and_then (near_place scale shift)) n ∙ place_of a scale shift one (record { least = least; greatest = greatest })

-- ---- elements

inside_by : (elements : ℕ) (w : ℤ) (fit : Bool) → elements < 2 ^ 32 → fits 63 w ≡ fit → option_and_then (inside elements) (cond fit (Some w) None) ≡ inside elements w
inside_by elements w true few f = refl
inside_by elements (pos n) false few f =
    let far : 2 ^ 63 ≤ n = ltb-false n (2 ^ 63) f in
    sym (ap (λ b. cond b (Some n) None) (le-ltb n elements (omega (arith, few, far))))
inside_by elements (negsuc n) false few f = refl

inside_from : (elements : ℕ) (first : ℤ) (index : Option ℤ) → elements < 2 ^ 32
    → option_and_then (inside elements) (option_and_then narrower (option_map (λ i. pos 1 *ℤ i +ℤ neg_ℤ first) index))
    ≡ option_and_then (λ at. inside elements (at -ℤ first)) index
inside_from elements first None few = refl
inside_from elements first (Some z) few =
    let same : pos 1 *ℤ z +ℤ neg_ℤ first ≡ z -ℤ first = omega (arith, ints) in
    ap (λ w. option_and_then (inside elements) (narrower w)) same ∙ inside_by elements (z -ℤ first) (fits 63 (z -ℤ first)) few refl

-- the element of an address by its place
pub element_is : (signal : Signal) (address : FourState) (shift : ℤ) (at : Option ℤ) (element : Option ℕ) → signal.elements < 2 ^ 32 → shift ≡ neg_ℤ signal.first
    → at ≡ option_and_then narrower (low_of (pos 1) shift address) → element ≡ option_and_then (inside signal.elements) at → element ≡ element_of signal (Some address)
element_is signal address shift at element few s a e =
    e ∙ ap (option_and_then (inside signal.elements)) (a ∙ ap (λ n. option_and_then narrower (low_of (pos 1) n address)) s)
    ∙ inside_from signal.elements signal.first (index_of address) few
