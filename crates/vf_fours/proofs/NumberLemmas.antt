-- Numbers of known bits, integers, and what is left of them modulo 2^w.
use Rattle.std.proofs.Common.{◌≡◌, ℕ, zero, suc, ◌+◌, ◌-◌, ◌*◌, ◌/◌, ◌%◌, ◌^◌, ◌<◌, ◌≤◌, Bool, true, false, not, ◌&&◌, cond, nat_eq, nat_lt, List, [], ◌∷◌, length, refl, sym, ap, ◌∙◌, arith, inl, inr, lt-ltb, le-ltb, ne_eqb, Option, Some, None}
use Rattle.std.specs.Prelude.{ℤ, pos, negsuc, ◌+ℤ◌, ◌-ℤ◌, ◌*ℤ◌, neg_ℤ, int_lt, int_div, int_rem, unsigned_abs}
use Rattle.std.specs.List.{list_all}
use Rattle.std.specs.Int.{int_rem_euclid}
use Rattle.std.specs.Option.{option_and_then}
use Rattle.std.proofs.Math.Nat.{pow-suc, mul-le-mul_left}
use Rattle.std.proofs.Math.Pow.{mod-mod-pow, pow_mono}
use mathlib.Core.Bool.{beq}
use lib.IntN.{*ℤ_comm}
use borrow.Author.Differences.{up, down, same_in, same_out, sum_is_lem, neg_is, product_is}
use Rattle.std.proofs.lemmas.Int.{ints, int_rem_euclid_is}
use Rattle.std.proofs.lemmas.Nat.{pow_pos, pow-add}
use Rattle.std.proofs.lemmas.Bool.{cases_lt, and_parts, and_left, and_right, and_from, ltb-true, cases_Bool, cond-true, cond-false}
use Rattle.vf_fours.specs.declared.Bit.{Bit}
use Rattle.vf_fours.specs.declared.Bit.TheVariants.{Zero, One, X, Z}
use Rattle.vf_fours.specs.declared.planes.Planes.{Planes}
use Rattle.vf_fours.specs.Bits.{FourState, is_one, is_zero, bit_in, top, all_known}
use Rattle.vf_fours.specs.Numbers.{weight_of, of_one, number, integer, residue, bit_is, digit, digits_of, wrapped_bits, with_sign, is_below_zero, fits, fitting, narrower}
use Rattle.vf_fours.specs.Planes.{ones_of, Shows}
use Rattle.vf_fours.specs.Shapes.{ones_of-bits_of}
use Rattle.vf_fours.proofs.PlaneLemmas.{bit_at-mod}
use Rattle.vf_fours.proofs.ListLemmas.{tabulate-ext}

-- ---- the number of known bits

-- the plane of ones of known bits is their number
pub ones_of-known : (xs : List Bit) → all_known xs ≡ true → ones_of xs ≡ number xs
unfolding all_known weight_of
ones_of-known [] h = refl
ones_of-known (Zero ∷ xs) h = ap (λ n. 0 + 2 * n) (ones_of-known xs h)
ones_of-known (One ∷ xs) h = ap (λ n. 1 + 2 * n) (ones_of-known xs h)
ones_of-known (X ∷ xs) h = absurd (cc h)
ones_of-known (Z ∷ xs) h = absurd (cc h)

pub number_planes : (a : Planes) (xs : List Bit) → Shows a xs → all_known xs ≡ true → a.ones ≡ number xs
number_planes a xs sa h = sym (ones_of-bits_of (length xs) a.ones a.unknown sa.below.ones_fit) ∙ ap ones_of (sym sa.bits_are) ∙ ones_of-known xs h

pub number_below : (xs : List Bit) → number xs < 2 ^ length xs
unfolding weight_of
number_below [] = omega arith
number_below (b ∷ xs) =
    let double = pow-suc 2 (length xs) in
    let rest = number_below xs in
    let small = by b in
    omega arith
  where
    by : (b : Bit) → of_one b < 2
    by Zero = omega arith
    by One = omega arith
    by X = omega arith
    by Z = omega arith

-- with a bit 1 the number is not 0
pub number_positive : (xs : List Bit) (i : ℕ) → is_one (bit_in xs i) ≡ true → 0 < number xs
unfolding weight_of
number_positive [] i h = absurd (cc h)
number_positive (One ∷ xs) zero h = omega arith
number_positive (Zero ∷ xs) zero h = absurd (cc h)
number_positive (X ∷ xs) zero h = absurd (cc h)
number_positive (Z ∷ xs) zero h = absurd (cc h)
number_positive (b ∷ xs) (suc i) h = let rest = number_positive xs i h in omega arith

-- known bits are all 0 exactly where their number is 0
pub zeros_by_number : (xs : List Bit) → all_known xs ≡ true → list_all is_zero xs ≡ nat_eq (number xs) 0
unfolding all_known weight_of
zeros_by_number [] h = refl
zeros_by_number (Zero ∷ xs) h = zeros_by_number xs h ∙ by (number xs)
  where
    by : (n : ℕ) → nat_eq n 0 ≡ nat_eq (0 + 2 * n) 0
    by zero = refl
    by (suc n) = ne_eqb (suc n) 0 (λ e. omega arith) ∙ sym (ne_eqb (0 + 2 * suc n) 0 (λ e. omega arith))
zeros_by_number (One ∷ xs) h = sym (ne_eqb (1 + 2 * number xs) 0 (λ e. omega arith))
zeros_by_number (X ∷ xs) h = absurd (cc h)
zeros_by_number (Z ∷ xs) h = absurd (cc h)

-- ---- integers

pub integer_high : (s : Bool) (xs : List Bit) → (s && is_one (top xs)) ≡ true → integer s xs ≡ negsuc (2 ^ length xs - suc (number xs))
unfolding integer
integer_high s xs h =
    let small = number_below xs in
    cond-true _ _ _ h ∙ omega (arith, ints)

pub integer_low : (s : Bool) (xs : List Bit) → (s && is_one (top xs)) ≡ false → integer s xs ≡ pos (number xs)
unfolding integer
integer_low s xs h = cond-false _ _ _ h

pub is_below_zero-integer : (s : Bool) (xs : List Bit) → is_below_zero (integer s xs) ≡ (s && is_one (top xs))
is_below_zero-integer s xs = elim (cases_Bool (s && is_one (top xs))) [
  | inl high ↦ ap is_below_zero (integer_high s xs high) ∙ sym high
  | inr low ↦ ap is_below_zero (integer_low s xs low) ∙ sym low
]

-- the integer, and how many times 2^w it lies below the number
pub integer_apart : (s : Bool) (xs : List Bit) → (j : ℕ) × (integer s xs +ℤ pos (j * 2 ^ length xs) ≡ pos (number xs))
integer_apart s xs = elim (cases_Bool (s && is_one (top xs))) [
  | inl high ↦ let small = number_below xs in (1, ap (λ z. z +ℤ pos (1 * 2 ^ length xs)) (integer_high s xs high) ∙ omega (arith, ints))
  | inr low ↦ (0, ap (λ z. z +ℤ pos (0 * 2 ^ length xs)) (integer_low s xs low) ∙ omega (arith, ints))
]

-- ---- modulo 2^w

-- integers that differ by a multiple of 2^w leave the same
pub same_residue : (w : ℕ) (x y : ℤ) (j k : ℕ) → x +ℤ pos (j * 2 ^ w) ≡ y +ℤ pos (k * 2 ^ w) → residue w x ≡ residue w y
unfolding residue
same_residue w x y j k e =
    let m = 2 ^ w in
    let some = pow_pos w in
    let t = down x + down y in
    let far : t * 1 ≤ t * m = mul-le-mul_left t some in
    let n = up x + (j + t) * m - down x in
    let from : (z : ℤ) (i : ℕ) → z +ℤ pos ((i + t) * m) ≡ pos n → unsigned_abs (int_rem_euclid z (pos m)) ≡ n % m = λ z i h. ap unsigned_abs (int_rem_euclid_is z (pos m) m (i + t) n some refl h) in
    from x j (omega (arith, ints)) ∙ sym (from y k (omega (arith, ints)))

pub residue-times : (w : ℕ) (x y c : ℤ) (j k : ℕ) → x +ℤ pos (j * 2 ^ w) ≡ y +ℤ pos (k * 2 ^ w) → residue w (x *ℤ c) ≡ residue w (y *ℤ c)
residue-times w x y c j k e =
    let sum : up x + j * 2 ^ w + down y ≡ up y + k * 2 ^ w + down x = omega (arith, same_out, sum_is_lem) in
    let above = ap (λ n. n * up c) sum in
    let below = ap (λ n. n * down c) sum in
    same_residue w (x *ℤ c) (y *ℤ c) (j * up c + k * down c) (k * up c + j * down c) (omega (arith, same_in, sum_is_lem, product_is))

-- the high bits above w count for nothing
pub residue-mod : (w n : ℕ) → w ≤ 128 → residue w (pos (n % 2 ^ 128)) ≡ residue w (pos n)
unfolding residue
residue-mod w n h = let e : 128 ≡ (128 - w) + w = omega arith in ap (λ k. n % 2 ^ k % 2 ^ w) e ∙ mod-mod-pow n (128 - w) w

-- 2^128 is a multiple of 2^w
pub whole : (w : ℕ) → w ≤ 128 → 2 ^ 128 ≡ 2 ^ (128 - w) * 2 ^ w
whole w h = let e : 128 ≡ (128 - w) + w = omega arith in ap (λ k. 2 ^ k) e ∙ pow-add 2 (128 - w) w

-- the low bits of a number are those of an integer that leaves the same
pub digits_same : (w n : ℕ) (z : ℤ) → residue w (pos n) ≡ residue w z → digits_of w n ≡ wrapped_bits w z
unfolding digits_of residue
digits_same w n z e =
    tabulate-ext (λ i. digit (bit_is n i)) (λ i. digit (bit_is (n % 2 ^ w) i)) w (λ i h. ap (λ m. digit (nat_eq m 1)) (sym (bit_at-mod n w i h)))
    ∙ ap (digits_of w) e

-- ---- the operations of words

module _ (s : Bool) (xs ys : List Bit) (narrow : length xs ≤ 128) (same : length xs ≡ length ys) where
  pub residue-add : residue (length xs) (pos ((number xs + number ys) % 2 ^ 128)) ≡ residue (length xs) (integer s xs +ℤ integer s ys)
  residue-add =
      let a = integer_apart s xs in
      let b = rw (← same) at (integer_apart s ys).1 in
      let m = 2 ^ length xs in
      residue-mod (length xs) (number xs + number ys) narrow
      ∙ same_residue (length xs) (pos (number xs + number ys)) (integer s xs +ℤ integer s ys) 0 (a.0 + (integer_apart s ys).0) (omega (arith, same_in, same_out, sum_is_lem, a.1, b))

  pub residue-sub : residue (length xs) (pos ((number xs + (2 ^ 128 - number ys)) % 2 ^ 128)) ≡ residue (length xs) (integer s xs -ℤ integer s ys)
  residue-sub =
      let a = integer_apart s xs in
      let j = (integer_apart s ys).0 in
      let b = rw (← same) at (integer_apart s ys).1 in
      let small = rw (← same) at (number_below ys) in
      let large : 2 ^ length xs ≤ 2 ^ 128 = pow_mono {i = length xs} {j = 128} narrow in
      let c = whole (length xs) narrow in
      residue-mod (length xs) (number xs + (2 ^ 128 - number ys)) narrow
      ∙ same_residue (length xs) (pos (number xs + (2 ^ 128 - number ys))) (integer s xs -ℤ integer s ys) j (2 ^ (128 - length xs) + a.0) (omega (arith, same_in, same_out, sum_is_lem, neg_is, a.1, b))

  pub residue-mul : residue (length xs) (pos ((number xs * number ys) % 2 ^ 128)) ≡ residue (length xs) (integer s xs *ℤ integer s ys)
  residue-mul =
      let a = integer_apart s xs in
      let j = (integer_apart s ys).0 in
      let b = rw (← same) at (integer_apart s ys).1 in
      residue-mod (length xs) (number xs * number ys) narrow
      ∙ residue-times (length xs) (pos (number xs)) (integer s xs) (pos (number ys)) 0 a.0 (omega (arith, same_in, same_out, sum_is_lem, a.1))
      ∙ ap (residue (length xs)) (*ℤ_comm (integer s xs) (pos (number ys)))
      ∙ residue-times (length xs) (pos (number ys)) (integer s ys) (integer s xs) 0 j (omega (arith, same_in, same_out, sum_is_lem, b))
      ∙ ap (residue (length xs)) (*ℤ_comm (integer s ys) (integer s xs))

-- the opposite of a number, as `0.wrapping_sub(n)` gives it
pub residue-neg : (w n : ℕ) → w ≤ 128 → n ≤ 2 ^ 128 → residue w (pos ((2 ^ 128 - n) % 2 ^ 128)) ≡ residue w (neg_ℤ (pos n))
residue-neg w n h small =
    let c = whole w h in
    residue-mod w (2 ^ 128 - n) h
    ∙ same_residue w (pos (2 ^ 128 - n)) (neg_ℤ (pos n)) 0 (2 ^ (128 - w)) (omega (arith, same_in, sum_is_lem, neg_is))

-- the opposite of an integer
pub residue-neg_integer : (s : Bool) (xs : List Bit) → residue (length xs) (neg_ℤ (pos (number xs))) ≡ residue (length xs) (neg_ℤ (integer s xs))
residue-neg_integer s xs =
    let a = integer_apart s xs in
    same_residue (length xs) (neg_ℤ (pos (number xs))) (neg_ℤ (integer s xs)) a.0 0 (omega (arith, same_in, same_out, sum_is_lem, neg_is, a.1))

-- ---- magnitudes and signs

-- one of two signs, and not both
abbrev pub unlike : Bool → Bool → Bool
unlike s t = not (beq s t)

pub quotient_is : (x d : ℤ) → int_div x d ≡ with_sign (unlike (is_below_zero x) (is_below_zero d)) (unsigned_abs x / unsigned_abs d)
quotient_is (pos a) (pos b) = refl
quotient_is (pos a) (negsuc b) = refl
quotient_is (negsuc a) (pos b) = refl
quotient_is (negsuc a) (negsuc b) = refl

pub remainder_is : (x d : ℤ) → int_rem x d ≡ with_sign (is_below_zero x) (unsigned_abs x % unsigned_abs d)
remainder_is (pos a) d = refl
remainder_is (negsuc a) d = refl

pub magnitude_high : (s : Bool) (xs : List Bit) → (s && is_one (top xs)) ≡ true → unsigned_abs (integer s xs) ≡ 2 ^ length xs - number xs
magnitude_high s xs h = let small = number_below xs in ap unsigned_abs (integer_high s xs h) ∙ omega arith

-- the order of integers by signs and numbers
pub below_is : (s : Bool) (xs ys : List Bit) → length xs ≡ length ys → int_lt (integer s xs) (integer s ys) ≡ cond (unlike (is_below_zero (integer s xs)) (is_below_zero (integer s ys))) (is_below_zero (integer s xs)) (nat_lt (number xs) (number ys))
below_is s xs ys same = elim (cases_Bool (s && is_one (top xs))) [
  | inl hx ↦ elim (cases_Bool (s && is_one (top ys))) [
    | inl hy ↦ by_both (integer s xs) (integer s ys) (integer_high s xs hx) (integer_high s ys hy)
    | inr ly ↦ by_left (integer s xs) (integer s ys) (integer_high s xs hx) (integer_low s ys ly)
  ]
  | inr lx ↦ elim (cases_Bool (s && is_one (top ys))) [
    | inl hy ↦ by_right (integer s xs) (integer s ys) (integer_low s xs lx) (integer_high s ys hy)
    | inr ly ↦ by_none (integer s xs) (integer s ys) (integer_low s xs lx) (integer_low s ys ly)
  ]
]
  where
    turned : (m a b : ℕ) → a < m → b < m → nat_lt (m - suc b) (m - suc a) ≡ nat_lt a b
    turned m a b p q = elim (cases_lt a b) [
      | inl l ↦ lt-ltb (m - suc b) (m - suc a) (omega arith) ∙ sym (lt-ltb a b l)
      | inr g ↦ le-ltb (m - suc b) (m - suc a) (omega arith) ∙ sym (le-ltb a b g)
    ]

    by_both : (x y : ℤ) → x ≡ negsuc (2 ^ length xs - suc (number xs)) → y ≡ negsuc (2 ^ length ys - suc (number ys)) → int_lt x y ≡ cond (unlike (is_below_zero x) (is_below_zero y)) (is_below_zero x) (nat_lt (number xs) (number ys))
    by_both x y e f = rw (e, f) (ap (λ n. nat_lt (2 ^ n - suc (number ys)) (2 ^ length xs - suc (number xs))) (sym same) ∙ turned (2 ^ length xs) (number xs) (number ys) (number_below xs) (rw same (number_below ys)))

    by_left : (x y : ℤ) → x ≡ negsuc (2 ^ length xs - suc (number xs)) → y ≡ pos (number ys) → int_lt x y ≡ cond (unlike (is_below_zero x) (is_below_zero y)) (is_below_zero x) (nat_lt (number xs) (number ys))
    by_left x y e f = rw (e, f) refl

    by_right : (x y : ℤ) → x ≡ pos (number xs) → y ≡ negsuc (2 ^ length ys - suc (number ys)) → int_lt x y ≡ cond (unlike (is_below_zero x) (is_below_zero y)) (is_below_zero x) (nat_lt (number xs) (number ys))
    by_right x y e f = rw (e, f) refl

    by_none : (x y : ℤ) → x ≡ pos (number xs) → y ≡ pos (number ys) → int_lt x y ≡ cond (unlike (is_below_zero x) (is_below_zero y)) (is_below_zero x) (nat_lt (number xs) (number ys))
    by_none x y e f = rw (e, f) refl

-- an integer is 0 exactly where its number is
pub magnitude_zero : (s : Bool) (xs : List Bit) → nat_eq (unsigned_abs (integer s xs)) 0 ≡ nat_eq (number xs) 0
magnitude_zero s xs = elim (cases_Bool (s && is_one (top xs))) [
  | inl high ↦
      let small = number_below xs in
      let some = number_positive xs (length xs - 1) (and_parts s (is_one (top xs)) high).1 in
      ne_eqb (unsigned_abs (integer s xs)) 0 (λ z. omega (arith, magnitude_high s xs high)) ∙ sym (ne_eqb (number xs) 0 (λ z. omega arith))
  | inr low ↦ ap (λ z. nat_eq (unsigned_abs z) 0) (integer_low s xs low)
]

-- ---- the reading as a signed number of 64 bits

pub negative_is : (z : ℤ) (m : ℕ) → m ≡ unsigned_abs z → is_below_zero z ≡ true → z ≡ negsuc (m - 1)
negative_is (pos n) m e h = absurd (cc h)
negative_is (negsuc n) m e h = ap negsuc (omega arith)

pub positive_is : (z : ℤ) (m : ℕ) → m ≡ unsigned_abs z → is_below_zero z ≡ false → z ≡ pos m
positive_is (pos n) m e h = ap pos (sym e)
positive_is (negsuc n) m e h = absurd (cc h)

pub unknown_fits_not : (n : ℕ) (a : FourState) → all_known a.bits ≡ false → ◌≡◌ {A = Option ℤ} None (fitting n a)
unfolding fitting
unknown_fits_not n a h = sym (cond-false _ _ _ (and_left (all_known a.bits) _ h))

pub known_fits : (n : ℕ) (a : FourState) (z : ℤ) → all_known a.bits ≡ true → integer a.signed a.bits ≡ z → fits n z ≡ true → Some z ≡ fitting n a
unfolding fitting
known_fits n a z h e f = ap Some (sym e) ∙ sym (cond-true _ _ _ (and_from (all_known a.bits) _ h (ap (fits n) e ∙ f)))

pub large_fits_not : (n : ℕ) (a : FourState) (z : ℤ) → integer a.signed a.bits ≡ z → fits n z ≡ false → ◌≡◌ {A = Option ℤ} None (fitting n a)
unfolding fitting
large_fits_not n a z e f = sym (cond-false _ _ _ (and_right (all_known a.bits) _ (ap (fits n) e ∙ f)))

-- what fits into fewer bits fits into more
fits_more : (z : ℤ) → fits 63 z ≡ true → fits 127 z ≡ true
fits_more (pos n) h = lt-ltb n (2 ^ 127) (let small : n < 2 ^ 63 = ltb-true n (2 ^ 63) h in omega arith)
fits_more (negsuc n) h = lt-ltb n (2 ^ 127) (let small : n < 2 ^ 63 = ltb-true n (2 ^ 63) h in omega arith)

narrower_by : (known large small : Bool) (z : ℤ) → (small ≡ true → large ≡ true) → fits 63 z ≡ small
    → option_and_then narrower (cond (known && large) (Some z) None) ≡ cond (known && small) (Some z) None
narrower_by true true small z more is = ap (λ b. cond b (Some z) None) is
narrower_by true false true z more is = absurd (cc (more refl))
narrower_by true false false z more is = refl
narrower_by false large small z more is = refl

-- the number in fewer bits is that in more, where it fits
pub narrower_fits : (a : FourState) → option_and_then narrower (fitting 127 a) ≡ fitting 63 a
unfolding fitting
narrower_fits a =
    let z = integer a.signed a.bits in
    narrower_by (all_known a.bits) (fits 127 z) (fits 63 z) z (fits_more z) refl
