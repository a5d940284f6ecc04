-- The bits of words, and of pairs of words.
use Rattle.std.proofs.Common.{◌≡◌, ℕ, zero, suc, ◌+◌, ◌-◌, ◌*◌, ◌/◌, ◌%◌, ◌^◌, ◌<◌, ◌≤◌, min, max, Bool, true, false, not, ◌&&◌, ◌||◌, cond, nat_eq, nat_lt, refl, sym, ap, ap₂, ◌∙◌, arith, inl, inr, bit_and, bit_or, bit_xor}
use Rattle.std.specs.Int.{bit_at, w128}
use Rattle.std.proofs.Math.Nat.{div-eq_of_lt}
use Rattle.std.proofs.Math.Pow.{pow_mono}
use Rattle.std.proofs.lemmas.Nat.{and_mask, shr-shr, pow_pos, shr_below}
use Rattle.std.proofs.lemmas.Nat.Bits.{bit_at_and, bit_at_or, bit_at_xor, bit_at-lt, bit_at_ones, bit_at_mask_below, bit_at_mask_inside, ones_shr, ones_shl, bit_at_not, bit_at_above, bit_at_cat_low, bit_at_cat_high, bit_at-zero}
use Rattle.std.proofs.lemmas.Bool.{cases_lt, lt-ltb, le-ltb, cond-true, cond-false}
use Rattle.vf_fours.specs.declared.Bit.{Bit}
use Rattle.vf_fours.specs.declared.Bit.TheVariants.{Zero}
use Rattle.vf_fours.specs.Numbers.{bit_is}
use Rattle.vf_fours.specs.Planes.{bit_of}
use Rattle.vf_fours.proofs.Tables.{either}

-- ---- the operations on words, at one place

min_bit : (a b : ℕ) → a < 2 → b < 2 → nat_eq (min a b) 1 ≡ (nat_eq a 1 && nat_eq b 1)
min_bit zero zero h k = refl
min_bit zero (suc zero) h k = refl
min_bit zero (suc (suc b)) h k = absurd (omega arith)
min_bit (suc zero) zero h k = refl
min_bit (suc zero) (suc zero) h k = refl
min_bit (suc zero) (suc (suc b)) h k = absurd (omega arith)
min_bit (suc (suc a)) b h k = absurd (omega arith)

max_bit : (a b : ℕ) → a < 2 → b < 2 → nat_eq (max a b) 1 ≡ (nat_eq a 1 || nat_eq b 1)
max_bit zero zero h k = refl
max_bit zero (suc zero) h k = refl
max_bit zero (suc (suc b)) h k = absurd (omega arith)
max_bit (suc zero) zero h k = refl
max_bit (suc zero) (suc zero) h k = refl
max_bit (suc zero) (suc (suc b)) h k = absurd (omega arith)
max_bit (suc (suc a)) b h k = absurd (omega arith)

sum_bit : (a b : ℕ) → a < 2 → b < 2 → nat_eq ((a + b) % 2) 1 ≡ either (nat_eq a 1) (nat_eq b 1)
sum_bit zero zero h k = refl
sum_bit zero (suc zero) h k = refl
sum_bit zero (suc (suc b)) h k = absurd (omega arith)
sum_bit (suc zero) zero h k = refl
sum_bit (suc zero) (suc zero) h k = refl
sum_bit (suc zero) (suc (suc b)) h k = absurd (omega arith)
sum_bit (suc (suc a)) b h k = absurd (omega arith)

pub bit_is-and : (a b i : ℕ) → bit_is (bit_and a b) i ≡ (bit_is a i && bit_is b i)
bit_is-and a b i = ap (λ n. nat_eq n 1) (bit_at_and a b i) ∙ min_bit (bit_at a i) (bit_at b i) (bit_at-lt a i) (bit_at-lt b i)

pub bit_is-or : (a b i : ℕ) → bit_is (bit_or a b) i ≡ (bit_is a i || bit_is b i)
bit_is-or a b i = ap (λ n. nat_eq n 1) (bit_at_or a b i) ∙ max_bit (bit_at a i) (bit_at b i) (bit_at-lt a i) (bit_at-lt b i)

pub bit_is-xor : (a b i : ℕ) → bit_is (bit_xor a b) i ≡ either (bit_is a i) (bit_is b i)
bit_is-xor a b i = ap (λ n. nat_eq n 1) (bit_at_xor a b i) ∙ sum_bit (bit_at a i) (bit_at b i) (bit_at-lt a i) (bit_at-lt b i)

less_one : (a : ℕ) → a < 2 → nat_eq (1 - a) 1 ≡ not (nat_eq a 1)
less_one zero h = refl
less_one (suc zero) h = refl
less_one (suc (suc a)) h = absurd (omega arith)

pub bit_is-not : (a i : ℕ) → a < 2 ^ 128 → i < 128 → bit_is (2 ^ 128 - 1 - a) i ≡ not (bit_is a i)
bit_is-not a i h k = ap (λ n. nat_eq n 1) (bit_at_not w128 a i h k) ∙ less_one (bit_at a i) (bit_at-lt a i)

pub bit_at-mod : (n k i : ℕ) → i < k → bit_at (n % 2 ^ k) i ≡ bit_at n i
bit_at-mod n k i h =
    ap (λ m. bit_at m i) (sym (and_mask n k)) ∙ bit_at_and n (2 ^ k - 1) i ∙ ap (min (bit_at n i)) (bit_at_ones k i h) ∙ omega (arith, bit_at-lt n i)

pub bit_is-shr : (n k i : ℕ) → bit_is (n / 2 ^ k) i ≡ bit_is n (i + k)
bit_is-shr n k i = ap (λ m. nat_eq (m % 2) 1) (shr-shr n k i ∙ ap (λ j. n / 2 ^ j) (omega arith))

bit_at-shl_low : (n k i : ℕ) → i < k → bit_at (n * 2 ^ k) i ≡ 0
bit_at-shl_low n k i h = ap (λ m. bit_at m i) (omega arith) ∙ bit_at_cat_low n k 0 i h ∙ bit_at-zero i

bit_at-shl_high : (n k i : ℕ) → k ≤ i → bit_at (n * 2 ^ k) i ≡ bit_at n (i - k)
bit_at-shl_high n k i h = ap (λ m. bit_at m i) (omega arith) ∙ bit_at_cat_high n k 0 i (pow_pos k) h

-- ---- the steps of `src/planes.rt`

pub without_is : (a b i : ℕ) → bit_is (bit_xor a (bit_and a b)) i ≡ (bit_is a i && not (bit_is b i))
without_is a b i = bit_is-xor a (bit_and a b) i ∙ ap (either (bit_is a i)) (bit_is-and a b i) ∙ by (bit_is a i) (bit_is b i)
  where
    by : (s t : Bool) → either s (s && t) ≡ (s && not t)
    by false t = refl
    by true t = refl

pub stacked_is : (word low places i : ℕ) → low < 2 ^ places → places < 128 → i < 128 → bit_is (bit_or (word * 2 ^ places % 2 ^ 128) low) i ≡ cond (nat_lt i places) (bit_is low i) (bit_is word (i - places))
stacked_is word low places i fit p h =
    bit_is-or (word * 2 ^ places % 2 ^ 128) low i
    ∙ ap (λ n. nat_eq n 1 || bit_is low i) (bit_at-mod (word * 2 ^ places) 128 i h)
    ∙ elim (cases_lt i places) [
      | inl below ↦ ap (λ n. nat_eq n 1 || bit_is low i) (bit_at-shl_low word places i below) ∙ sym (cond-true _ _ _ (lt-ltb i places below))
      | inr high ↦ ap₂ (λ m n. nat_eq m 1 || nat_eq n 1) (bit_at-shl_high word places i high) (bit_at_above low places i fit high) ∙ or_right_false (bit_is word (i - places)) ∙ sym (cond-false _ _ _ (le-ltb i places high))
    ]
  where
    or_right_false : (s : Bool) → (s || false) ≡ s
    or_right_false false = refl
    or_right_false true = refl

-- `MAX >> (128 - places)`
pub low_ones_is : (places : ℕ) → places ≤ 128 → (2 ^ 128 - 1) / 2 ^ (128 - places) ≡ 2 ^ places - 1
low_ones_is places h = ones_shr 128 (128 - places) (omega arith) ∙ ap (λ k. 2 ^ k - 1) (omega arith)

pub set_from_is : (word from i : ℕ) → word < 2 ^ from → from < 128 → i < 128 → bit_is (bit_or word ((2 ^ 128 - 1) * 2 ^ from % 2 ^ 128)) i ≡ cond (nat_lt i from) (bit_is word i) true
set_from_is word from i fit p h =
    bit_is-or word ((2 ^ 128 - 1) * 2 ^ from % 2 ^ 128) i
    ∙ ap (λ m. bit_is word i || bit_is m i) (ones_shl 128 from (omega arith))
    ∙ elim (cases_lt i from) [
      | inl below ↦ ap (λ n. bit_is word i || nat_eq n 1) (bit_at_mask_below from 128 i below) ∙ or_right_false (bit_is word i) ∙ sym (cond-true _ _ _ (lt-ltb i from below))
      | inr high ↦ ap (λ n. bit_is word i || nat_eq n 1) (bit_at_mask_inside from 128 i high h) ∙ or_right_true (bit_is word i) ∙ sym (cond-false _ _ _ (le-ltb i from high))
    ]
  where
    or_right_false : (s : Bool) → (s || false) ≡ s
    or_right_false false = refl
    or_right_false true = refl

    or_right_true : (s : Bool) → (s || true) ≡ true
    or_right_true false = refl
    or_right_true true = refl

pub bit_is-low_ones : (places i : ℕ) → i < places → bit_is (2 ^ places - 1) i ≡ true
bit_is-low_ones places i h = ap (λ n. nat_eq n 1) (bit_at_ones places i h)

-- a choice of two bits, plane by plane
pub bit_of-cond : (t a b c d : Bool) → bit_of (cond t a b) (cond t c d) ≡ cond t (bit_of a c) (bit_of b d)
bit_of-cond false a b c d = refl
bit_of-cond true a b c d = refl

-- a number below 2^k has no bit from k on
pub bit_is_above : (n k i : ℕ) → n < 2 ^ k → k ≤ i → bit_is n i ≡ false
bit_is_above n k i h above = ap (λ m. nat_eq m 1) (bit_at_above n k i h above)

-- where one plane is filled, the other has no bit there
pub one_filled : (from i ones unknown filled : ℕ) (fill : Bit) (mark : Bool) → unknown < 2 ^ from → bit_is filled i ≡ cond (nat_lt i from) (bit_is ones i) mark → bit_of mark false ≡ fill → bit_of (bit_is filled i) (bit_is unknown i) ≡ cond (nat_lt i from) (bit_of (bit_is ones i) (bit_is unknown i)) fill
one_filled from i ones unknown filled fill mark fit e f = elim (cases_lt i from) [
  | inl below ↦ ap (λ b. bit_of b (bit_is unknown i)) (e ∙ cond-true _ _ _ (lt-ltb i from below)) ∙ sym (cond-true _ _ _ (lt-ltb i from below))
  | inr high ↦ ap₂ bit_of (e ∙ cond-false _ _ _ (le-ltb i from high)) (bit_is_above unknown from i fit high) ∙ f ∙ sym (cond-false _ _ _ (le-ltb i from high))
]

pub other_filled : (from i ones unknown filled : ℕ) (fill : Bit) (mark : Bool) → ones < 2 ^ from → bit_is filled i ≡ cond (nat_lt i from) (bit_is unknown i) mark → bit_of false mark ≡ fill → bit_of (bit_is ones i) (bit_is filled i) ≡ cond (nat_lt i from) (bit_of (bit_is ones i) (bit_is unknown i)) fill
other_filled from i ones unknown filled fill mark fit e f = elim (cases_lt i from) [
  | inl below ↦ ap (bit_of (bit_is ones i)) (e ∙ cond-true _ _ _ (lt-ltb i from below)) ∙ sym (cond-true _ _ _ (lt-ltb i from below))
  | inr high ↦ ap₂ bit_of (bit_is_above ones from i fit high) (e ∙ cond-false _ _ _ (le-ltb i from high)) ∙ f ∙ sym (cond-false _ _ _ (le-ltb i from high))
]

pub not_filled : (from i ones unknown : ℕ) → ones < 2 ^ from → unknown < 2 ^ from → bit_of (bit_is ones i) (bit_is unknown i) ≡ cond (nat_lt i from) (bit_of (bit_is ones i) (bit_is unknown i)) Zero
not_filled from i ones unknown f g = elim (cases_lt i from) [
  | inl below ↦ sym (cond-true _ _ _ (lt-ltb i from below))
  | inr high ↦ ap₂ bit_of (bit_is_above ones from i f high) (bit_is_above unknown from i g high) ∙ sym (cond-false _ _ _ (le-ltb i from high))
]

pub shr_fits : (n k w : ℕ) → n < 2 ^ w → n / 2 ^ k < 2 ^ (w - k)
shr_fits n k w h = elim (cases_lt k w) [
  | inl below ↦ shr_below n (w - k) k (let e : (w - k) + k ≡ w = omega arith in rw e h)
  | inr high ↦
      let more : 2 ^ w ≤ 2 ^ k = pow_mono {i = w} {j = k} high in
      let none : w - k ≡ 0 = omega arith in
      rw none (omega (arith, div-eq_of_lt {n = n} {m = 2 ^ k} (omega arith)))
]
