-- Lists of bits that the values of numbers have.
use Rattle.std.proofs.Common.{◌≡◌, ℕ, zero, suc, ◌+◌, ◌<◌, ◌≤◌, Bool, true, false, nat_lt, if◌then◌else◌, List, [], ◌∷◌, ◌++◌, length, get_or, take, replicate, pos, refl, ap, ap₂, ◌∙◌, arith}
use Rattle.std.proofs.lemmas.Nat.Bits.{bit_at-zero}
use Rattle.std.proofs.lemmas.Bool.{lt-ltb, le-ltb}
use Rattle.vf_fours.specs.declared.Bit.{Bit}
use Rattle.vf_fours.specs.declared.Bit.TheVariants.{Zero, X}
use Rattle.vf_fours.specs.Bits.{FourState, tabulate, bit_in}
use Rattle.vf_fours.specs.Numbers.{bit_is, digit, digits_of}
use Rattle.vf_fours.specs.Planes.{bit_of, bit_from, bits_of}
use Rattle.vf_fours.specs.Shapes.{length-bits_of}
use Rattle.vf_fours.specs.Operators.{one_bit, concat_of, select_of, resize_of}

-- ---- tabulate

tabulate_ext : {A : Type 0} (f g : ℕ → A) (n : ℕ) → ((i : ℕ) → i < n → f i ≡ g i) → tabulate f n ≡ tabulate g n
unfolding tabulate
tabulate_ext f g zero e = refl
tabulate_ext f g (suc n) e = ap₂ ◌∷◌ (e 0 (omega arith))
    (tabulate_ext (λ i. f (suc i)) (λ i. g (suc i)) n (λ i h. e (suc i) (omega arith)))

tabulate_same : (f : ℕ → Bit) (b : Bit) (n : ℕ) → ((i : ℕ) → f i ≡ b) → tabulate f n ≡ replicate n b
unfolding tabulate
tabulate_same f b zero e = refl
tabulate_same f b (suc n) e = ap₂ ◌∷◌ (e 0) (tabulate_same (λ i. f (suc i)) b n (λ i. e (suc i)))

tabulate_take : (f : ℕ → Bit) (bits : List Bit) (n : ℕ) → n ≤ length bits → ((i : ℕ) → i < n → f i ≡ get_or bits i X)
    → tabulate f n ≡ take n bits
unfolding tabulate
tabulate_take f bits zero h e = refl
tabulate_take f [] (suc n) h e = absurd (omega arith)
tabulate_take f (b ∷ bits) (suc n) h e =
    ap₂ ◌∷◌ (e 0 (omega arith)) (tabulate_take (λ i. f (suc i)) bits n (omega arith) (λ i k. e (suc i) (omega arith)))

get_or_tabulate : (f : ℕ → Bit) (n i : ℕ) → i < n → get_or (tabulate f n) i X ≡ f i
unfolding tabulate
get_or_tabulate f zero i h = absurd (omega arith)
get_or_tabulate f (suc n) zero h = refl
get_or_tabulate f (suc n) (suc i) h = get_or_tabulate (λ j. f (suc j)) n i (omega arith)

-- the first of those that are tabulated
pub tabulate_cut : (f : ℕ → Bit) (m n : ℕ) → m ≤ n → take m (tabulate f n) ≡ tabulate f m
unfolding tabulate
tabulate_cut f zero n h = refl
tabulate_cut f (suc m) zero h = absurd (omega arith)
tabulate_cut f (suc m) (suc n) h = ap (λ (bits : List Bit). f 0 ∷ bits) (tabulate_cut (λ i. f (suc i)) m n (omega arith))

-- ---- the calls

first_or_same : (b : Bit) (i : ℕ) → (if nat_lt i 1 then get_or (b ∷ []) i X else b) ≡ b
first_or_same b zero = refl
first_or_same b (suc i) = rw (le-ltb (suc i) 1 (omega arith)) refl

pub filled_is : (w : ℕ) (s : Bool) (b : Bit)
    → resize_of (resize_of (one_bit b) 1 true) w s ≡ record { bits = replicate w b; signed = s }
unfolding resize_of tabulate
filled_is w s b = ap (λ (bits : List Bit). record { bits = bits; signed = s }) (tabulate_same _ b w (λ i. first_or_same b i))

known_bit : (t : Bool) → bit_of t false ≡ digit t
known_bit true = refl
known_bit false = refl

bit_from_known : (n i : ℕ) → bit_from n 0 i ≡ digit (bit_is n i)
unfolding bit_from
bit_from_known n i = rw (bit_at-zero i) (known_bit (bit_is n i))

pub known_is : (w n : ℕ) (s : Bool) → w ≤ 128
    → resize_of (record { bits = bits_of 128 n 0; signed = false }) w s ≡ record { bits = digits_of w n; signed = s }
unfolding resize_of bits_of digits_of
known_is w n s h =
    let place = λ (i : ℕ) (k : i < w).
    let below : nat_lt i (length (bits_of 128 n 0)) ≡ true = ap (nat_lt i) (length-bits_of 128 n 0) ∙ lt-ltb i 128 (omega arith) in
    let same : (if nat_lt i (length (bits_of 128 n 0)) then bit_in (bits_of 128 n 0) i else Zero) ≡ digit (bit_is n i)
    = rw below (get_or_tabulate (λ j. bit_from n 0 j) 128 i (omega arith) ∙ bit_from_known n i) in
    same
    in
    ap (λ (bits : List Bit). record { bits = bits; signed = s }) (tabulate_ext _ _ w place)

pub select_is : (v : FourState) (n : ℕ) → n ≤ length v.bits
    → select_of v (pos 0) n ≡ record { bits = take n v.bits; signed = false }
unfolding select_of
select_is v n h = ap (λ (bits : List Bit). record { bits = bits; signed = false })
    (tabulate_take _ v.bits n h (λ i k. let e : 0 + i ≡ i = omega arith in ap (λ j. get_or v.bits j X) e))

pub cut_is : (v : FourState) (w : ℕ) (s : Bool) → w ≤ length v.bits → resize_of v w s ≡ record { bits = take w v.bits; signed = s }
unfolding resize_of
cut_is v w s h = ap (λ (bits : List Bit). record { bits = bits; signed = s })
    (tabulate_take _ v.bits w h (λ i k. rw (lt-ltb i (length v.bits) (omega arith)) refl))

pub concat_is : (a low : FourState) → (concat_of a low).bits ≡ low.bits ++ a.bits
unfolding concat_of
concat_is a low = refl
