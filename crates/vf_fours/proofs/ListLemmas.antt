-- Lists of bits place by place, and what planes say of them.
use Rattle.std.proofs.Common.{◌≡◌, ℕ, zero, suc, ◌+◌, ◌-◌, ◌*◌, ◌/◌, ◌%◌, ◌^◌, ◌<◌, ◌≤◌, Bool, true, false, not, ◌&&◌, ◌||◌, nat_eq, List, [], ◌∷◌, ◌++◌, length, get_or, map, replicate, refl, sym, ap, ap₂, ◌∙◌, arith, inl, inr, bit_and, eq-eqb, ne_eqb}
use Rattle.std.specs.List.{list_any, list_all}
use Rattle.std.specs.Int.{bit_at}
use Rattle.std.proofs.Math.Nat.{pow-suc}
use Rattle.std.proofs.lemmas.Nat.{pow_pos, mod_below}
use Rattle.std.proofs.lemmas.Nat.Bits.{bit_at-suc, bit_at_lowest, bit_at-lt, bit_at-zero, bit_at_above, same_from_bits}
use Rattle.std.proofs.lemmas.Bool.{cases_lt}
use Rattle.vf_fours.specs.declared.Bit.{Bit}
use Rattle.vf_fours.specs.declared.Bit.TheVariants.{Zero, X}
use Rattle.vf_fours.specs.declared.planes.Planes.{Planes}
use Rattle.vf_fours.specs.Bits.{FourState, is_known, zip_with, tabulate, bit_in, all_x, all_known}
use Rattle.vf_fours.specs.Numbers.{bit_is, digit, digits_of}
use Rattle.vf_fours.specs.Planes.{bit_of, bit_from, bits_of, plane_bit, IsBelow, Shows}
use Rattle.vf_fours.specs.Shapes.{length-bits_of}
use Rattle.vf_fours.proofs.PlaneLemmas.{bit_is-and, bit_is-low_ones, bit_is_above, bit_at-mod}
use Rattle.vf_fours.proofs.Tables.{known_table}

-- ---- tabulate

pub tabulate-ext : {A : Type 0} (f g : ℕ → A) (n : ℕ) → ((i : ℕ) → i < n → f i ≡ g i) → tabulate f n ≡ tabulate g n
unfolding tabulate
tabulate-ext f g zero e = refl
tabulate-ext f g (suc n) e = ap₂ ◌∷◌ (e 0 (omega arith)) (tabulate-ext (λ i. f (suc i)) (λ i. g (suc i)) n (λ i h. e (suc i) (omega arith)))

pub get_or-tabulate : {A : Type 0} (f : ℕ → A) (n i : ℕ) (d : A) → i < n → get_or (tabulate f n) i d ≡ f i
unfolding tabulate
get_or-tabulate f zero i d h = absurd (omega arith)
get_or-tabulate f (suc n) zero d h = refl
get_or-tabulate f (suc n) (suc i) d h = get_or-tabulate (λ j. f (suc j)) n i d (omega arith)

pub zip_with-tabulate : {A : Type 0} (g : Bit → Bit → A) (f h : ℕ → Bit) (n : ℕ) → zip_with g (tabulate f n) (tabulate h n) ≡ tabulate (λ i. g (f i) (h i)) n
unfolding tabulate zip_with
zip_with-tabulate g f h zero = refl
zip_with-tabulate g f h (suc n) = ap (λ rest. g (f 0) (h 0) ∷ rest) (zip_with-tabulate g (λ i. f (suc i)) (λ i. h (suc i)) n)

pub map-tabulate : {A B : Type 0} (g : A → B) (f : ℕ → A) (n : ℕ) → map g (tabulate f n) ≡ tabulate (λ i. g (f i)) n
unfolding tabulate
map-tabulate g f zero = refl
map-tabulate g f (suc n) = ap (λ rest. g (f 0) ∷ rest) (map-tabulate g (λ i. f (suc i)) n)

pub tabulate-append : {A : Type 0} (f : ℕ → A) (m n : ℕ) → tabulate f (m + n) ≡ tabulate f m ++ tabulate (λ i. f (m + i)) n
unfolding tabulate
tabulate-append f zero n =
    ap (tabulate f) (omega arith) ∙ tabulate-ext f (λ i. f (0 + i)) n (λ i h. ap f (omega arith))
tabulate-append f (suc m) n =
    let e : (suc m) + n ≡ suc (m + n) = omega arith in
    ap (tabulate f) e
    ∙ ap (λ rest. f 0 ∷ rest) (tabulate-append (λ i. f (suc i)) m n)
    ∙ ap (λ rest. (f 0 ∷ tabulate (λ i. f (suc i)) m) ++ rest) (tabulate-ext (λ i. f (suc (m + i))) (λ i. f (suc m + i)) n (λ i h. ap f (omega arith)))

pub tabulate-same : {A : Type 0} (a : A) (n : ℕ) → tabulate (λ _. a) n ≡ replicate n a
unfolding tabulate
tabulate-same a zero = refl
tabulate-same a (suc n) = ap (λ rest. a ∷ rest) (tabulate-same a n)

-- ---- tests of each element, and of some, by a number

zero_split : (n : ℕ) → (not (nat_eq (n % 2) 1) && nat_eq (n / 2) 0) ≡ nat_eq n 0
zero_split n = by (n % 2) (n / 2) (omega arith) (omega arith)
  where
    by : (r q : ℕ) → r < 2 → n ≡ 2 * q + r → (not (nat_eq r 1) && nat_eq q 0) ≡ nat_eq n 0
    by zero zero h e = sym (eq-eqb n 0 (omega arith))
    by zero (suc q) h e = ne_eqb (suc q) 0 (λ z. omega arith) ∙ sym (ne_eqb n 0 (λ z. omega arith))
    by (suc zero) q h e = sym (ne_eqb n 0 (λ z. omega arith))
    by (suc (suc r)) q h e = absurd (omega arith)

pub all-tabulate : {A : Type 0} (test : A → Bool) (f : ℕ → A) (w n : ℕ) → n < 2 ^ w → ((i : ℕ) → i < w → bit_is n i ≡ not (test (f i))) → list_all test (tabulate f w) ≡ nat_eq n 0
unfolding tabulate
all-tabulate test f zero n h e = sym (eq-eqb n 0 (omega arith))
all-tabulate test f (suc w) n h e =
    let double = pow-suc 2 w in
    let rest = all-tabulate test (λ i. f (suc i)) w (n / 2) (omega arith) (λ i k. ap (λ m. nat_eq m 1) (sym (bit_at-suc n i)) ∙ e (suc i) (omega arith)) in
    let first = ap (λ m. nat_eq m 1) (sym (bit_at_lowest n)) ∙ e 0 (omega arith) in
    ap₂ ◌&&◌ (sym (not-not (test (f 0))) ∙ ap not (sym first)) rest ∙ zero_split n
  where
    not-not : (t : Bool) → not (not t) ≡ t
    not-not false = refl
    not-not true = refl

pub any-tabulate : {A : Type 0} (test : A → Bool) (f : ℕ → A) (w n : ℕ) → n < 2 ^ w → ((i : ℕ) → i < w → bit_is n i ≡ test (f i)) → list_any test (tabulate f w) ≡ not (nat_eq n 0)
unfolding tabulate
any-tabulate test f zero n h e = ap not (sym (eq-eqb n 0 (omega arith)))
any-tabulate test f (suc w) n h e =
    let double = pow-suc 2 w in
    let rest = any-tabulate test (λ i. f (suc i)) w (n / 2) (omega arith) (λ i k. ap (λ m. nat_eq m 1) (sym (bit_at-suc n i)) ∙ e (suc i) (omega arith)) in
    let first = ap (λ m. nat_eq m 1) (sym (bit_at_lowest n)) ∙ e 0 (omega arith) in
    ap₂ ◌||◌ (sym first) rest ∙ turned (nat_eq (n % 2) 1) (nat_eq (n / 2) 0) ∙ ap not (zero_split n)
  where
    turned : (s t : Bool) → (s || not t) ≡ not (not s && t)
    turned false t = refl
    turned true t = refl

-- a number whose bits are 0 from place w on is below 2^w
pub below_from_bits : (n w : ℕ) → ((i : ℕ) → w ≤ i → bit_is n i ≡ false) → n < 2 ^ w
below_from_bits n w clear =
    let small = mod_below n (2 ^ w) (pow_pos w) in
    let same : n ≡ n % 2 ^ w = same_from_bits n (n % 2 ^ w) (λ i. elim (cases_lt i w) [
      | inl below ↦ sym (bit_at-mod n w i below)
      | inr high ↦ clear_bit (bit_at n i) (bit_at-lt n i) (clear i high) ∙ sym (bit_at_above (n % 2 ^ w) w i small high)
    ]) in
    omega arith
  where
    clear_bit : (b : ℕ) → b < 2 → nat_eq b 1 ≡ false → b ≡ 0
    clear_bit zero h e = refl
    clear_bit (suc zero) h e = absurd (cc e)
    clear_bit (suc (suc b)) h e = absurd (omega arith)

-- ---- planes and lists

-- above a width, planes have 0
pub plane_bit_above : (p : Planes) (w i : ℕ) → IsBelow p w → w ≤ i → plane_bit p i ≡ Zero
unfolding bit_from
plane_bit_above p w i below h = ap₂ bit_of (bit_is_above p.ones w i below.ones_fit h) (bit_is_above p.unknown w i below.unknown_fit h)

-- the low bits of planes
pub bits_of-mask : (w o u : ℕ) → bits_of w (bit_and o (2 ^ w - 1)) (bit_and u (2 ^ w - 1)) ≡ bits_of w o u
unfolding bits_of bit_from
bits_of-mask w o u =
    let low = λ (n i : ℕ) (h : i < w). bit_is-and n (2 ^ w - 1) i ∙ ap (λ t. bit_is n i && t) (bit_is-low_ones w i h) ∙ and_true (bit_is n i) in
    tabulate-ext (λ i. bit_from (bit_and o (2 ^ w - 1)) (bit_and u (2 ^ w - 1)) i) (λ i. bit_from o u i) w (λ i h. ap₂ bit_of (low o i h) (low u i h))
  where
    and_true : (s : Bool) → (s && true) ≡ s
    and_true false = refl
    and_true true = refl

-- planes by their bits below a width
pub bits_are : (w : ℕ) (r : Planes) (f : ℕ → Bit) → ((i : ℕ) → i < w → plane_bit r i ≡ f i) → bits_of w r.ones r.unknown ≡ tabulate f w
unfolding bits_of
bits_are w r f e = tabulate-ext (λ i. bit_from r.ones r.unknown i) f w e

pub bits_of-known : (w n : ℕ) → bits_of w n 0 ≡ digits_of w n
unfolding bits_of bit_from digits_of
bits_of-known w n = tabulate-ext (λ i. bit_from n 0 i) (λ i. digit (bit_is n i)) w (λ i h. ap (λ m. bit_of (bit_is n i) (nat_eq m 1)) (bit_at-zero i) ∙ by (bit_is n i))
  where
    by : (t : Bool) → bit_of t false ≡ digit t
    by false = refl
    by true = refl

pub bits_of-x : (w : ℕ) (p : Planes) → ((i : ℕ) → i < w → plane_bit p i ≡ X) → bits_of w p.ones p.unknown ≡ all_x w
bits_of-x w p e = bits_are w p (λ _. X) e ∙ tabulate-same X w

-- two values with the same bits and the same mark
pub same_state : {xs ys : List Bit} {s t : Bool} → xs ≡ ys → s ≡ t → ◌≡◌ {A = FourState} (record { bits = xs; signed = s }) (record { bits = ys; signed = t })
same_state e f = λ j. record { bits = e j; signed = f j }

-- an operator between two lists, place by place
pub paired : {A : Type 0} (g : Bit → Bit → A) (a b : Planes) (xs ys : List Bit) → Shows a xs → Shows b ys → length xs ≡ length ys → zip_with g xs ys ≡ tabulate (λ i. g (plane_bit a i) (plane_bit b i)) (length xs)
unfolding bits_of
paired g a b xs ys sa sb same =
    ap₂ (zip_with g) sa.bits_are (sb.bits_are ∙ ap (λ n. bits_of n b.ones b.unknown) (sym same))
    ∙ zip_with-tabulate g (λ i. plane_bit a i) (λ i. plane_bit b i) (length xs)

pub paired_planes : (g : Bit → Bit → Bit) (a b r : Planes) (xs ys : List Bit) → Shows a xs → Shows b ys → length xs ≡ length ys → ((i : ℕ) → i < 128 → plane_bit r i ≡ g (plane_bit a i) (plane_bit b i)) → bits_of (length xs) r.ones r.unknown ≡ zip_with g xs ys
paired_planes g a b r xs ys sa sb same e =
    bits_are (length xs) r (λ i. g (plane_bit a i) (plane_bit b i)) (λ i h. e i (omega (arith, sa.most))) ∙ sym (paired g a b xs ys sa sb same)

pub mapped : {A : Type 0} (g : Bit → A) (a : Planes) (xs : List Bit) → Shows a xs → map g xs ≡ tabulate (λ i. g (plane_bit a i)) (length xs)
unfolding bits_of
mapped g a xs sa = ap (map g) sa.bits_are ∙ map-tabulate g (λ i. plane_bit a i) (length xs)

pub mapped_planes : (g : Bit → Bit) (a r : Planes) (xs : List Bit) → Shows a xs → ((i : ℕ) → i < 128 → plane_bit r i ≡ g (plane_bit a i)) → bits_of (length xs) r.ones r.unknown ≡ map g xs
mapped_planes g a r xs sa e =
    bits_are (length xs) r (λ i. g (plane_bit a i)) (λ i h. e i (omega (arith, sa.most))) ∙ sym (mapped g a xs sa)

pub bit_in-planes : (a : Planes) (xs : List Bit) (i : ℕ) → Shows a xs → i < length xs → bit_in xs i ≡ plane_bit a i
unfolding bits_of
bit_in-planes a xs i sa h = ap (λ l. get_or l i X) sa.bits_are ∙ get_or-tabulate (λ j. plane_bit a j) (length xs) i X h

pub length-zip_with : {A : Type 0} (g : Bit → Bit → A) (xs ys : List Bit) → length xs ≡ length ys → length (zip_with g xs ys) ≡ length xs
unfolding zip_with
length-zip_with g [] ys h = refl
length-zip_with g (a ∷ xs) [] h = absurd (omega arith)
length-zip_with g (a ∷ xs) (b ∷ ys) h = ap suc (length-zip_with g xs ys (omega arith))

-- ---- tests of a value, by a word

pub any_of_planes : (test : Bit → Bool) (a : Planes) (xs : List Bit) (n : ℕ) → Shows a xs → n < 2 ^ length xs → ((i : ℕ) → i < length xs → bit_is n i ≡ test (plane_bit a i)) → list_any test xs ≡ not (nat_eq n 0)
unfolding bits_of
any_of_planes test a xs n sa fit e = ap (list_any test) sa.bits_are ∙ any-tabulate test (λ i. plane_bit a i) (length xs) n fit e

pub known_planes : (a : Planes) (xs : List Bit) → Shows a xs → all_known xs ≡ nat_eq a.unknown 0
unfolding bits_of bit_from all_known
known_planes a xs sa =
    ap (list_all is_known) sa.bits_are
    ∙ all-tabulate is_known (λ i. plane_bit a i) (length xs) a.unknown sa.below.unknown_fit (λ i h. sym (ap not (known_table (bit_is a.ones i) (bit_is a.unknown i)) ∙ not-not (bit_is a.unknown i)))
  where
    not-not : (t : Bool) → not (not t) ≡ t
    not-not false = refl
    not-not true = refl

-- the planes that a view was made of
pub shows_view : (w o u : ℕ) (bits : List Bit) → bits_of w o u ≡ bits → 1 ≤ w → w ≤ 128 → o < 2 ^ w → u < 2 ^ w → Shows (record { ones = o; unknown = u }) bits
shows_view w o u bits e some most ones_fit unknown_fit =
    let long : length bits ≡ w = ap length (sym e) ∙ length-bits_of w o u in
    record {
      bits_are = sym e ∙ ap (λ n. bits_of n o u) (sym long);
      below = record { ones_fit = rw long ones_fit; unknown_fit = rw long unknown_fit };
      some = rw long some;
      most = rw long most;
    }
