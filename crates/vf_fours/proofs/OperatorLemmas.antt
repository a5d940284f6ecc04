-- What the words of an operator show, and what its definition says.
use Rattle.std.proofs.Common.{◌≡◌, ℕ, zero, suc, ◌+◌, ◌-◌, ◌*◌, ◌%◌, ◌<◌, ◌≤◌, Bool, true, false, not, ◌&&◌, cond, nat_eq, nat_lt, List, [], ◌∷◌, ◌++◌, length, map, fold, refl, sym, ap, ap₂, ◌∙◌, arith, inl, inr, lt-ltb, le-ltb}
use Rattle.std.specs.Prelude.{ℤ, pos, negsuc, ◌+ℤ◌, neg_ℤ, ◌≤ℤ◌, ◌⊎◌, int_lt, int_le, nat_le, count_ones}
use Rattle.std.specs.List.{list_all, list_any}
use lib.Count.{ones, ones_in}
use Rattle.std.proofs.Math.ListN.{get_or-map as mapped_get}
use Rattle.std.proofs.lemmas.Int.{ints}
use Rattle.std.proofs.lemmas.Nat.{ones_cat}
use Rattle.std.proofs.lemmas.Nat.Bits.{bit_at-zero}
use Rattle.std.proofs.lemmas.List.{length-map, get_or_past, get_or-map}
use Rattle.std.proofs.lemmas.Bool.{cases_lt, cond-true, cond-false, ltb-true, ltb-false, le-leb, lt-leb}
use Rattle.vf_fours.specs.declared.Bit.{Bit}
use Rattle.vf_fours.specs.declared.Bit.TheVariants.{Zero, One, X, Z}
use Rattle.vf_fours.specs.declared.planes.Planes.{Planes}
use Rattle.vf_fours.specs.Bits.{FourState, settled_bit, is_one, is_zero, and_bit, or_bit, xor_bit, zip_with, tabulate, bit_in, top, all_x, all_known}
use Rattle.vf_fours.specs.Numbers.{weight_of, number, integer, bit_is, digit, digits_of, wrapped_bits}
use Rattle.vf_fours.specs.Operators.{both_signed, both_known, numeric_of, divided_of, shifted_of, bits_moved_up, bits_moved_down, some, every, compared_of, truth_of, bit_at_place}
use Rattle.vf_fours.specs.Planes.{bit_of, bit_from, bits_of, plane_bit, Shows}
use Rattle.vf_fours.proofs.Tables.{either}
use Rattle.vf_fours.proofs.ListLemmas.{tabulate-ext, tabulate-append, tabulate-same, all-tabulate, any-tabulate, below_from_bits, plane_bit_above, bits_are, same_state, paired, bit_in-planes}

-- ---- tests of pairs

pub some_of_pairs : (g : Bit → Bit → Bool) (a b : Planes) (xs ys : List Bit) (n : ℕ) → Shows a xs → Shows b ys → length xs ≡ length ys → ((i : ℕ) → bit_is n i ≡ g (plane_bit a i) (plane_bit b i)) → g Zero Zero ≡ false → some (zip_with g xs ys) ≡ not (nat_eq n 0)
some_of_pairs g a b xs ys n sa sb same e off =
    let w = length xs in
    let fit = below_from_bits n w (λ i h. e i ∙ ap₂ g (plane_bit_above a w i sa.below h) (plane_bit_above b w i (rw same sb.below) h) ∙ off) in
    ap some (paired g a b xs ys sa sb same)
    ∙ any-tabulate (λ t. t) (λ i. g (plane_bit a i) (plane_bit b i)) w n fit (λ i h. e i)

pub every_of_pairs : (g : Bit → Bit → Bool) (a b : Planes) (xs ys : List Bit) (n : ℕ) → Shows a xs → Shows b ys → length xs ≡ length ys → ((i : ℕ) → bit_is n i ≡ not (g (plane_bit a i) (plane_bit b i))) → g Zero Zero ≡ true → every (zip_with g xs ys) ≡ nat_eq n 0
every_of_pairs g a b xs ys n sa sb same e on =
    let w = length xs in
    let fit = below_from_bits n w (λ i h. e i ∙ ap not (ap₂ g (plane_bit_above a w i sa.below h) (plane_bit_above b w i (rw same sb.below) h) ∙ on)) in
    ap every (paired g a b xs ys sa sb same)
    ∙ all-tabulate (λ t. t) (λ i. g (plane_bit a i) (plane_bit b i)) w n fit (λ i h. e i)

-- ---- numbers

pub numeric_unknown : (f : ℤ → ℤ → ℤ) (a b : FourState) → both_known a b ≡ false → ◌≡◌ {A = FourState} (record { bits = all_x (length a.bits); signed = both_signed a b }) (numeric_of f a b)
unfolding numeric_of
numeric_unknown f a b h = same_state (sym (cond-false _ _ _ h)) refl

pub numeric_known : (f : ℤ → ℤ → ℤ) (a b : FourState) (bits : List Bit) → both_known a b ≡ true → bits ≡ wrapped_bits (length a.bits) (f (integer (both_signed a b) a.bits) (integer (both_signed a b) b.bits)) → ◌≡◌ {A = FourState} (record { bits = bits; signed = both_signed a b }) (numeric_of f a b)
unfolding numeric_of
numeric_known f a b bits h e = same_state (e ∙ sym (cond-true _ _ _ h)) refl

-- ---- comparisons

pub compared_unknown : (test : ℤ → ℤ → Bool) (a b : FourState) → both_known a b ≡ false → X ≡ compared_of test a b
unfolding compared_of
compared_unknown test a b h = sym (cond-false _ _ _ h)

pub compared_known : (test : ℤ → ℤ → Bool) (a b : FourState) → both_known a b ≡ true → digit (test (integer (both_signed a b) a.bits) (integer (both_signed a b) b.bits)) ≡ compared_of test a b
unfolding compared_of
compared_known test a b h = sym (cond-true _ _ _ h)

and_turned : (s t : Bool) → (s && t) ≡ (t && s)
and_turned false false = refl
and_turned false true = refl
and_turned true false = refl
and_turned true true = refl

leb_is : (a b : ℕ) → nat_le a b ≡ not (nat_lt b a)
leb_is a b = elim (cases_lt b a) [
  | inl l ↦ lt-leb a b l ∙ ap not (sym (lt-ltb b a l))
  | inr g ↦ le-leb a b g ∙ ap not (sym (le-ltb b a g))
]

int_le_is : (x y : ℤ) → int_le x y ≡ not (int_lt y x)
int_le_is (pos a) (pos b) = leb_is a b
int_le_is (pos a) (negsuc b) = refl
int_le_is (negsuc a) (pos b) = refl
int_le_is (negsuc a) (negsuc b) = leb_is b a

-- `<=` by the test `<` the other way round
pub not_below : (a b : FourState) → not (int_lt (integer (both_signed b a) b.bits) (integer (both_signed b a) a.bits)) ≡ int_le (integer (both_signed a b) a.bits) (integer (both_signed a b) b.bits)
not_below a b =
    ap (λ s. not (int_lt (integer s b.bits) (integer s a.bits))) (and_turned b.signed a.signed)
    ∙ sym (int_le_is (integer (both_signed a b) a.bits) (integer (both_signed a b) b.bits))

-- ---- one bit from many

-- with no bit 1, known bits are all 0
pub zeros_without_one : (xs : List Bit) → list_any is_one xs ≡ false → list_all is_zero xs ≡ all_known xs
unfolding all_known
zeros_without_one [] h = refl
zeros_without_one (Zero ∷ xs) h = zeros_without_one xs h
zeros_without_one (One ∷ xs) h = absurd (cc h)
zeros_without_one (X ∷ xs) h = refl
zeros_without_one (Z ∷ xs) h = refl

fold_and_zero : (xs : List Bit) → fold and_bit Zero xs ≡ Zero
fold_and_zero [] = refl
fold_and_zero (x ∷ xs) = fold_and_zero xs

fold_and_x : (xs : List Bit) → fold and_bit X xs ≡ cond (list_any is_zero xs) Zero X
fold_and_x [] = refl
fold_and_x (Zero ∷ xs) = fold_and_zero xs
fold_and_x (One ∷ xs) = fold_and_x xs
fold_and_x (X ∷ xs) = fold_and_x xs
fold_and_x (Z ∷ xs) = fold_and_x xs

pub fold_and : (xs : List Bit) → fold and_bit One xs ≡ cond (list_any is_zero xs) Zero (cond (all_known xs) One X)
unfolding all_known
fold_and [] = refl
fold_and (Zero ∷ xs) = fold_and_zero xs
fold_and (One ∷ xs) = fold_and xs
fold_and (X ∷ xs) = fold_and_x xs
fold_and (Z ∷ xs) = fold_and_x xs

fold_or_one : (xs : List Bit) → fold or_bit One xs ≡ One
fold_or_one [] = refl
fold_or_one (x ∷ xs) = fold_or_one xs

fold_or_x : (xs : List Bit) → fold or_bit X xs ≡ cond (list_any is_one xs) One X
fold_or_x [] = refl
fold_or_x (Zero ∷ xs) = fold_or_x xs
fold_or_x (One ∷ xs) = fold_or_one xs
fold_or_x (X ∷ xs) = fold_or_x xs
fold_or_x (Z ∷ xs) = fold_or_x xs

-- the reduction by `|` is the logical value
pub fold_or : (xs : List Bit) → fold or_bit Zero xs ≡ truth_of xs
unfolding truth_of
fold_or [] = refl
fold_or (Zero ∷ xs) = fold_or xs
fold_or (One ∷ xs) = fold_or_one xs
fold_or (X ∷ xs) = fold_or_x xs
fold_or (Z ∷ xs) = fold_or_x xs

fold_xor_x : (xs : List Bit) → fold xor_bit X xs ≡ X
fold_xor_x [] = refl
fold_xor_x (Zero ∷ xs) = fold_xor_x xs
fold_xor_x (One ∷ xs) = fold_xor_x xs
fold_xor_x (X ∷ xs) = fold_xor_x xs
fold_xor_x (Z ∷ xs) = fold_xor_x xs

pub fold_xor_unknown : (s : Bool) (xs : List Bit) → all_known xs ≡ false → fold xor_bit (digit s) xs ≡ X
unfolding all_known
fold_xor_unknown s [] h = absurd (cc h)
fold_xor_unknown false (Zero ∷ xs) h = fold_xor_unknown false xs h
fold_xor_unknown true (Zero ∷ xs) h = fold_xor_unknown true xs h
fold_xor_unknown false (One ∷ xs) h = fold_xor_unknown true xs h
fold_xor_unknown true (One ∷ xs) h = fold_xor_unknown false xs h
fold_xor_unknown false (X ∷ xs) h = fold_xor_x xs
fold_xor_unknown true (X ∷ xs) h = fold_xor_x xs
fold_xor_unknown false (Z ∷ xs) h = fold_xor_x xs
fold_xor_unknown true (Z ∷ xs) h = fold_xor_x xs

-- an odd number
abbrev pub is_odd : ℕ → Bool
is_odd n = nat_eq (n % 2) 1

is_odd-suc : (n : ℕ) → is_odd (n + 1) ≡ not (is_odd n)
is_odd-suc n = by (n % 2) ((n + 1) % 2) (omega arith) (omega arith)
  where
    by : (r q : ℕ) → r < 2 → q ≡ (r + 1) % 2 → nat_eq q 1 ≡ not (nat_eq r 1)
    by zero q h e = ap (λ n. nat_eq n 1) e
    by (suc zero) q h e = ap (λ n. nat_eq n 1) e
    by (suc (suc r)) q h e = absurd (omega arith)

count_ones_zero : count_ones 0 ≡ 0
unfolding ones ones_in
count_ones_zero = refl

count_ones_one : count_ones 1 ≡ 1
unfolding ones ones_in
count_ones_one = refl

count_ones_even : (n : ℕ) → count_ones (0 + 2 * n) ≡ count_ones n
count_ones_even n = ap count_ones (omega arith) ∙ ones_cat 1 n 0 (omega arith) ∙ omega (arith, count_ones_zero)

count_ones_odd : (n : ℕ) → count_ones (1 + 2 * n) ≡ count_ones n + 1
count_ones_odd n = ap count_ones (omega arith) ∙ ones_cat 1 n 1 (omega arith) ∙ omega (arith, count_ones_one)

pub fold_xor : (s : Bool) (xs : List Bit) → all_known xs ≡ true → fold xor_bit (digit s) xs ≡ digit (either s (is_odd (count_ones (number xs))))
unfolding all_known weight_of
fold_xor false [] h = sym (ap (λ n. digit (either false (is_odd n))) count_ones_zero)
fold_xor true [] h = sym (ap (λ n. digit (either true (is_odd n))) count_ones_zero)
fold_xor false (Zero ∷ xs) h = fold_xor false xs h ∙ ap (λ n. digit (either false (is_odd n))) (sym (count_ones_even (number xs)))
fold_xor true (Zero ∷ xs) h = fold_xor true xs h ∙ ap (λ n. digit (either true (is_odd n))) (sym (count_ones_even (number xs)))
fold_xor false (One ∷ xs) h =
    fold_xor true xs h ∙ ap digit (sym (ap is_odd (count_ones_odd (number xs)) ∙ is_odd-suc (count_ones (number xs))))
fold_xor true (One ∷ xs) h =
    fold_xor false xs h
    ∙ ap digit (sym (ap (λ n. not (is_odd n)) (count_ones_odd (number xs)) ∙ ap not (is_odd-suc (count_ones (number xs))) ∙ not-not (is_odd (count_ones (number xs)))))
  where
    not-not : (t : Bool) → not (not t) ≡ t
    not-not false = refl
    not-not true = refl
fold_xor s (X ∷ xs) h = absurd (cc h)
fold_xor s (Z ∷ xs) h = absurd (cc h)

-- ---- shifts and parts

pub plane_bit_zero : (z : Planes) (i : ℕ) → z.ones ≡ 0 → z.unknown ≡ 0 → plane_bit z i ≡ Zero
unfolding bit_from
plane_bit_zero z i e f = ap₂ (λ m n. bit_of (bit_is m i) (bit_is n i)) e f ∙ ap₂ (λ m n. bit_of (nat_eq m 1) (nat_eq n 1)) (bit_at-zero i) (bit_at-zero i)

settled_in : (a s : Planes) (xs : List Bit) (i : ℕ) → Shows a xs → ((i : ℕ) → plane_bit s i ≡ settled_bit (plane_bit a i)) → i < length xs → bit_in (map settled_bit xs) i ≡ plane_bit s i
settled_in a s xs i sa e h = get_or-map settled_bit xs i X X h ∙ ap settled_bit (bit_in-planes a xs i sa h) ∙ sym (e i)

-- a choice between equal things
choice : {A : Type 0} (t : Bool) (a b c d : A) → (t ≡ true → a ≡ c) → (t ≡ false → b ≡ d) → cond t a b ≡ cond t c d
choice false a b c d e f = f refl
choice true a b c d e f = e refl

pub up_planes : (a s z r : Planes) (xs : List Bit) (n : ℕ) → Shows a xs → ((i : ℕ) → plane_bit s i ≡ settled_bit (plane_bit a i)) → ((i : ℕ) → plane_bit z i ≡ Zero) → ((i : ℕ) → i < 128 → plane_bit r i ≡ cond (nat_lt i n) (plane_bit z i) (plane_bit s (i - n))) → bits_of (length xs) r.ones r.unknown ≡ bits_moved_up (map settled_bit xs) n
up_planes a s z r xs n sa es ez er =
    let f = λ (i : ℕ). cond (nat_lt i n) Zero (bit_in (map settled_bit xs) (i - n)) in
    bits_are (length xs) r f (λ i h. er i (omega (arith, sa.most)) ∙ choice (nat_lt i n) _ _ _ _ (λ _. ez i) (λ t. sym (settled_in a s xs (i - n) sa es (let k = ltb-false i n t in omega arith))))
    ∙ ap (tabulate f) (sym (length-map xs settled_bit))

pub up_past : (xs : List Bit) (n : ℕ) → length xs ≤ n → digits_of (length xs) 0 ≡ bits_moved_up (map settled_bit xs) n
unfolding digits_of
up_past xs n h =
    let f = λ (i : ℕ). cond (nat_lt i n) Zero (bit_in (map settled_bit xs) (i - n)) in
    tabulate-ext (λ i. digit (bit_is 0 i)) f (length xs) (λ i k. ap (λ m. digit (nat_eq m 1)) (bit_at-zero i) ∙ sym (cond-true _ _ _ (lt-ltb i n (omega arith))))
    ∙ ap (tabulate f) (sym (length-map xs settled_bit))

-- to be below a difference is to have a sum below
less_of_minus : (i n w : ℕ) → nat_lt i (w - n) ≡ nat_lt (i + n) w
less_of_minus i n w = elim (cases_lt (i + n) w) [
  | inl l ↦ lt-ltb i (w - n) (omega arith) ∙ sym (lt-ltb (i + n) w l)
  | inr g ↦ le-ltb i (w - n) (omega arith) ∙ sym (le-ltb (i + n) w g)
]

pub down_planes : (a s d r : Planes) (xs : List Bit) (n : ℕ) (fill : Bit) → Shows a xs → ((i : ℕ) → plane_bit s i ≡ settled_bit (plane_bit a i)) → ((i : ℕ) → plane_bit d i ≡ plane_bit s (i + n)) → ((i : ℕ) → i < 128 → plane_bit r i ≡ cond (nat_lt i (length xs - n)) (plane_bit d i) fill) → bits_of (length xs) r.ones r.unknown ≡ bits_moved_down fill (map settled_bit xs) n
down_planes a s d r xs n fill sa es ed er =
    let f = λ (w i : ℕ). cond (nat_lt (i + n) w) (bit_in (map settled_bit xs) (i + n)) fill in
    bits_are (length xs) r (f (length xs)) (λ i h. er i (omega (arith, sa.most)) ∙ ap (λ t. cond t (plane_bit d i) fill) (less_of_minus i n (length xs)) ∙ choice (nat_lt (i + n) (length xs)) _ _ _ _ (λ t. ed i ∙ sym (settled_in a s xs (i + n) sa es (ltb-true (i + n) (length xs) t))) (λ _. refl))
    ∙ ap (λ w. tabulate (f w) w) (sym (length-map xs settled_bit))

pub down_past : (r : Planes) (xs : List Bit) (n : ℕ) (fill : Bit) → length xs ≤ 128 → length xs ≤ n → ((i : ℕ) → i < 128 → plane_bit r i ≡ fill) → bits_of (length xs) r.ones r.unknown ≡ bits_moved_down fill (map settled_bit xs) n
down_past r xs n fill most past er =
    let f = λ (w i : ℕ). cond (nat_lt (i + n) w) (bit_in (map settled_bit xs) (i + n)) fill in
    bits_are (length xs) r (f (length xs)) (λ i h. er i (omega arith) ∙ sym (cond-false _ _ _ (le-ltb (i + n) (length xs) (omega arith))))
    ∙ ap (λ w. tabulate (f w) w) (sym (length-map xs settled_bit))

pub shifted_unknown : (f : List Bit → ℕ → List Bit) (a by : FourState) → all_known by.bits ≡ false → ◌≡◌ {A = FourState} (record { bits = all_x (length a.bits); signed = a.signed }) (shifted_of f a by)
unfolding shifted_of
shifted_unknown f a by h = same_state (sym (cond-false _ _ _ h)) refl

pub shifted_known : (f : List Bit → ℕ → List Bit) (a by : FourState) (bits : List Bit) → all_known by.bits ≡ true → bits ≡ f (map settled_bit a.bits) (number by.bits) → ◌≡◌ {A = FourState} (record { bits = bits; signed = a.signed }) (shifted_of f a by)
unfolding shifted_of
shifted_known f a by bits h e = same_state (e ∙ sym (cond-true _ _ _ h)) refl

-- the top bit of what an operator sees
pub top_settled : (xs : List Bit) → settled_bit (top xs) ≡ top (map settled_bit xs)
top_settled xs = sym (ap (λ n. bit_in (map settled_bit xs) (n - 1)) (length-map xs settled_bit) ∙ mapped_get settled_bit xs (length xs - 1) X)

-- ---- joins and selects

pub joined : (a b r : Planes) (xs ys : List Bit) (n : ℕ) → Shows a xs → Shows b ys → n ≡ length ys → length xs + length ys ≤ 128 → ((i : ℕ) → i < 128 → plane_bit r i ≡ cond (nat_lt i n) (plane_bit b i) (plane_bit a (i - n))) → bits_of (length xs + n) r.ones r.unknown ≡ ys ++ xs
unfolding bits_of
joined a b r xs ys n sa sb e room er =
    let w = length xs in
    let order : w + n ≡ n + w = omega arith in
    ap (tabulate (λ i. plane_bit r i)) order
    ∙ tabulate-append (λ i. plane_bit r i) n w
    ∙ ap₂ ◌++◌
    (tabulate-ext (λ i. plane_bit r i) (λ i. plane_bit b i) n (λ i h. er i (omega arith) ∙ cond-true _ _ _ (lt-ltb i n h)) ∙ ap (tabulate (λ i. plane_bit b i)) e ∙ sym sb.bits_are)
    (tabulate-ext (λ i. plane_bit r (n + i)) (λ i. plane_bit a i) w (λ i h. er (n + i) (omega arith) ∙ cond-false _ _ _ (le-ltb (n + i) n (omega arith)) ∙ ap (plane_bit a) (omega arith)) ∙ sym sa.bits_are)

pub inside_planes : (a d r : Planes) (xs : List Bit) (low width : ℕ) → Shows a xs → width ≤ 128 → ((i : ℕ) → plane_bit d i ≡ plane_bit a (i + low)) → ((i : ℕ) → i < 128 → plane_bit r i ≡ cond (nat_lt i (length xs - low)) (plane_bit d i) X) → bits_of width r.ones r.unknown ≡ tabulate (λ i. bit_at_place xs (pos low +ℤ pos i)) width
inside_planes a d r xs low width sa most ed er =
    bits_are width r (λ i. bit_at_place xs (pos low +ℤ pos i)) (λ i h. er i (omega arith) ∙ elim (cases_lt (low + i) (length xs)) [
      | inl l ↦ cond-true _ _ _ (lt-ltb i (length xs - low) (omega arith)) ∙ ed i ∙ ap (plane_bit a) (omega arith) ∙ sym (bit_in-planes a xs (low + i) sa l)
      | inr g ↦ cond-false _ _ _ (le-ltb i (length xs - low) (omega arith)) ∙ sym (get_or_past xs (low + i) X g)
    ])

place_before : (xs : List Bit) (b i : ℕ) → i < b → bit_at_place xs (neg_ℤ (pos b) +ℤ pos i) ≡ X
place_before xs b i h = let e : neg_ℤ (pos b) +ℤ pos i ≡ negsuc (b - suc i) = omega (arith, ints) in ap (bit_at_place xs) e

place_after : (xs : List Bit) (b i : ℕ) → b ≤ i → bit_at_place xs (neg_ℤ (pos b) +ℤ pos i) ≡ bit_in xs (i - b)
place_after xs b i h = let e : neg_ℤ (pos b) +ℤ pos i ≡ pos (i - b) = omega (arith, ints) in ap (bit_at_place xs) e

pub before_planes : (a f x r : Planes) (xs : List Bit) (b width : ℕ) → Shows a xs → width ≤ 128 → ((i : ℕ) → i < b → plane_bit x i ≡ X) → ((i : ℕ) → i < 128 → plane_bit f i ≡ cond (nat_lt i (length xs)) (plane_bit a i) X) → ((i : ℕ) → i < 128 → plane_bit r i ≡ cond (nat_lt i b) (plane_bit x i) (plane_bit f (i - b))) → bits_of width r.ones r.unknown ≡ tabulate (λ i. bit_at_place xs (neg_ℤ (pos b) +ℤ pos i)) width
before_planes a f x r xs b width sa most ex ef er =
    bits_are width r (λ i. bit_at_place xs (neg_ℤ (pos b) +ℤ pos i)) (λ i h. er i (omega arith) ∙ elim (cases_lt i b) [
      | inl l ↦ cond-true _ _ _ (lt-ltb i b l) ∙ ex i l ∙ sym (place_before xs b i l)
      | inr g ↦ cond-false _ _ _ (le-ltb i b g) ∙ ef (i - b) (omega arith) ∙ inside (i - b) ∙ sym (place_after xs b i g)
    ])
  where
    inside : (j : ℕ) → cond (nat_lt j (length xs)) (plane_bit a j) X ≡ bit_in xs j
    inside j = elim (cases_lt j (length xs)) [
      | inl l ↦ cond-true _ _ _ (lt-ltb j (length xs) l) ∙ sym (bit_in-planes a xs j sa l)
      | inr g ↦ cond-false _ _ _ (le-ltb j (length xs) g) ∙ sym (get_or_past xs j X g)
    ]

pub resized_planes : (a r : Planes) (xs : List Bit) (width : ℕ) (fill : Bit) → Shows a xs → width ≤ 128 → ((i : ℕ) → i < 128 → plane_bit r i ≡ cond (nat_lt i (length xs)) (plane_bit a i) fill) → bits_of width r.ones r.unknown ≡ tabulate (λ i. cond (nat_lt i (length xs)) (bit_in xs i) fill) width
resized_planes a r xs width fill sa most er =
    bits_are width r (λ i. cond (nat_lt i (length xs)) (bit_in xs i) fill) (λ i h. er i (omega arith) ∙ choice (nat_lt i (length xs)) _ _ _ _ (λ t. sym (bit_in-planes a xs i sa (ltb-true i (length xs) t))) (λ _. refl))

-- ---- division

pub divided_unknown : (f : ℤ → ℤ → ℤ) (a b : FourState) → both_known a b ≡ false → ◌≡◌ {A = FourState} (record { bits = all_x (length a.bits); signed = both_signed a b }) (divided_of f a b)
unfolding divided_of
divided_unknown f a b h = by (list_all is_zero b.bits)
  where
    by : (t : Bool) → ◌≡◌ {A = FourState} (record { bits = all_x (length a.bits); signed = both_signed a b }) (cond t (record { bits = all_x (length a.bits); signed = both_signed a b }) (numeric_of f a b))
    by false = numeric_unknown f a b h
    by true = refl

pub divided_by_zero : (f : ℤ → ℤ → ℤ) (a b : FourState) → list_all is_zero b.bits ≡ true → ◌≡◌ {A = FourState} (record { bits = all_x (length a.bits); signed = both_signed a b }) (divided_of f a b)
unfolding divided_of
divided_by_zero f a b h = sym (cond-true _ _ _ h)

pub divided_known : (f : ℤ → ℤ → ℤ) (a b : FourState) (bits : List Bit) → list_all is_zero b.bits ≡ false → both_known a b ≡ true → bits ≡ wrapped_bits (length a.bits) (f (integer (both_signed a b) a.bits) (integer (both_signed a b) b.bits)) → ◌≡◌ {A = FourState} (record { bits = bits; signed = both_signed a b }) (divided_of f a b)
unfolding divided_of
divided_known f a b bits z h e = numeric_known f a b bits h e ∙ sym (cond-false _ _ _ z)

-- a select that lies outside
pub select_outside : (xs : List Bit) (low : ℤ) (width : ℕ) → (pos (length xs) ≤ℤ low) ⊎ (low ≤ℤ neg_ℤ (pos width)) → all_x width ≡ tabulate (λ i. bit_at_place xs (low +ℤ pos i)) width
select_outside xs low width h =
    sym (tabulate-same X width) ∙ tabulate-ext (λ _. X) (λ i. bit_at_place xs (low +ℤ pos i)) width (λ i k. sym (by low h i k))
  where
    by : (z : ℤ) → (pos (length xs) ≤ℤ z) ⊎ (z ≤ℤ neg_ℤ (pos width)) → (i : ℕ) → i < width → bit_at_place xs (z +ℤ pos i) ≡ X
    by (pos n) (inl g) i k = let far : length xs ≤ n = omega (arith, ints, g) in get_or_past xs (n + i) X (omega arith)
    by (pos n) (inr g) i k = absurd (omega (arith, ints, g))
    by (negsuc n) (inl g) i k = absurd (omega (arith, ints, g))
    by (negsuc n) (inr g) i k =
        let far : width ≤ suc n = omega (arith, ints, g) in
        let e : negsuc n +ℤ pos i ≡ negsuc (n - i) = omega (arith, ints) in
        ap (bit_at_place xs) e
