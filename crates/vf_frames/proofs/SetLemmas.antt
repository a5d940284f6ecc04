-- The bits of a set of frames.
use Rattle.std.proofs.Common.{◌≡◌, ◌≢◌, ℕ, zero, suc, ◌+◌, ◌*◌, ◌/◌, ◌%◌, ◌^◌, ◌-◌, ◌<◌, ◌≤◌, max, Bool, true, false, cond, not, ◌&&◌, ◌||◌, ◌==◌, List, [], ◌∷◌, ◌++◌, length, get_or, slice_index, slice_set, bit_or, bit_and, refl, sym, ap, ap₂, ◌∙◌, arith, ne_eqb, eq-eqb, ⊎_elim, w64, replicate}
use Rattle.std.specs.Int.{bit_at}
use Rattle.std.proofs.lemmas.Bool.{cases_eq, cases_lt, and_right, both_ways}
use Rattle.std.proofs.lemmas.Bool.Decides.{nat_tests}
use Rattle.std.proofs.lemmas.List.{get_or-set_other, get_or_default, get_or_past, get_or-replicate, length-replicate}
use Rattle.std.specs.List.{filter, range_with_len}
use Rattle.std.proofs.lemmas.Grind.{get_or-set_at}
use Rattle.std.proofs.lemmas.Nat.Bits.{shr_and_one, bit_at_set_same, bit_at_set_other, bit_at_clear_same, bit_at_clear_other, bit_at_or, bit_at-lt, bit_at-zero}
use Rattle.vf_frames.specs.Numbers.{has}
use Rattle.vf_frames.specs.FrameSets.{bit_is, frames_in}
use Rattle.vf_frames.proofs.ListLemmas.{has-filter_within, has-filter_above}

pub has-frames_in : (limit : ℕ) (words : List ℕ) (f : ℕ) → f < limit → has f (frames_in limit words) ≡ bit_is words f
unfolding frames_in
has-frames_in limit words f h = has-filter_within (bit_is words) f 0 limit (omega arith) (omega arith)

pub has-frames_in_above : (limit : ℕ) (words : List ℕ) (f : ℕ) → limit ≤ f → has f (frames_in limit words) ≡ false
unfolding frames_in
has-frames_in_above limit words f h = has-filter_above (bit_is words) f 0 limit (omega arith)

or_here : (c d : Bool) → c ≡ true → (c || d) ≡ true
or_here c d h = rw h refl

or_there : (c d : Bool) → c ≡ false → (c || d) ≡ d
or_there c d h = rw h refl

not_here : (c d : Bool) → c ≡ true → (not c && d) ≡ false
not_here c d h = rw h refl

not_there : (c d : Bool) → c ≡ false → (not c && d) ≡ d
not_there c d h = rw h refl

-- the set gains, loses or unites frames where its bits do
pub frames_in-gain : (limit f : ℕ) (words words' : List ℕ) → f < limit → ((g : ℕ) → g < limit → bit_is words' g ≡ ((g == f) || bit_is words g)) → (g : ℕ) → has g (frames_in limit words') ≡ ((g == f) || has g (frames_in limit words))
frames_in-gain limit f words words' h each g =
    ⊎_elim
    (λ below. has-frames_in limit words' g below ∙ each g below ∙ ap (λ b. (g == f) || b) (sym (has-frames_in limit words g below)))
    (λ above. has-frames_in_above limit words' g above ∙ sym (or_there (g == f) (has g (frames_in limit words)) (ne_eqb g f (λ e. omega arith)) ∙ has-frames_in_above limit words g above))
    (cases_lt g limit)

pub frames_in-lose : (limit f : ℕ) (words words' : List ℕ) → ((g : ℕ) → g < limit → bit_is words' g ≡ (not (g == f) && bit_is words g)) → (g : ℕ) → has g (frames_in limit words') ≡ (not (g == f) && has g (frames_in limit words))
frames_in-lose limit f words words' each g =
    ⊎_elim
    (λ below. has-frames_in limit words' g below ∙ each g below ∙ ap (λ b. not (g == f) && b) (sym (has-frames_in limit words g below)))
    (λ above. has-frames_in_above limit words' g above ∙ sym (and_right (not (g == f)) (has g (frames_in limit words)) (has-frames_in_above limit words g above)))
    (cases_lt g limit)

pub frames_in-unite : (limit : ℕ) (left right words' : List ℕ) → ((g : ℕ) → g < limit → bit_is words' g ≡ (bit_is left g || bit_is right g)) → (g : ℕ) → has g (frames_in limit words') ≡ (has g (frames_in limit left) || has g (frames_in limit right))
frames_in-unite limit left right words' each g =
    ⊎_elim
    (λ below. has-frames_in limit words' g below ∙ each g below ∙ sym (ap₂ (λ a b. a || b) (has-frames_in limit left g below) (has-frames_in limit right g below)))
    (λ above. has-frames_in_above limit words' g above ∙ sym (or_there (has g (frames_in limit left)) (has g (frames_in limit right)) (has-frames_in_above limit left g above) ∙ has-frames_in_above limit right g above))
    (cases_lt g limit)

-- one word written
bit_is-set_same : (words : List ℕ) (i y g : ℕ) → i < length words → g / 64 ≡ i → bit_is (slice_set words i y) g ≡ (bit_at y (g % 64) == 1)
bit_is-set_same words i y g h e = ap (λ n. bit_at n (g % 64) == 1) (get_or-set_at words i (g / 64) y 0 e h)

bit_is-set_other : (words : List ℕ) (i y g : ℕ) → g / 64 ≢ i → bit_is (slice_set words i y) g ≡ bit_is words g
bit_is-set_other words i y g ne = ap (λ n. bit_at n (g % 64) == 1) (get_or-set_other words i (g / 64) y 0 ne)

-- the word at i is x
bit_is-word : (words : List ℕ) (i x g : ℕ) → i < length words → x ≡ get_or words i x → g / 64 ≡ i → (bit_at x (g % 64) == 1) ≡ bit_is words g
bit_is-word words i x g h is e = ap (λ n. bit_at n (g % 64) == 1) (is ∙ get_or_default words i x 0 h ∙ ap (λ j. get_or words j 0) (sym e))

-- a word with one bit more
pub bit_is-insert : (words : List ℕ) (f x : ℕ) → f / 64 < length words → x ≡ get_or words (f / 64) x → (g : ℕ) → bit_is (slice_set words (f / 64) (bit_or x (1 * 2 ^ (f % 64) % 18446744073709551616))) g ≡ ((g == f) || bit_is words g)
bit_is-insert words f x h is g =
    let y : ℕ = bit_or x (1 * 2 ^ (f % 64) % 18446744073709551616) in
    ⊎_elim
    (λ e. bit_is-set_same words (f / 64) y g h e ∙ ⊎_elim
    (λ r. ap (λ i. bit_at y i == 1) r ∙ ap (λ n. n == 1) (bit_at_set_same w64 x (f % 64) (omega arith)) ∙ sym (or_here (g == f) (bit_is words g) (eq-eqb g f (omega arith))))
    (λ ne. ap (λ n. n == 1) (bit_at_set_other w64 x (f % 64) (omega arith) (g % 64) ne) ∙ bit_is-word words (f / 64) x g h is e ∙ sym (or_there (g == f) (bit_is words g) (ne_eqb g f (λ same. ne (ap (λ n. n % 64) same)))))
    (cases_eq (g % 64) (f % 64)))
    (λ ne. bit_is-set_other words (f / 64) y g ne ∙ sym (or_there (g == f) (bit_is words g) (ne_eqb g f (λ same. ne (ap (λ n. n / 64) same)))))
    (cases_eq (g / 64) (f / 64))

-- a word with one bit less
pub bit_is-remove : (words : List ℕ) (f x : ℕ) → f / 64 < length words → x ≡ get_or words (f / 64) x → (g : ℕ) → bit_is (slice_set words (f / 64) (bit_and x (18446744073709551615 - 1 * 2 ^ (f % 64) % 18446744073709551616))) g ≡ (not (g == f) && bit_is words g)
bit_is-remove words f x h is g =
    let y : ℕ = bit_and x (18446744073709551615 - 1 * 2 ^ (f % 64) % 18446744073709551616) in
    ⊎_elim
    (λ e. bit_is-set_same words (f / 64) y g h e ∙ ⊎_elim
    (λ r. ap (λ i. bit_at y i == 1) r ∙ ap (λ n. n == 1) (bit_at_clear_same w64 x (f % 64) (omega arith)) ∙ sym (not_here (g == f) (bit_is words g) (eq-eqb g f (omega arith))))
    (λ ne. ap (λ n. n == 1) (bit_at_clear_other w64 x (f % 64) (omega arith) (g % 64) (omega arith) ne) ∙ bit_is-word words (f / 64) x g h is e ∙ sym (not_there (g == f) (bit_is words g) (ne_eqb g f (λ same. ne (ap (λ n. n % 64) same)))))
    (cases_eq (g % 64) (f % 64)))
    (λ ne. bit_is-set_other words (f / 64) y g ne ∙ sym (not_there (g == f) (bit_is words g) (ne_eqb g f (λ same. ne (ap (λ n. n / 64) same)))))
    (cases_eq (g / 64) (f / 64))

max_one : (m n : ℕ) → m < 2 → n < 2 → (max m n == 1) ≡ ((m == 1) || (n == 1))
max_one m n h k = grind (arith, nat_tests)

-- words joined one by one
pub bit_is-or : (left right words : List ℕ) (g : ℕ) → slice_index words (g / 64) ≡ bit_or (slice_index left (g / 64)) (slice_index right (g / 64)) → bit_is words g ≡ (bit_is left g || bit_is right g)
bit_is-or left right words g e =
    ap (λ n. bit_at n (g % 64) == 1) e
    ∙ ap (λ n. n == 1) (bit_at_or (slice_index left (g / 64)) (slice_index right (g / 64)) (g % 64))
    ∙ max_one _ _ (bit_at-lt _ _) (bit_at-lt _ _)

-- the test of one bit
pub bit_is-test : (words : List ℕ) (f x : ℕ) → f / 64 < length words → x ≡ get_or words (f / 64) x → (bit_and (x / 2 ^ (f % 64)) 1 == 1) ≡ bit_is words f
bit_is-test words f x h is = ap (λ n. n == 1) (shr_and_one x (f % 64)) ∙ bit_is-word words (f / 64) x f h is refl

-- words of zeros
pub bit_is-zero : (words : List ℕ) (f : ℕ) → slice_index words (f / 64) ≡ 0 → bit_is words f ≡ false
bit_is-zero words f e = ap (λ n. bit_at n (f % 64) == 1) e ∙ ap (λ n. n == 1) (bit_at-zero (f % 64))

get_or-zeros : (n k : ℕ) → get_or {A = ℕ} (replicate n 0) k 0 ≡ 0
get_or-zeros n k = ⊎_elim (λ h. get_or-replicate n k 0 0 h) (λ h. get_or_past (replicate n 0) k 0 (rw length-replicate h)) (cases_lt k n)

filter-none : (p : ℕ → Bool) (xs : List ℕ) → ((k : ℕ) → p k ≡ false) → filter p xs ≡ []
filter-none p [] h = refl
filter-none p (x ∷ xs) h = rw (h x) (filter-none p xs h)

pub frames_in-zeros : (limit n : ℕ) (words : List ℕ) → words ≡ replicate n 0 → frames_in limit words ≡ []
unfolding frames_in
frames_in-zeros limit n words e =
    filter-none (bit_is words) (range_with_len 0 limit) (λ k. bit_is-zero words k (ap (λ ws. get_or ws (k / 64) 0) e ∙ get_or-zeros n (k / 64)))

pub frames_in-no_words : (limit : ℕ) → frames_in limit [] ≡ []
frames_in-no_words limit = frames_in-zeros limit 0 [] refl

-- words with the same values have the same bits
pub bit_is-same : (words words' : List ℕ) → ((k : ℕ) → slice_index words' k ≡ slice_index words k) → (g : ℕ) → bit_is words' g ≡ bit_is words g
bit_is-same words words' same g = ap (λ n. bit_at n (g % 64) == 1) (same (g / 64))

-- there is no bit past the last word
pub bit_is-past : (words : List ℕ) (f : ℕ) → length words ≤ f / 64 → bit_is words f ≡ false
bit_is-past words f past = bit_is-zero words f (get_or_past words (f / 64) 0 past)

pub has-past : (limit : ℕ) (words : List ℕ) (f : ℕ) → length words ≤ f / 64 → has f (frames_in limit words) ≡ false
has-past limit words f past =
    ⊎_elim (λ below. has-frames_in limit words f below ∙ bit_is-past words f past) (λ above. has-frames_in_above limit words f above) (cases_lt f limit)

-- the word of a frame of the set is there
pub within-words : (limit : ℕ) (words : List ℕ) (f : ℕ) → has f (frames_in limit words) ≡ true → f / 64 < length words
within-words limit words f there =
    ⊎_elim (λ within. within) (λ past. absurd (both_ways _ (has-past limit words f past) there)) (cases_lt (f / 64) (length words))

-- a word without a bit more
pub index-more : (words : List ℕ) (k : ℕ) → slice_index (words ++ 0 ∷ []) k ≡ slice_index words k
index-more [] zero = refl
index-more [] (suc k) = refl
index-more (w ∷ words) zero = refl
index-more (w ∷ words) (suc k) = index-more words k

-- a frame of the set is below its limit
pub below-frames_in : (limit : ℕ) (words : List ℕ) (f : ℕ) → has f (frames_in limit words) ≡ true → f < limit
below-frames_in limit words f h =
    ⊎_elim (λ below. below) (λ above. absurd (both_ways _ (has-frames_in_above limit words f above) h)) (cases_lt f limit)

-- how many frames there are
length-cond : (b : Bool) (x : ℕ) (r : List ℕ) → length (cond b (x ∷ r) r) ≡ cond b 1 0 + length r
length-cond true x r = omega arith
length-cond false x r = omega arith

length-first : (p : ℕ → Bool) (a n : ℕ) → length (filter p (range_with_len a (suc n))) ≡ cond (p a) 1 0 + length (filter p (range_with_len (a + 1) n))
length-first p a n = length-cond (p a) a (filter p (range_with_len (a + 1) n))

one-at-most : (b : Bool) → cond {A = ℕ} b 1 0 ≤ 1
one-at-most true = omega arith
one-at-most false = omega arith

length-same : (p q : ℕ → Bool) (a n : ℕ) → ((g : ℕ) → a ≤ g → q g ≡ p g) → length (filter q (range_with_len a n)) ≡ length (filter p (range_with_len a n))
length-same p q a zero h = refl
length-same p q a (suc n) h =
    omega (arith, length-first p a n, length-first q a n, ap {B = ℕ} (λ b. cond b 1 0) (h a (omega arith)), length-same p q (a + 1) n (λ g le. h g (omega (arith, le))))

length-within : (p : ℕ → Bool) (a n : ℕ) → length (filter p (range_with_len a n)) ≤ n
length-within p a zero = omega arith
length-within p a (suc n) = omega (arith, length-first p a n, one-at-most (p a), length-within p (a + 1) n)

length-gain : (p q : ℕ → Bool) (f a n : ℕ) → ((g : ℕ) → q g ≡ ((g == f) || p g)) → length (filter q (range_with_len a n)) ≤ length (filter p (range_with_len a n)) + 1
length-gain p q f a zero h = omega arith
length-gain p q f a (suc n) h =
    ⊎_elim
    (λ e. omega (
      arith,
      length-first p a n,
      length-first q a n,
      one-at-most (q a),
      length-same p q (a + 1) n (λ g le. h g ∙ or_there (g == f) (p g) (ne_eqb g f (λ same. absurd (omega (arith, le, e, same))))),
    ))
    (λ ne. omega (
      arith,
      length-first p a n,
      length-first q a n,
      ap {B = ℕ} (λ b. cond b 1 0) (h a ∙ or_there (a == f) (p a) (ne_eqb a f ne)),
      length-gain p q f (a + 1) n h,
    ))
    (cases_eq a f)

length-lose : (p q : ℕ → Bool) (f a n : ℕ) → a ≤ f → f < a + n → p f ≡ true → ((g : ℕ) → q g ≡ (not (g == f) && p g)) → length (filter q (range_with_len a n)) + 1 ≡ length (filter p (range_with_len a n))
length-lose p q f a zero low high there h = absurd (omega arith)
length-lose p q f a (suc n) low high there h =
    ⊎_elim
    (λ e. omega (
      arith,
      length-first p a n,
      length-first q a n,
      ap {B = ℕ} (λ b. cond b 1 0) (ap p e ∙ there),
      ap {B = ℕ} (λ b. cond b 1 0) (h a ∙ not_here (a == f) (p a) (eq-eqb a f e)),
      length-same p q (a + 1) n (λ g le. h g ∙ not_there (g == f) (p g) (ne_eqb g f (λ same. absurd (omega (arith, le, e, same))))),
    ))
    (λ ne. omega (
      arith,
      length-first p a n,
      length-first q a n,
      ap {B = ℕ} (λ b. cond b 1 0) (h a ∙ not_there (a == f) (p a) (ne_eqb a f ne)),
      length-lose p q f (a + 1) n (omega (arith, low, ne)) (omega (arith, high)) there h,
    ))
    (cases_eq a f)

either-at-most : (a b : Bool) → cond {A = ℕ} (a || b) 1 0 ≤ cond a 1 0 + cond b 1 0
either-at-most true b = omega arith
either-at-most false b = omega arith

length-unite : (p r q : ℕ → Bool) (a n : ℕ) → ((g : ℕ) → g < a + n → q g ≡ (p g || r g)) → length (filter q (range_with_len a n)) ≤ length (filter p (range_with_len a n)) + length (filter r (range_with_len a n))
length-unite p r q a zero h = omega arith
length-unite p r q a (suc n) h =
    omega (
      arith,
      length-first p a n,
      length-first r a n,
      length-first q a n,
      ap {B = ℕ} (λ b. cond b 1 0) (h a (omega arith)),
      either-at-most (p a) (r a),
      length-unite p r q (a + 1) n (λ g below. h g (omega (arith, below))),
    )

-- a set has no more frames than its limit, one more at most after one is put in, and one less after one is taken out
pub frames_in-one_more : (limit f : ℕ) (words words' : List ℕ) → ((g : ℕ) → bit_is words' g ≡ ((g == f) || bit_is words g)) → (length (frames_in limit words') ≤ length (frames_in limit words) + 1) × (length (frames_in limit words') ≤ limit)
unfolding frames_in
frames_in-one_more limit f words words' each = (length-gain (bit_is words) (bit_is words') f 0 limit each, length-within (bit_is words') 0 limit)

pub frames_in-one_less : (limit f : ℕ) (words words' : List ℕ) → has f (frames_in limit words) ≡ true → ((g : ℕ) → bit_is words' g ≡ (not (g == f) && bit_is words g)) → length (frames_in limit words') + 1 ≡ length (frames_in limit words)
unfolding frames_in
frames_in-one_less limit f words words' there each =
    let below = below-frames_in limit words f there in
    length-lose (bit_is words) (bit_is words') f 0 limit (omega arith) (omega (arith, below)) (sym (has-frames_in limit words f below) ∙ there) each

pub frames_in-both : (limit : ℕ) (left right words' : List ℕ) → ((g : ℕ) → g < limit → bit_is words' g ≡ (bit_is left g || bit_is right g)) → (length (frames_in limit words') ≤ length (frames_in limit left) + length (frames_in limit right)) × (length (frames_in limit words') ≤ limit)
unfolding frames_in
frames_in-both limit left right words' each = (length-unite (bit_is left) (bit_is right) (bit_is words') 0 limit (λ g below. each g (omega (arith, below))), length-within (bit_is words') 0 limit)

-- a set that counts no frame has none
pub none-in : (xs : List ℕ) (f : ℕ) → length xs ≤ 0 → has f xs ≡ false
none-in [] f h = refl
none-in (x ∷ xs) f h = absurd (omega (arith, h))
