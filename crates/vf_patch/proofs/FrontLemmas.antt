-- The writes that a mask of bits marks.
use Rattle.std.proofs.Common.{◌≡◌, ◌≢◌, ℕ, zero, suc, ◌+◌, ◌-◌, ◌*◌, ◌%◌, ◌^◌, ◌<◌, ◌≤◌, Bool, true, false, cond, ◌==◌, List, [], ◌∷◌, ◌++◌, length, Option, Some, None, slice_index, slice_set, bit_or, bit_and, w16, refl, sym, ap, ap₂, ◌∙◌, arith, ⊎_elim}
use Rattle.std.specs.Int.{bit_at, trailing_zeros}
use Rattle.std.proofs.lemmas.Bool.{cases_lt, cases_eq}
use Rattle.std.proofs.lemmas.List.{get_or-set_same, get_or-set_other}
use Rattle.std.proofs.lemmas.Nat.Bits.{bit_at_set_same, bit_at_set_other, bit_at_clear_same, bit_at_clear_other, bit_at-trailing_zeros, bit_at-zero}
use Rattle.vf_base.specs.declared.write.Write.{Write}
use Rattle.vf_machine.specs.Writes.{rises_from}
use Rattle.vf_patch.specs.Sorted.{found}
use Rattle.vf_patch.specs.Patches.{is_marked, marked_from, front_writes}
use Rattle.vf_patch.proofs.SortedLemmas.{hit, miss, rises-join, rises-less}

-- no bit, no write
none-from : (n at : ℕ) (words : List ℕ) → marked_from n at 0 words ≡ []
unfolding marked_from
none-from zero at words = refl
none-from (suc n) at words =
    ap (λ b. cond b (record { at = at; word = slice_index words at } ∷ marked_from n (suc at) 0 words) (marked_from n (suc at) 0 words))
    (ap (λ b. b == 1) (bit_at-zero at))
    ∙ none-from n (suc at) words

pub none-marked : (words : List ℕ) → front_writes 0 words ≡ []
none-marked words = none-from 16 0 words

-- what is found of the first word
first-found : (b : Bool) (at word a : ℕ) (more : List Write) → found (cond b (record { at = at; word = word } ∷ more) more) a ≡ cond b (cond (at == a) (Some word) (found more a)) (found more a)
first-found true at word a more = refl
first-found false at word a more = refl

either : (b : Bool) (x : Option ℕ) → cond b x x ≡ x
either true x = refl
either false x = refl

-- elsewhere nothing is found
past-first : (at a : ℕ) (b : Bool) (x y : Option ℕ) → at ≢ a → cond b (cond (at == a) x y) y ≡ y
past-first at a b x y ne = ap (λ o. cond b o y) (miss at a x y ne) ∙ either b y

low-from : (n at a : ℕ) (mask : ℕ) (words : List ℕ) → a < at → found (marked_from n at mask words) a ≡ None
unfolding marked_from
low-from zero at a mask words h = refl
low-from (suc n) at a mask words h =
    first-found (is_marked mask at) at (slice_index words at) a (marked_from n (suc at) mask words)
    ∙ past-first at a (is_marked mask at) (Some (slice_index words at)) (found (marked_from n (suc at) mask words) a) (λ e. omega (arith, e, h))
    ∙ low-from n (suc at) a mask words (omega (arith, h))

high-from : (n at a : ℕ) (mask : ℕ) (words : List ℕ) → at + n ≤ a → found (marked_from n at mask words) a ≡ None
unfolding marked_from
high-from zero at a mask words h = refl
high-from (suc n) at a mask words h =
    first-found (is_marked mask at) at (slice_index words at) a (marked_from n (suc at) mask words)
    ∙ past-first at a (is_marked mask at) (Some (slice_index words at)) (found (marked_from n (suc at) mask words) a) (λ e. omega (arith, e, h))
    ∙ high-from n (suc at) a mask words (omega (arith, h))

-- a marked word is found
abbrev marked_word : ℕ → List ℕ → ℕ → Option ℕ
marked_word mask words a = cond (is_marked mask a) (Some (slice_index words a)) None

within-from : (n at a : ℕ) (mask : ℕ) (words : List ℕ) → at ≤ a → a < at + n → found (marked_from n at mask words) a ≡ marked_word mask words a
unfolding marked_from
within-from zero at a mask words h k = absurd (omega (arith, h, k))
within-from (suc n) at a mask words h k =
    first-found (is_marked mask at) at (slice_index words at) a (marked_from n (suc at) mask words)
    ∙ ⊎_elim
    (λ e. ap₂ (λ x y. cond (is_marked mask at) x y) (hit at a (Some (slice_index words at)) (found (marked_from n (suc at) mask words) a) e) (low-from n (suc at) a mask words (omega (arith, e)))
    ∙ ap (marked_word mask words) e)
    (λ ne. past-first at a (is_marked mask at) (Some (slice_index words at)) (found (marked_from n (suc at) mask words) a) ne
    ∙ within-from n (suc at) a mask words (omega (arith, ne, h)) (omega (arith, k)))
    (cases_eq at a)

pub found-front : (mask a : ℕ) (words : List ℕ) → a < 16 → found (front_writes mask words) a ≡ cond (is_marked mask a) (Some (slice_index words a)) None
found-front mask a words h = within-from 16 0 a mask words (omega arith) (omega (arith, h))

pub found-past_front : (mask a : ℕ) (words : List ℕ) → 16 ≤ a → found (front_writes mask words) a ≡ None
found-past_front mask a words h = high-from 16 0 a mask words (omega (arith, h))

-- marked words rise
rises-cond : (b : Bool) (at word : ℕ) (ws : List Write) (more : List Write) → rises_from (suc at) (ws ++ more) ≡ true → rises_from at (cond b (record { at = at; word = word } ∷ ws) ws ++ more) ≡ true
rises-cond true at word ws more r = rises-join at (record { at = at; word = word }) (ws ++ more) (omega arith) r
rises-cond false at word ws more r = rises-less at (suc at) (ws ++ more) (omega arith) r

rises-marked : (n at mask : ℕ) (words : List ℕ) (more : List Write) → rises_from (at + n) more ≡ true → rises_from at (marked_from n at mask words ++ more) ≡ true
unfolding marked_from
rises-marked zero at mask words more r = rises-less at (at + 0) more (omega arith) r
rises-marked (suc n) at mask words more r =
    rises-cond (is_marked mask at) at (slice_index words at) (marked_from n (suc at) mask words) more
    (rises-marked n (suc at) mask words more (rises-less (suc at + n) (at + suc n) more (omega arith) r))

pub rises-front : (mask : ℕ) (words : List ℕ) (more : List Write) → rises_from 16 more ≡ true → rises_from 0 (front_writes mask words ++ more) ≡ true
rises-front mask words more r = rises-marked 16 0 mask words more r

-- one word is marked
pub found-front_set : (mask at word : ℕ) (words : List ℕ) → length words ≡ 16 → at < 16 → (a : ℕ) → found (front_writes (bit_or mask (1 * 2 ^ at % 65536)) (slice_set words at word)) a ≡ cond (at == a) (Some word) (found (front_writes mask words) a)
found-front_set mask at word words len h a =
    let new : ℕ = bit_or mask (1 * 2 ^ at % 65536) in
    ⊎_elim
    (λ low. found-front new a (slice_set words at word) low ∙ ⊎_elim
    (λ e. ap (λ b. cond b (Some (slice_index (slice_set words at word) a)) None) (ap (is_marked new) (sym e) ∙ ap (λ n. n == 1) (bit_at_set_same w16 mask at (omega (arith, h))))
    ∙ ap (λ i. Some (slice_index (slice_set words at word) i)) (sym e) ∙ ap (λ n. Some n) (get_or-set_same words at word 0 (omega (arith, len, h)))
    ∙ sym (hit at a (Some word) (found (front_writes mask words) a) e))
    (λ ne. ap₂ (λ b n. cond b (Some n) None) (ap (λ n. n == 1) (bit_at_set_other w16 mask at (omega (arith, h)) a (λ e. ne (sym e)))) (get_or-set_other words at a word 0 (λ e. ne (sym e)))
    ∙ sym (found-front mask a words low) ∙ sym (miss at a (Some word) (found (front_writes mask words) a) ne))
    (cases_eq at a))
    (λ high. found-past_front new a (slice_set words at word) high ∙ sym (miss at a (Some word) (found (front_writes mask words) a) (λ e. omega (arith, e, high, h)) ∙ found-past_front mask a words high))
    (cases_lt a 16)

-- the lowest bit marks the first write
same-from : (n at mask mask' : ℕ) (words : List ℕ) → ((i : ℕ) → at ≤ i → i < at + n → bit_at mask i ≡ bit_at mask' i) → marked_from n at mask words ≡ marked_from n at mask' words
unfolding marked_from
same-from zero at mask mask' words same = refl
same-from (suc n) at mask mask' words same =
    ap₂ (λ b ws. cond b (record { at = at; word = slice_index words at } ∷ ws) ws)
    (ap (λ b. b == 1) (same at (omega arith) (omega arith)))
    (same-from n (suc at) mask mask' words (λ i h k. same i (omega (arith, h)) (omega (arith, k))))

-- of two masks the first has one bit more, and nothing below it
record HasLowest (mask mask' t : ℕ) : Type 0 where
  bit : bit_at mask t ≡ 1
  below : (i : ℕ) → i < t → bit_at mask i ≡ 0
  cleared : bit_at mask' t ≡ 0
  others : (i : ℕ) → i < 16 → i ≢ t → bit_at mask' i ≡ bit_at mask i

lowest-from : (n at t mask mask' : ℕ) (words : List ℕ) → at + n ≤ 16 → at ≤ t → t < at + n → HasLowest mask mask' t → marked_from n at mask words ≡ record { at = t; word = slice_index words t } ∷ marked_from n at mask' words
unfolding marked_from
lowest-from zero at t mask mask' words most h k low = absurd (omega (arith, h, k))
lowest-from (suc n) at t mask mask' words most h k low =
    ⊎_elim
    (λ e. ap (λ b. cond b (record { at = at; word = slice_index words at } ∷ marked_from n (suc at) mask words) (marked_from n (suc at) mask words)) (ap (λ b. b == 1) (ap (bit_at mask) e ∙ low.bit))
    ∙ ap₂ (λ i ws. record { at = i; word = slice_index words i } ∷ ws) e (same-from n (suc at) mask mask' words (λ i le lt. sym (low.others i (omega (arith, lt, most)) (λ same. omega (arith, same, le, e)))))
    ∙ ap (λ ws. record { at = t; word = slice_index words t } ∷ ws)
    (sym (ap (λ b. cond b (record { at = at; word = slice_index words at } ∷ marked_from n (suc at) mask' words) (marked_from n (suc at) mask' words)) (ap (λ b. b == 1) (ap (bit_at mask') e ∙ low.cleared)))))
    (λ ne.
    let below = low.below at (omega (arith, ne, h)) in
    ap (λ b. cond b (record { at = at; word = slice_index words at } ∷ marked_from n (suc at) mask words) (marked_from n (suc at) mask words)) (ap (λ b. b == 1) below)
    ∙ lowest-from n (suc at) t mask mask' words (omega (arith, most)) (omega (arith, ne, h)) (omega (arith, k)) low
    ∙ ap (λ ws. record { at = t; word = slice_index words t } ∷ ws)
    (sym (ap (λ b. cond b (record { at = at; word = slice_index words at } ∷ marked_from n (suc at) mask' words) (marked_from n (suc at) mask' words)) (ap (λ b. b == 1) (low.others at (omega (arith, most)) ne ∙ below)))))
    (cases_eq at t)

-- the lowest of a mask's bits is below 16, and marks the first write; the mask without it marks the others
pub lowest-within : (mask : ℕ) → 0 < mask → mask < 65536 → trailing_zeros w16 mask < 16
lowest-within mask h k = (bit_at-trailing_zeros w16 mask h k).0

pub lowest-marked : (mask : ℕ) (words : List ℕ) → 0 < mask → mask < 65536 → front_writes mask words ≡ record { at = trailing_zeros w16 mask; word = slice_index words (trailing_zeros w16 mask) } ∷ front_writes (bit_and mask (65535 - 1 * 2 ^ trailing_zeros w16 mask % 65536)) words
lowest-marked mask words h k =
    let t : ℕ = trailing_zeros w16 mask in
    let lowest = bit_at-trailing_zeros w16 mask h k in
    lowest-from 16 0 t mask (bit_and mask (65535 - 1 * 2 ^ t % 65536)) words (omega arith) (omega arith) (omega (arith, lowest.0)) (record {
      bit = lowest.1;
      below = lowest.2;
      cleared = bit_at_clear_same w16 mask t lowest.0;
      others = λ i lt ne. bit_at_clear_other w16 mask t lowest.0 i lt ne;
    })

-- how many words can be marked
length-cond : (b : Bool) (w : Write) (ws : List Write) → length (cond b (w ∷ ws) ws) ≤ length ws + 1
length-cond true w ws = omega arith
length-cond false w ws = omega arith

length-from : (n at mask : ℕ) (words : List ℕ) → length (marked_from n at mask words) ≤ n
unfolding marked_from
length-from zero at mask words = omega arith
length-from (suc n) at mask words =
    omega (arith, length-cond (is_marked mask at) (record { at = at; word = slice_index words at }) (marked_from n (suc at) mask words), length-from n (suc at) mask words)

pub length-front : (mask : ℕ) (words : List ℕ) → length (front_writes mask words) ≤ 16
length-front mask words = length-from 16 0 mask words
