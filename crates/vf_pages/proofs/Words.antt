-- Words under writes.
use Rattle.std.proofs.Common.{◌≡◌, ◌≢◌, ℕ, ◌+◌, ◌*◌, ◌/◌, ◌%◌, ◌<◌, Bool, true, false, cond, ◌||◌, ◌==◌, List, [], ◌∷◌, ◌++◌, length, get_or, slice_index, slice_set, take, refl, sym, ap, ◌∙◌, arith, ne_eqb, eq-eqb, ⊎_elim}
use Rattle.std.proofs.lemmas.Bool.{cases_eq, or_parts, both_ways}
use Rattle.std.proofs.lemmas.List.{ext_get_or, take_more, get_or-set_same, get_or-set_other}
use Rattle.std.proofs.lemmas.List.FromFn.{get_or-map-range_with_len, length-map-range_with_len}
use Rattle.vf_base.specs.declared.write.Write.{Write}
use Rattle.vf_pages.specs.Writes.{written, touches, after}

-- what stands where a list of writes has ended
abbrev pub no_write : Write
no_write = record { at = 0; word = 0 }

pub written-append : (xs ys : List Write) (a old : ℕ) → written (xs ++ ys) a old ≡ written ys a (written xs a old)
written-append [] ys a old = refl
written-append (w ∷ ws) ys a old = written-append ws ys a (cond (a == w.at) w.word old)

pub touches-append : (p : ℕ) (xs ys : List Write) → touches p (xs ++ ys) ≡ (touches p xs || touches p ys)
touches-append p [] ys = refl
touches-append p (w ∷ ws) ys = ap (λ b. (p == w.at / 64) || b) (touches-append p ws ys) ∙ or_assoc (p == w.at / 64) (touches p ws) (touches p ys)
  where
    or_assoc : (a b c : Bool) → (a || (b || c)) ≡ ((a || b) || c)
    or_assoc true b c = refl
    or_assoc false b c = refl

-- writes elsewhere leave a word
pub written-untouched : (ws : List Write) (a old : ℕ) → touches (a / 64) ws ≡ false → written ws a old ≡ old
written-untouched [] a old h = refl
written-untouched (w ∷ ws) a old h =
    let parts = or_parts (a / 64 == w.at / 64) (touches (a / 64) ws) h in
    let other : a ≢ w.at = λ e. both_ways (a / 64 == w.at / 64) parts.0 (eq-eqb (a / 64) (w.at / 64) (ap (λ n. n / 64) e)) in
    ap (written ws a) (skip (a == w.at) w.word old (ne_eqb a w.at other)) ∙ written-untouched ws a old parts.1
  where
    skip : (b : Bool) (x y : ℕ) → b ≡ false → cond b x y ≡ y
    skip b x y h = rw h refl

-- a word of a page after the writes
pub after-at : (ws : List Write) (p i : ℕ) (words : List ℕ) → i < 64 → slice_index (after ws p words) i ≡ written ws (64 * p + i) (slice_index words i)
after-at ws p i words h = get_or-map-range_with_len (λ i. written ws (64 * p + i) (slice_index words i)) 0 64 i i 0 h (omega arith)

pub length-after : (ws : List Write) (p : ℕ) (words : List ℕ) → length (after ws p words) ≡ 64
length-after ws p words = length-map-range_with_len (λ i. written ws (64 * p + i) (slice_index words i)) 0 64

-- a page is known by its 64 words
pub after-is : (ws : List Write) (p : ℕ) (words new : List ℕ) → length new ≡ 64 → ((i : ℕ) → i < 64 → slice_index new i ≡ written ws (64 * p + i) (slice_index words i)) → new ≡ after ws p words
after-is ws p words new len each =
    ext_get_or 0 new (after ws p words) (len ∙ sym (length-after ws p words)) (λ i h. each i (omega arith) ∙ sym (after-at ws p i words (omega arith)))

-- two lists of writes that do the same on a page
pub after-same : (xs ys : List Write) (p : ℕ) (words : List ℕ) → ((a old : ℕ) → a / 64 ≡ p → written xs a old ≡ written ys a old) → after xs p words ≡ after ys p words
after-same xs ys p words same =
    after-is ys p words (after xs p words) (length-after xs p words) (λ i h. after-at xs p i words h ∙ same (64 * p + i) (slice_index words i) (omega arith))

written-next : (ws : List Write) (k a old : ℕ) → k < length ws → written (take (k + 1) ws) a old ≡ cond (a == (get_or ws k no_write).at) (get_or ws k no_write).word (written (take k ws) a old)
written-next ws k a old h = ap (λ xs. written xs a old) (take_more ws k no_write h) ∙ written-append (take k ws) (get_or ws k no_write ∷ []) a old

-- one write more on a page
pub write-step : (ws : List Write) (k p : ℕ) (old words : List ℕ) → k < length ws → (get_or ws k no_write).at / 64 ≡ p → length words ≡ 64 → ((i : ℕ) → i < 64 → slice_index words i ≡ written (take k ws) (64 * p + i) (slice_index old i)) → (i : ℕ) → i < 64 → slice_index (slice_set words ((get_or ws k no_write).at % 64) (get_or ws k no_write).word) i ≡ written (take (k + 1) ws) (64 * p + i) (slice_index old i)
write-step ws k p old words h on len each i lt =
    let w : Write = get_or ws k no_write in
    let next = written-next ws k (64 * p + i) (slice_index old i) h in
    ⊎_elim
    (λ e. ap (slice_index (slice_set words (w.at % 64) w.word)) e ∙ get_or-set_same words (w.at % 64) w.word 0 (omega arith)
    ∙ sym (next ∙ hit (64 * p + i) w (written (take k ws) (64 * p + i) (slice_index old i)) (omega arith)))
    (λ ne. get_or-set_other words (w.at % 64) i w.word 0 ne ∙ each i lt
    ∙ sym (next ∙ miss (64 * p + i) w (written (take k ws) (64 * p + i) (slice_index old i)) (λ same. ne (omega arith))))
    (cases_eq i (w.at % 64))
  where
    hit : (a : ℕ) (w : Write) (o : ℕ) → a ≡ w.at → cond (a == w.at) w.word o ≡ w.word
    hit a w o e = rw (eq-eqb a w.at e) refl

    miss : (a : ℕ) (w : Write) (o : ℕ) → a ≢ w.at → cond (a == w.at) w.word o ≡ o
    miss a w o ne = rw (ne_eqb a w.at ne) refl
