-- Writes by rising address, and one more put among them.
use Rattle.std.proofs.Common.{◌≡◌, ◌≢◌, ℕ, zero, suc, ◌+◌, ◌<◌, ◌≤◌, Bool, true, false, cond, ◌==◌, nat_le, List, [], ◌∷◌, ◌++◌, length, Option, Some, None, slice_index_or, slice_set, refl, sym, ap, subst, ◌∙◌, arith, ⊎_elim}
use Rattle.std.specs.List.{insert}
use Rattle.std.proofs.lemmas.Bool.{cases_lt, cases_eq, and_parts, and_from, leb-true, le-leb, eq-eqb, ne_eqb}
use Rattle.std.proofs.lemmas.List.{get_or_default}
use Rattle.vf_base.specs.declared.write.Write.{Write}
use Rattle.vf_machine.specs.Writes.{rises_from}
use Rattle.vf_patch.specs.Sorted.{found, no_write, address, IsPlace, IsGap, IsPut}

pub rises-parts : (low : ℕ) (w : Write) (ws : List Write) → rises_from low (w ∷ ws) ≡ true → (low ≤ w.at) × (rises_from (suc w.at) ws ≡ true)
rises-parts low w ws r =
    let parts = and_parts (nat_le low w.at) (rises_from (suc w.at) ws) r in
    (leb-true low w.at parts.0, parts.1)

pub rises-join : (low : ℕ) (w : Write) (ws : List Write) → low ≤ w.at → rises_from (suc w.at) ws ≡ true → rises_from low (w ∷ ws) ≡ true
rises-join low w ws h r = and_from (nat_le low w.at) (rises_from (suc w.at) ws) (le-leb low w.at h) r

pub rises-less : (low high : ℕ) (ws : List Write) → low ≤ high → rises_from high ws ≡ true → rises_from low ws ≡ true
rises-less low high [] h r = refl
rises-less low high (w ∷ ws) h r =
    let parts = rises-parts high w ws r in
    rises-join low w ws (omega (arith, parts.0)) parts.1

at-least : (low : ℕ) (ws : List Write) (i : ℕ) → rises_from low ws ≡ true → i < length ws → low ≤ address ws i
at-least low [] i r h = absurd (omega (arith, h))
at-least low (w ∷ ws) zero r h = (rises-parts low w ws r).0
at-least low (w ∷ ws) (suc i) r h =
    let parts = rises-parts low w ws r in
    omega (arith, parts.0, at-least (suc w.at) ws i parts.1 (omega (arith, h)))

order : (low : ℕ) (ws : List Write) (i j : ℕ) → rises_from low ws ≡ true → i < j → j < length ws → address ws i < address ws j
order low [] i j r h k = absurd (omega (arith, k))
order low (w ∷ ws) i zero r h k = absurd (omega (arith, h))
order low (w ∷ ws) zero (suc j) r h k =
    let parts = rises-parts low w ws r in
    omega (arith, at-least (suc w.at) ws j parts.1 (omega (arith, k)))
order low (w ∷ ws) (suc i) (suc j) r h k =
    let parts = rises-parts low w ws r in
    order (suc w.at) ws i j parts.1 (omega (arith, h)) (omega (arith, k))

-- the halves of a binary search
pub search-up : (low : ℕ) (ws : List Write) (middle at : ℕ) → rises_from low ws ≡ true → middle < length ws → address ws middle < at → (k : ℕ) → k < middle + 1 → address ws k < at
search-up low ws middle at r within less k h =
    ⊎_elim
    (λ before. omega (arith, order low ws k middle r before within, less))
    (λ after. let same : k ≡ middle = omega (arith, after, h) in omega (arith, less, ap (address ws) same))
    (cases_lt k middle)

pub search-down : (low : ℕ) (ws : List Write) (middle at : ℕ) → rises_from low ws ≡ true → middle < length ws → at < address ws middle → (k : ℕ) → middle ≤ k → k < length ws → at < address ws k
search-down low ws middle at r within more k h lt =
    ⊎_elim
    (λ after. omega (arith, order low ws middle k r after lt, more))
    (λ before. let same : k ≡ middle = omega (arith, before, h) in omega (arith, more, ap (address ws) same))
    (cases_lt middle k)

-- the last address is the greatest
pub last-gap : (low : ℕ) (ws : List Write) (at : ℕ) (last : ℕ) → rises_from low ws ≡ true → length ws ≡ last + 1 → address ws last < at → IsGap at ws (length ws)
last-gap low ws at last r len less = record {
  within = omega arith;
  below = λ k h. search-up low ws last at r (omega (arith, len)) less k (omega (arith, len, h));
  above = λ k h lt. absurd (omega (arith, h, lt));
}

-- what is found at an address
pub hit : (at a : ℕ) (x y : Option ℕ) → at ≡ a → cond (at == a) x y ≡ x
hit at a x y e = ap (λ b. cond b x y) (eq-eqb at a e)

pub miss : (at a : ℕ) (x y : Option ℕ) → at ≢ a → cond (at == a) x y ≡ y
miss at a x y ne = ap (λ b. cond b x y) (ne_eqb at a ne)

pub found-below : (low a : ℕ) (ws : List Write) → rises_from low ws ≡ true → a < low → found ws a ≡ None
found-below low a [] r h = refl
found-below low a (w ∷ ws) r h =
    let parts = rises-parts low w ws r in
    miss w.at a (Some w.word) (found ws a) (λ e. omega (arith, e, parts.0, h)) ∙ found-below (suc w.at) a ws parts.1 (omega (arith, parts.0, h))

pub found-at : (low : ℕ) (ws : List Write) (i : ℕ) → rises_from low ws ≡ true → i < length ws → found ws (address ws i) ≡ Some (slice_index_or ws i no_write).word
found-at low [] i r h = absurd (omega (arith, h))
found-at low (w ∷ ws) zero r h = hit w.at w.at (Some w.word) (found ws w.at) refl
found-at low (w ∷ ws) (suc i) r h =
    let parts = rises-parts low w ws r in
    miss w.at (address ws i) (Some w.word) (found ws (address ws i))
    (λ e. omega (arith, e, at-least (suc w.at) ws i parts.1 (omega (arith, h))))
    ∙ found-at (suc w.at) ws i parts.1 (omega (arith, h))

pub found-place : (low : ℕ) (ws : List Write) (i at : ℕ) (d : Write) → rises_from low ws ≡ true → IsPlace at ws i → found ws at ≡ Some (slice_index_or ws i d).word
found-place low ws i at d r place =
    ap (found ws) (sym place.there) ∙ found-at low ws i r place.within
    ∙ ap (λ (w : Write). Some w.word) (get_or_default ws i no_write d place.within)

found-nowhere : (ws : List Write) (a : ℕ) → ((k : ℕ) → k < length ws → address ws k ≢ a) → found ws a ≡ None
found-nowhere [] a h = refl
found-nowhere (w ∷ ws) a h =
    miss w.at a (Some w.word) (found ws a) (h 0 (omega arith)) ∙ found-nowhere ws a (λ k lt. h (suc k) (omega (arith, lt)))

pub found-gap : (ws : List Write) (i at : ℕ) → IsGap at ws i → found ws at ≡ None
found-gap ws i at gap =
    found-nowhere ws at (λ k lt e. ⊎_elim
    (λ below. absurd (omega (arith, gap.below k below, e)))
    (λ above. absurd (omega (arith, gap.above k above lt, e)))
    (cases_lt k i))

-- a write put over another
shadow : (b : Bool) (x y z : Option ℕ) → cond b x z ≡ cond b x (cond b y z)
shadow true x y z = refl
shadow false x y z = refl

swap : (x at a : ℕ) (v w f : Option ℕ) → x ≢ at → cond (x == a) v (cond (at == a) w f) ≡ cond (at == a) w (cond (x == a) v f)
swap x at a v w f ne =
    ⊎_elim
    (λ e. miss x a v (cond (at == a) w f) (λ same. ne (same ∙ sym e)) ∙ hit at a w f e ∙ sym (hit at a w (cond (x == a) v f) e))
    (λ other. ap (cond (x == a) v) (miss at a w f other) ∙ sym (miss at a w (cond (x == a) v f) other))
    (cases_eq at a)

set-found : (low : ℕ) (ws : List Write) (i at word : ℕ) → rises_from low ws ≡ true → i < length ws → address ws i ≡ at → (a : ℕ) → found (slice_set ws i (record { at = at; word = word })) a ≡ cond (at == a) (Some word) (found ws a)
set-found low [] i at word r h e a = absurd (omega (arith, h))
set-found low (w ∷ ws) zero at word r h e a =
    shadow (at == a) (Some word) (Some w.word) (found ws a)
    ∙ ap (λ n. cond (at == a) (Some word) (cond (n == a) (Some w.word) (found ws a))) (sym e)
set-found low (w ∷ ws) (suc i) at word r h e a =
    let parts = rises-parts low w ws r in
    let later = at-least (suc w.at) ws i parts.1 (omega (arith, h)) in
    ap (cond (w.at == a) (Some w.word)) (set-found (suc w.at) ws i at word parts.1 (omega (arith, h)) e a)
    ∙ swap w.at at a (Some w.word) (Some word) (found ws a) (λ same. omega (arith, same, later, e))

set-rises : (low : ℕ) (ws : List Write) (i at word : ℕ) → rises_from low ws ≡ true → i < length ws → address ws i ≡ at → rises_from low (slice_set ws i (record { at = at; word = word })) ≡ true
set-rises low [] i at word r h e = absurd (omega (arith, h))
set-rises low (w ∷ ws) zero at word r h e =
    let parts = rises-parts low w ws r in
    rises-join low (record { at = at; word = word }) ws (omega (arith, parts.0, e)) (ap (λ n. rises_from (suc n) ws) (sym e) ∙ parts.1)
set-rises low (w ∷ ws) (suc i) at word r h e =
    let parts = rises-parts low w ws r in
    rises-join low w (slice_set ws i (record { at = at; word = word })) parts.0 (set-rises (suc w.at) ws i at word parts.1 (omega (arith, h)) e)

pub set-is-put : (low : ℕ) (ws : List Write) (i at word : ℕ) → rises_from low ws ≡ true → IsPlace at ws i → IsPut at word ws (slice_set ws i (record { at = at; word = word }))
set-is-put low ws i at word r place = record {
  words = set-found low ws i at word r place.within place.there;
  rises = λ from le rises. set-rises from ws i at word rises place.within place.there;
}

-- a write put between others
insert-found : (ws : List Write) (i at word : ℕ) → i ≤ length ws → ((k : ℕ) → k < i → address ws k < at) → (a : ℕ) → found (insert ws i (record { at = at; word = word })) a ≡ cond (at == a) (Some word) (found ws a)
insert-found ws zero at word h below a = refl
insert-found [] (suc i) at word h below a = absurd (omega (arith, h))
insert-found (w ∷ ws) (suc i) at word h below a =
    let first = below 0 (omega arith) in
    ap (cond (w.at == a) (Some w.word)) (insert-found ws i at word (omega (arith, h)) (λ k lt. below (suc k) (omega (arith, lt))) a)
    ∙ swap w.at at a (Some w.word) (Some word) (found ws a) (λ same. omega (arith, same, first))

insert-rises : (low : ℕ) (ws : List Write) (i at word : ℕ) → low ≤ at → rises_from low ws ≡ true → IsGap at ws i → rises_from low (insert ws i (record { at = at; word = word })) ≡ true
insert-rises low [] zero at word le r gap = rises-join low (record { at = at; word = word }) [] le refl
insert-rises low (w ∷ ws) zero at word le r gap =
    let parts = rises-parts low w ws r in
    rises-join low (record { at = at; word = word }) (w ∷ ws) le (rises-join (suc at) w ws (omega (arith, gap.above 0 (omega arith) (omega arith))) parts.1)
insert-rises low [] (suc i) at word le r gap = absurd (omega (arith, gap.within))
insert-rises low (w ∷ ws) (suc i) at word le r gap =
    let parts = rises-parts low w ws r in
    let first = gap.below 0 (omega arith) in
    rises-join low w (insert ws i (record { at = at; word = word })) parts.0
    (insert-rises (suc w.at) ws i at word (omega (arith, first)) parts.1 (record {
      within = omega (arith, gap.within);
      below = λ k lt. gap.below (suc k) (omega (arith, lt));
      above = λ k h lt. gap.above (suc k) (omega (arith, h)) (omega (arith, lt));
    }))

pub insert-is-put : (ws : List Write) (i at word : ℕ) → IsGap at ws i → IsPut at word ws (insert ws i (record { at = at; word = word }))
insert-is-put ws i at word gap = record {
  words = insert-found ws i at word gap.within gap.below;
  rises = λ low le rises. insert-rises low ws i at word le rises gap;
}

insert-end : (ws : List Write) (w : Write) → insert ws (length ws) w ≡ ws ++ w ∷ []
insert-end [] w = refl
insert-end (x ∷ xs) w = ap (λ ys. x ∷ ys) (insert-end xs w)

pub append-is-put : (ws : List Write) (at word : ℕ) → IsGap at ws (length ws) → IsPut at word ws (ws ++ record { at = at; word = word } ∷ [])
append-is-put ws at word gap =
    subst (λ new. IsPut at word ws new) (insert-end ws (record { at = at; word = word })) (insert-is-put ws (length ws) at word gap)
