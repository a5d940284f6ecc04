-- Tables of places.
use Rattle.std.proofs.Common.{◌≡◌, ◌≢◌, ℕ, zero, suc, ◌+◌, ◌*◌, ◌/◌, ◌<◌, ◌≤◌, Bool, true, false, ◌||◌, ◌==◌, List, [], ◌∷◌, length, map, get_or, slice_index, slice_set, refl, sym, ap, ap₂, ◌∙◌, arith, eq-eqb, ne_eqb, eqb-true, ⊎_elim, replicate}
use Rattle.std.specs.Prelude.{Option, Some, None, is_some}
use Rattle.std.proofs.lemmas.Bool.{cases_eq, cases_lt, or_cases, or_left, or_right, both_ways}
use Rattle.std.proofs.lemmas.List.{get_or-set_other, get_or-set_same, get_or_past, get_or-replicate, length-replicate, length-set}
use Rattle.vf_base.specs.declared.write.Write.{Write}
use Rattle.vf_frames.specs.Numbers.{has, rises}
use Rattle.vf_pages.specs.Pages.{Page, pages_in, entry, or_entry, IsSorted, page_limit}
use Rattle.vf_pages.specs.Bases.{left_of}
use Rattle.vf_pages.specs.Writes.{touches, address}
use Rattle.vf_pages.specs.Places.{IsTable}
use Rattle.vf_pages.proofs.Entries.{rises-parts, rises-has, rises-from, rises-order, entry-here, entry-other}
use Rattle.vf_pages.proofs.Lookups.{none-at, length-numbers}

-- where a number of a list stands
pub has-index : (p : ℕ) (xs : List ℕ) → has p xs ≡ true → (i : ℕ) × (i < length xs) × (slice_index xs i ≡ p)
has-index p [] h = absurd (cc)
has-index p (x ∷ xs) h =
    ⊎_elim
    (λ e. (0, omega arith, sym (eqb-true p x e)))
    (λ later. let rest = has-index p xs later in (suc rest.0, omega (arith, rest.1), rest.2))
    (or_cases (p == x) (has p xs) h)

pub has-at : (xs : List ℕ) (i : ℕ) → i < length xs → has (slice_index xs i) xs ≡ true
has-at [] i h = absurd (omega (arith, h))
has-at (x ∷ xs) zero h = or_left (x == x) (has x xs) (eq-eqb x x refl)
has-at (x ∷ xs) (suc i) h = or_right (slice_index xs i == x) (has (slice_index xs i) xs) (has-at xs i (omega (arith, h)))

-- a page is held where its number is in the list
pub has-entry : (p : ℕ) (es : List Page) → has p (pages_in es) ≡ is_some (entry p es)
has-entry p [] = refl
has-entry p (e ∷ es) =
    ⊎_elim
    (λ same. here p e.page (has p (pages_in es)) same ∙ sym (ap is_some (entry-here p e es same)))
    (λ ne. other p e.page (has p (pages_in es)) ne ∙ has-entry p es ∙ sym (ap is_some (entry-other p e es ne)))
    (cases_eq p e.page)
  where
    here : (p x : ℕ) (b : Bool) → p ≡ x → ((p == x) || b) ≡ true
    here p x b h = rw (eq-eqb p x h) refl

    other : (p x : ℕ) (b : Bool) → p ≢ x → ((p == x) || b) ≡ b
    other p x b h = rw (ne_eqb p x h) refl

-- no place is told of a page that is not held
pub table-none : (places : List ℕ) (pages : List Page) (p : ℕ) → IsTable places pages → slice_index places p ≡ 0 → entry p pages ≡ None
table-none places pages p table none =
    none-at pages p (λ k within at. let told = table.all p k (record { within = within; number = at }) in absurd (omega (arith, told.1, none)))

pub get_or-zeros : (n k : ℕ) → get_or {A = ℕ} (replicate n 0) k 0 ≡ 0
get_or-zeros n k = ⊎_elim (λ h. get_or-replicate n k 0 0 h) (λ h. get_or_past (replicate n 0) k 0 (rw length-replicate h)) (cases_lt k n)

pub no-items : {X : Type 0} (xs : List X) → length xs ≡ 0 → xs ≡ []
no-items [] h = refl
no-items (x ∷ xs) h = absurd (omega (arith, h))

-- a table of no page
pub table-empty : (places : List ℕ) → ((p : ℕ) → slice_index places p ≡ 0) → IsTable places []
table-empty places none = record {
  finds = λ p i h. absurd (omega (arith, none p, h));
  all = λ p i place. absurd (omega (arith, place.within));
}

-- what a table tells rests on the numbers of the pages alone
pub table-numbers : (places : List ℕ) (pages other : List Page) → pages_in pages ≡ pages_in other → IsTable places pages → IsTable places other
table-numbers places pages other same table =
    let long : length pages ≡ length other = omega (arith, ap length same, length-numbers pages, length-numbers other) in
    record {
      finds = λ p i h. let place = table.finds p i h in
          record { within = omega (arith, place.within, long); number = ap (λ ns. slice_index ns i) (sym same) ∙ place.number };
      all = λ p i place. table.all p i (record { within = omega (arith, place.within, long); number = ap (λ ns. slice_index ns i) same ∙ place.number });
    }

pub table-fits : (places : List ℕ) (pages : List Page) → IsTable places pages → (p : ℕ) → has p (pages_in pages) ≡ true → p < length places
table-fits places pages table p there =
    let at = has-index p (pages_in pages) there in
    (table.all p at.0 (record { within = omega (arith, at.1, length-numbers pages); number = at.2 })).0

pub table-known : (places : List ℕ) (pages : List Page) → IsTable places pages → (p : ℕ) → 1 ≤ slice_index places p → has p (pages_in pages) ≡ true
table-known places pages table p some = by (slice_index places p) refl some
  where
    by : (n : ℕ) → slice_index places p ≡ n → 1 ≤ n → has p (pages_in pages) ≡ true
    by zero h one = absurd (omega (arith, one))
    by (suc i) h one =
        let place = table.finds p i (omega (arith, h)) in
        ap (λ n. has n (pages_in pages)) (sym place.number) ∙ has-at (pages_in pages) i (omega (arith, place.within, length-numbers pages))

-- a table is filled: the first i pages have their places, and no page that is not held has one
pub record IsFilled (count i : ℕ) (places : List ℕ) (pages : List Page) : Type 0 where
  pub long : length places ≡ count
  pub done : (k : ℕ) → k < i → slice_index places (slice_index (pages_in pages) k) ≡ k + 1
  pub known : (p : ℕ) → 1 ≤ slice_index places p → has p (pages_in pages) ≡ true

pub filled-none : (places : List ℕ) (pages : List Page) → ((p : ℕ) → 1 ≤ slice_index places p → has p (pages_in pages) ≡ true) → IsFilled (length places) 0 places pages
filled-none places pages known = record { long = refl; done = λ k h. absurd (omega (arith, h)); known = known }

pub filled-more : (count i n : ℕ) (places : List ℕ) (pages : List Page) → IsSorted pages → i < length pages → n ≡ slice_index (pages_in pages) i → n < count → IsFilled count i places pages
    → IsFilled count (i + 1) (slice_set places n (i + 1)) pages
filled-more count i n places pages sorted within is fits f =
    let long : n < length places = omega (arith, fits, f.long) in
    record {
      long = length-set places n (i + 1) ∙ f.long;
      done = λ k h. ⊎_elim
          (λ before.
          let order = rises-order 0 page_limit (pages_in pages) k i 0 sorted before (omega (arith, within, length-numbers pages)) in
          get_or-set_other places n (slice_index (pages_in pages) k) (i + 1) 0 (λ e. absurd (omega (arith, order, e, is))) ∙ f.done k before)
          (λ last.
          let same : k ≡ i = omega (arith, h, last) in
          ap (λ j. slice_index (slice_set places n (i + 1)) j) (ap (slice_index (pages_in pages)) same ∙ sym is)
          ∙ get_or-set_same places n (i + 1) 0 long ∙ ap (λ j. j + 1) (sym same))
          (cases_lt k i);
      known = λ p some. ⊎_elim
          (λ same. ap (λ m. has m (pages_in pages)) (same ∙ is) ∙ has-at (pages_in pages) i (omega (arith, within, length-numbers pages)))
          (λ ne. f.known p (omega (arith, some, get_or-set_other places n p (i + 1) 0 ne)))
          (cases_eq p n);
    }

pub filled-all : (count : ℕ) (places : List ℕ) (pages : List Page) → IsSorted pages → ((p : ℕ) → has p (pages_in pages) ≡ true → p < count) → IsFilled count (length pages) places pages → IsTable places pages
filled-all count places pages sorted fits f = record {
  finds = λ p i h.
      let at = has-index p (pages_in pages) (f.known p (omega (arith, h))) in
      let told = f.done at.0 (omega (arith, at.1, length-numbers pages)) in
      let here : slice_index places (slice_index (pages_in pages) at.0) ≡ slice_index places p = ap (slice_index places) at.2 in
      let same : at.0 ≡ i = omega (arith, told, here, h) in
      record { within = omega (arith, same, at.1, length-numbers pages); number = ap (slice_index (pages_in pages)) (sym same) ∙ at.2 };
  all = λ p i place.
      let within : i < length (pages_in pages) = omega (arith, place.within, length-numbers pages) in (
        omega (arith, f.long, fits p (ap (λ n. has n (pages_in pages)) (sym place.number) ∙ has-at (pages_in pages) i within)),
        ap (slice_index places) (sym place.number) ∙ f.done i place.within,
      );
}

-- rising numbers that are all among others are no more than those, and where they are as many they are the same
pub among : (low limit : ℕ) (xs ys : List ℕ) → rises low limit xs ≡ true → rises low limit ys ≡ true → ((p : ℕ) → has p xs ≡ true → has p ys ≡ true)
    → (length xs ≤ length ys) × (length xs ≡ length ys → xs ≡ ys)
among low limit [] [] r s h = (omega arith, λ e. refl)
among low limit [] (y ∷ ys) r s h = (omega arith, λ e. absurd (omega (arith, e)))
among low limit (x ∷ xs) [] r s h = absurd (both_ways false refl (h x (or_left (x == x) (has x xs) (eq-eqb x x refl))))
among low limit (x ∷ xs) (y ∷ ys) r s h =
    let left = rises-parts low limit x xs r in
    let right = rises-parts low limit y ys s in
    let first : has x (y ∷ ys) ≡ true = h x (or_left (x == x) (has x xs) (eq-eqb x x refl)) in
    ⊎_elim
    (λ same.
    let rest = among (x + 1) limit xs ys left.2 (ap (λ n. rises (n + 1) limit ys) same ∙ right.2) (λ p there. ⊎_elim
    (λ at. absurd (omega (arith, (rises-has (x + 1) limit p xs left.2 there).0, eqb-true p y at, same)))
    (λ later. later)
    (or_cases (p == y) (has p ys) (h p (or_right (p == x) (has p xs) there)))) in
    (omega (arith, rest.0), λ e. ap (λ n. n ∷ xs) same ∙ ap (λ ns. y ∷ ns) (rest.1 (omega (arith, e)))))
    (λ ne.
    let behind : has x ys ≡ true = ⊎_elim (λ at. absurd (ne (eqb-true x y at))) (λ later. later) (or_cases (x == y) (has x ys) first) in
    let above = rises-has (y + 1) limit x ys right.2 behind in
    let all = among (y + 1) limit (x ∷ xs) ys (from above.0 left) right.2 (λ p there. ⊎_elim
    (λ at. absurd (bound p there (eqb-true p y at) above.0 left))
    (λ later. later)
    (or_cases (p == y) (has p ys) (h p there))) in
    (omega (arith, all.0), λ e. absurd (omega (arith, all.0, e))))
    (cases_eq x y)
  where
    from : y + 1 ≤ x → (low ≤ x) × (x < limit) × (rises (x + 1) limit xs ≡ true) → rises (y + 1) limit (x ∷ xs) ≡ true
    from above parts = rises-from (y + 1) limit x xs above parts.1 parts.2

    bound : (p : ℕ) → has p (x ∷ xs) ≡ true → p ≡ y → y + 1 ≤ x → (low ≤ x) × (x < limit) × (rises (x + 1) limit xs ≡ true) → ⊥
    bound p there at above parts =
        let within = rises-has (y + 1) limit p (x ∷ xs) (from above parts) there in
        absurd (omega (arith, within.0, at))

-- a table of pages that were added to, none of which is new
pub table-kept : (places : List ℕ) (old pages : List Page) → IsSorted old → IsSorted pages → IsTable places old → length old ≡ length pages → ((p : ℕ) → has p (pages_in old) ≡ true → has p (pages_in pages) ≡ true) → IsTable places pages
table-kept places old pages before after table long more =
    table-numbers places old pages
    ((among 0 page_limit (pages_in old) (pages_in pages) before after more).1 (omega (arith, long, length-numbers old, length-numbers pages))) table

-- a page that writes fall on is below the number of pages of a state
pub touched-below : (low count p : ℕ) (ws : List Write) → rises low count (map address ws) ≡ true → touches p ws ≡ true → 64 * p < count
touched-below low count p [] r h = absurd (cc)
touched-below low count p (w ∷ ws) r h =
    let parts = rises-parts low count w.at (map address ws) r in
    ⊎_elim
    (λ at. omega (arith, eqb-true p (w.at / 64) at, parts.1))
    (λ later. touched-below (w.at + 1) count p ws parts.2 later)
    (or_cases (p == w.at / 64) (touches p ws) h)

-- the pages of two lists together
is_some-or : (a b : Option Page) → is_some (or_entry a b) ≡ (is_some a || is_some b)
is_some-or None b = refl
is_some-or (Some e) b = refl

pub both-have : (es own base : List Page) (p : ℕ) → entry p es ≡ or_entry (entry p own) (entry p base) → has p (pages_in es) ≡ (has p (pages_in own) || has p (pages_in base))
both-have es own base p e =
    has-entry p es ∙ ap is_some e ∙ is_some-or (entry p own) (entry p base) ∙ sym (ap₂ (λ a b. a || b) (has-entry p own) (has-entry p base))

pub both-fit : (count : ℕ) (es own base : List Page) → ((p : ℕ) → entry p es ≡ or_entry (entry p own) (entry p base))
    → ((p : ℕ) → has p (pages_in own) ≡ true → p < count) → ((p : ℕ) → has p (pages_in base) ≡ true → p < count)
    → (p : ℕ) → has p (pages_in es) ≡ true → p < count
both-fit count es own base each left right p there =
    ⊎_elim (λ h. left p h) (λ h. right p h) (or_cases (has p (pages_in own)) (has p (pages_in base)) (sym (both-have es own base p (each p)) ∙ there))

-- the pages that are left of some
left-has : (es base old : List Page) (p : ℕ) → entry p es ≡ left_of base (entry p old) → has p (pages_in es) ≡ true → has p (pages_in old) ≡ true
left-has es base old p e there = has-entry p old ∙ was (entry p old) (sym (ap is_some e) ∙ sym (has-entry p es) ∙ there)
  where
    was : (o : Option Page) → is_some (left_of base o) ≡ true → is_some o ≡ true
    was None h = h
    was (Some x) h = refl

pub left-fits : (count : ℕ) (es base old : List Page) → ((p : ℕ) → entry p es ≡ left_of base (entry p old)) → ((p : ℕ) → has p (pages_in old) ≡ true → p < count)
    → (p : ℕ) → has p (pages_in es) ≡ true → p < count
left-fits count es base old each fits p there = fits p (left-has es base old p (each p) there)

-- the pages after writes
pub written-fits : (words count : ℕ) (es old : List Page) (ws : List Write) → ((p : ℕ) → is_some (entry p es) ≡ (touches p ws || is_some (entry p old))) → rises 0 words (map address ws) ≡ true → words ≤ 64 * count
    → ((p : ℕ) → has p (pages_in old) ≡ true → p < count) → (p : ℕ) → has p (pages_in es) ≡ true → p < count
written-fits words count es old ws each r wide fits p there =
    ⊎_elim
    (λ t. omega (arith, touched-below 0 words p ws r t, wide))
    (λ h. fits p (has-entry p old ∙ h))
    (or_cases (touches p ws) (is_some (entry p old)) (sym (each p) ∙ sym (has-entry p es) ∙ there))

pub written-known : (es old : List Page) (ws : List Write) → ((p : ℕ) → is_some (entry p es) ≡ (touches p ws || is_some (entry p old))) → (p : ℕ) → has p (pages_in old) ≡ true → has p (pages_in es) ≡ true
written-known es old ws each p there =
    has-entry p es ∙ each p ∙ or_right (touches p ws) (is_some (entry p old)) (sym (has-entry p old) ∙ there)
