-- Looking pages up in a list with rising numbers.
use Rattle.std.proofs.Common.{◌≡◌, ◌≢◌, ℕ, zero, suc, ◌+◌, ◌<◌, ◌≤◌, Bool, true, ◌&&◌, ◌||◌, ◌==◌, nat_le, nat_lt, List, [], ◌∷◌, ◌++◌, length, get_or, refl, sym, ap, ◌∙◌, arith, ne_eqb, eq-eqb, leb-true, ltb-true, le-leb, lt-ltb, ⊎_elim}
use Rattle.std.specs.Prelude.{Some, None}
use Rattle.std.proofs.lemmas.Bool.{cases_eq, and_parts, and_from}
use Rattle.vf_frames.specs.Numbers.{has, rises}
use Rattle.vf_pages.specs.Pages.{Page, page_number, pages_in, entry}

-- the parts of rising numbers
pub rises-parts : (low limit x : ℕ) (xs : List ℕ) → rises low limit (x ∷ xs) ≡ true → (low ≤ x) × (x < limit) × (rises (x + 1) limit xs ≡ true)
rises-parts low limit x xs r =
    let outer = and_parts (nat_le low x) (nat_lt x limit && rises (x + 1) limit xs) r in
    let inner = and_parts (nat_lt x limit) (rises (x + 1) limit xs) outer.1 in
    (leb-true low x outer.0, ltb-true x limit inner.0, inner.1)

pub rises-from : (low limit x : ℕ) (xs : List ℕ) → low ≤ x → x < limit → rises (x + 1) limit xs ≡ true → rises low limit (x ∷ xs) ≡ true
rises-from low limit x xs h k r =
    and_from (nat_le low x) (nat_lt x limit && rises (x + 1) limit xs) (le-leb low x h) (and_from (nat_lt x limit) (rises (x + 1) limit xs) (lt-ltb x limit k) r)

pub rises-less : (low high limit : ℕ) (xs : List ℕ) → low ≤ high → rises high limit xs ≡ true → rises low limit xs ≡ true
rises-less low high limit [] h r = refl
rises-less low high limit (x ∷ xs) h r =
    let parts = rises-parts high limit x xs r in
    rises-from low limit x xs (omega (arith, parts.0)) parts.1 parts.2

-- so many numbers fit below the limit
-- a number at or above the bound of the others stands after them
pub rises-behind : (low limit above x : ℕ) (xs : List ℕ) → rises low limit xs ≡ true → low ≤ limit → limit ≤ x → x < above → rises low above (xs ++ x ∷ []) ≡ true
rises-behind low limit above x [] r h k l = rises-from low above x [] (omega arith) l refl
rises-behind low limit above x (y ∷ ys) r h k l =
    let parts = rises-parts low limit y ys r in
    rises-from low above y (ys ++ x ∷ []) parts.0 (omega (arith, parts.1))
    (rises-behind (y + 1) limit above x ys parts.2 (omega (arith, parts.1)) k l)

pub rises-length : (low limit : ℕ) (xs : List ℕ) → rises low limit xs ≡ true → low ≤ limit → low + length xs ≤ limit
rises-length low limit [] r h = omega arith
rises-length low limit (x ∷ xs) r h =
    let parts = rises-parts low limit x xs r in
    omega (arith, parts.0, parts.1, rises-length (x + 1) limit xs parts.2 (omega (arith, parts.1)))

-- each number is at least the first, below the limit, and below those that follow
pub rises-at : (low limit : ℕ) (xs : List ℕ) (i d : ℕ) → rises low limit xs ≡ true → i < length xs → (low ≤ get_or xs i d) × (get_or xs i d < limit)
rises-at low limit [] i d r h = absurd (omega arith)
rises-at low limit (x ∷ xs) zero d r h = let parts = rises-parts low limit x xs r in (parts.0, parts.1)
rises-at low limit (x ∷ xs) (suc i) d r h =
    let parts = rises-parts low limit x xs r in
    let later = rises-at (x + 1) limit xs i d parts.2 (omega arith) in
    (omega (arith, parts.0, later.0), later.1)

pub rises-order : (low limit : ℕ) (xs : List ℕ) (i j d : ℕ) → rises low limit xs ≡ true → i < j → j < length xs → get_or xs i d < get_or xs j d
rises-order low limit [] i j d r h k = absurd (omega arith)
rises-order low limit (x ∷ xs) i zero d r h k = absurd (omega arith)
rises-order low limit (x ∷ xs) zero (suc j) d r h k =
    let parts = rises-parts low limit x xs r in
    let later = rises-at (x + 1) limit xs j d parts.2 (omega arith) in
    omega (arith, later.0)
rises-order low limit (x ∷ xs) (suc i) (suc j) d r h k =
    let parts = rises-parts low limit x xs r in
    rises-order (x + 1) limit xs i j d parts.2 (omega arith) (omega arith)

-- a number of the list is within its bounds
pub rises-has : (low limit f : ℕ) (xs : List ℕ) → rises low limit xs ≡ true → has f xs ≡ true → (low ≤ f) × (f < limit)
rises-has low limit f [] r h = absurd (cc)
rises-has low limit f (x ∷ xs) r h =
    let parts = rises-parts low limit x xs r in
    ⊎_elim
    (λ e. (omega (arith, parts.0, e), omega (arith, parts.1, e)))
    (λ ne. let later = rises-has (x + 1) limit f xs parts.2 (sym (other f x (has f xs) ne) ∙ h) in (omega (arith, parts.0, later.0), later.1))
    (cases_eq f x)
  where
    other : (f x : ℕ) (b : Bool) → f ≢ x → ((f == x) || b) ≡ b
    other f x b ne = rw (ne_eqb f x ne) refl

pub entry-here : (p : ℕ) (e : Page) (es : List Page) → p ≡ e.page → entry p (e ∷ es) ≡ Some e
entry-here p e es h = rw (eq-eqb p e.page h) refl

pub entry-other : (p : ℕ) (e : Page) (es : List Page) → p ≢ e.page → entry p (e ∷ es) ≡ entry p es
entry-other p e es h = rw (ne_eqb p e.page h) refl

-- a page below all that are held is not held
pub entry-below : (p low limit : ℕ) (es : List Page) → rises low limit (pages_in es) ≡ true → p < low → entry p es ≡ None
entry-below p low limit [] r h = refl
entry-below p low limit (e ∷ es) r h =
    let parts = rises-parts low limit e.page (pages_in es) r in
    entry-other p e es (λ same. absurd (omega (arith, parts.0, same))) ∙ entry-below p (e.page + 1) limit es parts.2 (omega (arith, parts.0))

-- the page at an index is found by its number
pub entry-at : (low limit : ℕ) (es : List Page) (i p : ℕ) (d : Page) → rises low limit (pages_in es) ≡ true → i < length es → (get_or es i d).page ≡ p → entry p es ≡ Some (get_or es i d)
entry-at low limit [] i p d r h e = absurd (omega arith)
entry-at low limit (x ∷ xs) zero p d r h e = entry-here p x xs (sym e)
entry-at low limit (x ∷ xs) (suc i) p d r h e =
    let parts = rises-parts low limit x.page (pages_in xs) r in
    let later = page-at (x.page + 1) limit xs i d parts.2 (omega arith) in
    entry-other p x xs (λ same. absurd (omega (arith, later, e, same))) ∙ entry-at (x.page + 1) limit xs i p d parts.2 (omega arith) e
  where
    page-at : (low limit : ℕ) (es : List Page) (i : ℕ) (d : Page) → rises low limit (pages_in es) ≡ true → i < length es → low ≤ (get_or es i d).page
    page-at low limit [] i d r h = absurd (omega arith)
    page-at low limit (x ∷ xs) zero d r h = (rises-parts low limit x.page (pages_in xs) r).0
    page-at low limit (x ∷ xs) (suc i) d r h =
        let parts = rises-parts low limit x.page (pages_in xs) r in
        omega (arith, parts.0, page-at (x.page + 1) limit xs i d parts.2 (omega arith))

-- a page found has its number
pub entry-page : (p : ℕ) (es : List Page) (e : Page) → entry p es ≡ Some e → e.page ≡ p
entry-page p [] e h = absurd (cc)
entry-page p (x ∷ xs) e h =
    ⊎_elim
    (λ same. let found : Some x ≡ Some e = sym (entry-here p x xs same) ∙ h in let is : x ≡ e = cc in ap page_number (sym is) ∙ sym same)
    (λ ne. entry-page p xs e (sym (entry-other p x xs ne) ∙ h))
    (cases_eq p x.page)
