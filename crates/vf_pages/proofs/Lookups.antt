-- Where pages stand in memory.
use Rattle.std.proofs.Common.{◌≡◌, ◌≢◌, ℕ, zero, suc, ◌+◌, ◌/◌, ◌<◌, ◌≤◌, true, List, [], ◌∷◌, ◌++◌, length, get_or, slice_index, slice_get, slice_set, take, drop, refl, sym, ap, ap₂, ◌∙◌, arith, ⊎_elim}
use Rattle.std.specs.Prelude.{Option, Some, None}
use Rattle.std.specs.List.{insert}
use Rattle.std.proofs.lemmas.Bool.{cases_lt}
use Rattle.std.proofs.lemmas.List.{get_or-map, map-append, map-set, take-map, drop-map, length-map, drop_more}
use Rattle.vf_base.specs.declared.write.Write.{Write}
use Rattle.vf_frames.specs.Numbers.{rises}
use Rattle.vf_pages.specs.declared.held.Held.{Held}
use Rattle.vf_pages.specs.Pages.{Page, page_number, pages_in, entry, IsSorted, IsPlace, IsGap, page_limit}
use Rattle.vf_pages.specs.Views.{page_of, pages_of}
use Rattle.vf_pages.specs.Writes.{own, beyond}
use Rattle.vf_pages.specs.Puts.{put}
use Rattle.vf_pages.specs.Needs.{is_new}
use Rattle.vf_pages.proofs.Entries.{rises-order, entry-at, entry-other}
use Rattle.vf_pages.proofs.Groups.{own-other}
use Rattle.vf_pages.proofs.Puts.{put-set, put-insert}

-- a page to read past an end with
abbrev pub no_page : Page
no_page = record { page = 0; frame = 0; words = [] }

pub length-pages : (hs : List Held) → length (pages_of hs) ≡ length hs
length-pages hs = length-map hs page_of

pub length-numbers : (ps : List Page) → length (pages_in ps) ≡ length ps
length-numbers ps = length-map ps page_number

-- the number at an index
pub number-at : (ps : List Page) (i : ℕ) (d : Page) → i < length ps → slice_index (pages_in ps) i ≡ (get_or ps i d).page
number-at ps i d within = get_or-map page_number ps i d 0 within

pub page-number : (hs : List Held) (i : ℕ) (d : Held) → i < length hs → slice_index (pages_in (pages_of hs)) i ≡ (get_or hs i d).page.0
page-number hs i d within =
    number-at (pages_of hs) i (page_of d) (omega (arith, length-pages hs)) ∙ ap page_number (get_or-map page_of hs i d (page_of d) within)

pub is_new-le : (o : Option Page) → is_new o ≤ 1
is_new-le None = omega arith
is_new-le (Some e) = omega arith

-- the halves of a binary search
pub find-up : (xs : List ℕ) (limit middle p : ℕ) → rises 0 limit xs ≡ true → middle < length xs → slice_index xs middle < p → (k : ℕ) → k < middle + 1 → slice_index xs k < p
find-up xs limit middle p r within less k h =
    ⊎_elim
    (λ before. omega (arith, rises-order 0 limit xs k middle 0 r before within))
    (λ behind. let same : k ≡ middle = omega arith in omega (arith, ap (slice_index xs) same))
    (cases_lt k middle)

pub find-down : (xs : List ℕ) (limit middle p : ℕ) → rises 0 limit xs ≡ true → middle < length xs → p < slice_index xs middle → (k : ℕ) → middle ≤ k → k < length xs → p < slice_index xs k
find-down xs limit middle p r within more k h lt =
    ⊎_elim
    (λ behind. omega (arith, rises-order 0 limit xs middle k 0 r behind lt))
    (λ before. let same : k ≡ middle = omega arith in omega (arith, ap (slice_index xs) same))
    (cases_lt middle k)

-- rising numbers stand at one index each
pub only-one : (xs : List ℕ) (i j p : ℕ) → rises 0 page_limit xs ≡ true → i < length xs → j < length xs → slice_index xs i ≡ p → slice_index xs j ≡ p → i ≡ j
only-one xs i j p r h k at same =
    ⊎_elim
    (λ before. absurd (omega (arith, rises-order 0 page_limit xs i j 0 r before k, at, same)))
    (λ not_before. ⊎_elim
    (λ behind. absurd (omega (arith, rises-order 0 page_limit xs j i 0 r behind h, at, same)))
    (λ not_behind. omega (arith, not_before, not_behind))
    (cases_lt j i))
    (cases_lt i j)

-- what is found
pub entry-place : (ps : List Page) (i p : ℕ) (d : Page) → IsSorted ps → IsPlace p ps i → entry p ps ≡ Some (get_or ps i d)
entry-place ps i p d sorted place = entry-at 0 page_limit ps i p d sorted place.within (sym (number-at ps i d place.within) ∙ place.number)

pub none-at : (ps : List Page) (p : ℕ) → ((k : ℕ) → k < length ps → slice_index (pages_in ps) k ≢ p) → entry p ps ≡ None
none-at [] p h = refl
none-at (x ∷ xs) p h =
    entry-other p x xs (λ e. h 0 (omega arith) (sym e)) ∙ none-at xs p (λ k lt. h (suc k) (omega arith))

pub entry-gap : (ps : List Page) (i p : ℕ) → IsGap p ps i → entry p ps ≡ None
entry-gap ps i p gap =
    none-at ps p (λ k lt e. ⊎_elim
    (λ below. absurd (omega (arith, gap.below k below, e)))
    (λ above. absurd (omega (arith, gap.above k above lt, e)))
    (cases_lt k i))

-- where the writes of page p stop
pub own-stop : (p i : ℕ) (ws : List Write) (d : Write) → i < length ws → (get_or ws i d).at / 64 ≢ p → (own p (drop i ws) ≡ []) × (beyond p (drop i ws) ≡ drop i ws)
own-stop p i ws d within ne =
    let more = drop_more ws i d within in
    let stop = own-other p (get_or ws i d) (drop (i + 1) ws) ne in
    (ap (own p) more ∙ stop.0, ap (beyond p) more ∙ stop.1 ∙ sym more)

map-insert : (hs : List Held) (i : ℕ) (h : Held) → pages_of (insert hs i h) ≡ insert (pages_of hs) i (page_of h)
map-insert hs i h =
    map-append page_of (take i hs) (h ∷ drop i hs)
    ∙ ap₂ (λ xs ys. xs ++ page_of h ∷ ys) (sym (take-map page_of i hs)) (sym (drop-map page_of i hs))

pub set-is-put : (hs : List Held) (i : ℕ) (h d : Held) → IsSorted (pages_of hs) → IsPlace h.page.0 (pages_of hs) i → pages_of (slice_set hs i h) ≡ put (page_of h) (pages_of hs)
set-is-put hs i h d sorted place =
    map-set page_of hs i h
    ∙ put-set 0 page_limit (page_of h) (pages_of hs) i (page_of d) sorted place.within (sym (number-at (pages_of hs) i (page_of d) place.within) ∙ place.number)

pub insert-is-put : (hs : List Held) (i : ℕ) (h : Held) → IsGap h.page.0 (pages_of hs) i → pages_of (insert hs i h) ≡ put (page_of h) (pages_of hs)
insert-is-put hs i h gap =
    map-insert hs i h
    ∙ put-insert (page_of h) (pages_of hs) i (page_of h) gap.within
    (λ k lt. let at = number-at (pages_of hs) k (page_of h) (omega (arith, gap.within)) in omega (arith, at, gap.below k lt))
    (λ k le lt. let at = number-at (pages_of hs) k (page_of h) lt in omega (arith, at, gap.above k le lt))

-- the page found at a place
pub held-place : (hs : List Held) (i p : ℕ) (d : Held) → IsSorted (pages_of hs) → IsPlace p (pages_of hs) i → entry p (pages_of hs) ≡ Some (page_of (get_or hs i d))
held-place hs i p d sorted place =
    entry-place (pages_of hs) i p (page_of d) sorted place
    ∙ ap (λ e. Some e) (get_or-map page_of hs i d (page_of d) (omega (arith, place.within, length-pages hs)))

-- the page at an index
pub page-get : (hs : List Held) (i : ℕ) (d : Held) → i < length hs → slice_get (pages_of hs) i ≡ Some (page_of (get_or hs i d))
page-get [] i d h = absurd (omega (arith, h))
page-get (x ∷ xs) zero d h = refl
page-get (x ∷ xs) (suc i) d h = page-get xs i d (omega (arith, h))
