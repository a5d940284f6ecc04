-- Frames of pages, and free frames.
use Rattle.std.proofs.Common.{◌≡◌, ◌≢◌, ℕ, zero, suc, ◌+◌, ◌<◌, ◌≤◌, Bool, true, false, cond, not, ◌&&◌, ◌||◌, ◌==◌, List, [], ◌∷◌, ◌++◌, refl, sym, ap, ◌∙◌, arith, ne_eqb, eq-eqb, le-leb, ⊎_elim, ◌⊎◌, inl, inr}
use Rattle.std.specs.Prelude.{Option, Some, None}
use Rattle.std.proofs.lemmas.Bool.{cases_eq}
use Rattle.std.proofs.lemmas.List.{map-append, map_push}
use Rattle.vf_pages.specs.declared.held.Held.{Held}
use Rattle.vf_pages.specs.Views.{page_of, pages_of}
use Rattle.vf_frames.specs.declared.holder.Holder.{Holder}
use Rattle.vf_frames.specs.Numbers.{has, Gains, Loses, rises}
use Rattle.vf_frames.specs.Holders.{count, one_if_has, AllHeld}
use Rattle.vf_pages.specs.Pages.{Page, frames_in, pages_in, frame_number, entry, or_entry, occurs}
use Rattle.vf_pages.specs.Needs.{need, needs_frame, free_frames}
use Rattle.vf_pages.proofs.Entries.{rises-parts, rises-from, entry-here, entry-other}

-- a gained or lost frame as a number
pub gain-one : (f : ℕ) (before after : List ℕ) → Gains f before after → (g : ℕ) → cond (has g after) 1 0 ≡ cond (has g before) 1 0 + cond (g == f) 1 0
gain-one f before after gains g =
    ap (λ b. cond {A = ℕ} b 1 0) (gains.each g) ∙ ⊎_elim
    (λ e. both (g == f) (has g before) (eq-eqb g f e) (ap (λ n. has n before) e ∙ gains.absent))
    (λ ne. other (g == f) (has g before) (ne_eqb g f ne))
    (cases_eq g f)
  where
    both : (a b : Bool) → a ≡ true → b ≡ false → cond {A = ℕ} (a || b) 1 0 ≡ cond b 1 0 + cond a 1 0
    both a b h k = rw (h, k) (omega arith)

    other : (a b : Bool) → a ≡ false → cond {A = ℕ} (a || b) 1 0 ≡ cond b 1 0 + cond a 1 0
    other a b h = rw h (omega arith)

pub lose-one : (f : ℕ) (before after : List ℕ) → Loses f before after → (g : ℕ) → cond (has g after) 1 0 + cond (g == f) 1 0 ≡ cond (has g before) 1 0
lose-one f before after loses g =
    ap (λ b. cond {A = ℕ} b 1 0 + cond (g == f) 1 0) (loses.each g) ∙ ⊎_elim
    (λ e. both (g == f) (has g before) (eq-eqb g f e) (ap (λ n. has n before) e ∙ loses.present))
    (λ ne. other (g == f) (has g before) (ne_eqb g f ne))
    (cases_eq g f)
  where
    both : (a b : Bool) → a ≡ true → b ≡ true → cond {A = ℕ} (not a && b) 1 0 + cond a 1 0 ≡ cond b 1 0
    both a b h k = rw (h, k) refl

    other : (a b : Bool) → a ≡ false → cond {A = ℕ} (not a && b) 1 0 + cond a 1 0 ≡ cond b 1 0
    other a b h = rw h (omega arith)

pub one_if-has : (f : ℕ) (h : Holder) → has f h.frames ≡ true → one_if_has f h ≡ 1
one_if-has f h e = rw e refl

-- a frame that has a page is in the list
pub has-from : (f : ℕ) (b : Bool) → 1 ≤ cond {A = ℕ} b 1 0 → b ≡ true
has-from f true h = refl
has-from f false h = absurd (omega arith)

pub occurs-append : (f : ℕ) (xs ys : List ℕ) → occurs f (xs ++ ys) ≡ occurs f xs + occurs f ys
occurs-append f [] ys = omega arith
occurs-append f (x ∷ xs) ys = omega (arith, occurs-append f xs ys)

pub occurs-snoc : (f : ℕ) (es : List Page) (e : Page) → occurs f (frames_in (es ++ e ∷ [])) ≡ occurs f (frames_in es) + cond (f == e.frame) 1 0
occurs-snoc f es e =
    let split = ap (occurs f) (map-append frame_number es (e ∷ [])) in
    omega (arith, split, occurs-append f (frames_in es) (e.frame ∷ []))

-- the frame of a page that is held
pub occurs-entry : (p : ℕ) (es : List Page) (e : Page) → entry p es ≡ Some e → 1 ≤ occurs e.frame (frames_in es)
occurs-entry p [] e h = absurd (cc)
occurs-entry p (x ∷ xs) e h =
    ⊎_elim
    (λ same.
    let found : Some x ≡ Some e = sym (entry-here p x xs same) ∙ h in
    let is : x ≡ e = cc in
    let hit = ap (λ b. cond {A = ℕ} b 1 0) (eq-eqb e.frame x.frame (ap frame_number (sym is))) in
    omega (arith, hit))
    (λ ne. omega (arith, occurs-entry p xs e (sym (entry-other p x xs ne) ∙ h)))
    (cases_eq p x.page)

pub free-same : (n : ℕ) (hs hs' : List Holder) → ((g : ℕ) → g < n → count g hs ≡ count g hs') → free_frames n hs ≡ free_frames n hs'
free-same zero hs hs' h = refl
free-same (suc n) hs hs' h =
    let here = ap (λ k. cond {A = ℕ} (k == 0) 1 0) (h n (omega arith)) in
    omega (arith, here, free-same n hs hs' (λ g lt. h g (omega arith)))

pub free-none : (n : ℕ) (hs : List Holder) → AllHeld n hs → free_frames n hs ≡ 0
free-none zero hs h = refl
free-none (suc n) hs h =
    let above = h n (omega arith) in
    let ne : count n hs ≢ 0 = omega arith in
    let here = ap (λ b. cond {A = ℕ} b 1 0) (ne_eqb (count n hs) 0 ne) in
    omega (arith, here, free-none n hs (λ f lt. h f (omega arith)))

-- a claim takes one of the free frames
pub free-gain : (n f : ℕ) (h h' : Holder) (others : List Holder) → f < n → count f (h ∷ others) ≡ 0 → Gains f h.frames h'.frames → free_frames n (h' ∷ others) + 1 ≡ free_frames n (h ∷ others)
free-gain zero f h h' others lt none gains = absurd (omega arith)
free-gain (suc n) f h h' others lt none gains =
    let step = gain-one f h.frames h'.frames gains in
    ⊎_elim
    (λ e.
    let hit = ap (λ b. cond {A = ℕ} b 1 0) (eq-eqb n f e) in
    let was : count n (h ∷ others) ≡ 0 = ap (λ g. count g (h ∷ others)) e ∙ none in
    let now : count n (h' ∷ others) ≡ 1 = omega (arith, step n, hit, was) in
    let before = ap (λ k. cond {A = ℕ} (k == 0) 1 0) was in
    let after = ap (λ k. cond {A = ℕ} (k == 0) 1 0) now in
    omega (
      arith,
      before,
      after,
      free-same n (h' ∷ others) (h ∷ others) (λ g below.
          let miss = ap (λ b. cond {A = ℕ} b 1 0) (ne_eqb g f (λ same. absurd (omega arith))) in
          omega (arith, step g, miss)),
    ))
    (λ ne.
    let miss = ap (λ b. cond {A = ℕ} b 1 0) (ne_eqb n f ne) in
    let same : count n (h' ∷ others) ≡ count n (h ∷ others) = omega (arith, step n, miss) in
    let here = ap (λ k. cond {A = ℕ} (k == 0) 1 0) same in
    omega (arith, here, free-gain n f h h' others (omega arith) none gains))
    (cases_eq n f)

pub need-append : (others : List Holder) (ps : List Page) (xs ys : List ℕ) → need others ps (xs ++ ys) ≡ need others ps xs + need others ps ys
need-append others ps [] ys = omega arith
need-append others ps (x ∷ xs) ys = omega (arith, need-append others ps xs ys)

pub needs-shared : (others : List Holder) (e : Page) → 1 ≤ count e.frame others → needs_frame others (Some e) ≡ 1
needs-shared others e h = rw (le-leb 1 (count e.frame others) h) refl

pub needs-alone : (others : List Holder) (e : Page) → count e.frame others ≡ 0 → needs_frame others (Some e) ≡ 0
needs-alone others e h = rw h refl

-- at the end of a list of pages
pub entry-snoc : (q : ℕ) (es : List Page) (e : Page) → entry q (es ++ e ∷ []) ≡ or_entry (entry q es) (cond (q == e.page) (Some e) None)
entry-snoc q [] e = refl
entry-snoc q (x ∷ xs) e =
    ap (λ o. cond (q == x.page) (Some x) o) (entry-snoc q xs e) ∙ over (q == x.page) x (entry q xs) (cond (q == e.page) (Some e) None)
  where
    over : (b : Bool) (x : Page) (o r : Option Page) → cond b (Some x) (or_entry o r) ≡ or_entry (cond b (Some x) o) r
    over true x o r = refl
    over false x o r = refl

pub or_entry-cases : (a b : Option Page) (e : Page) → or_entry a b ≡ Some e → (a ≡ Some e) ⊎ ((a ≡ None) × (b ≡ Some e))
or_entry-cases None b e h = inr (refl, h)
or_entry-cases (Some x) b e h = inl h

pub or_entry-none : (a b : Option Page) → or_entry a b ≡ None → (a ≡ None) × (b ≡ None)
or_entry-none None b h = (refl, h)
or_entry-none (Some x) b h = absurd (cc)

pub this-or-none : (q : ℕ) (e o : Page) → cond (q == e.page) (Some e) None ≡ Some o → (q ≡ e.page) × (e ≡ o)
this-or-none q e o h =
    ⊎_elim
    (λ same. (same, this e o (hit q e same ∙ h)))
    (λ ne. absurd (none o (sym (miss q e ne) ∙ h)))
    (cases_eq q e.page)
  where
    hit : (q : ℕ) (e : Page) → q ≡ e.page → Some e ≡ cond (q == e.page) (Some e) None
    hit q e same = rw (eq-eqb q e.page same) refl

    miss : (q : ℕ) (e : Page) → q ≢ e.page → cond (q == e.page) (Some e) None ≡ None
    miss q e ne = rw (ne_eqb q e.page ne) refl

    this : (e o : Page) → Some e ≡ Some o → e ≡ o
    this e o h = cc

    none : (o : Page) → None ≡ Some o → ⊥
    none o h = cc

pub rises-snoc : (low limit : ℕ) (es : List Page) (e : Page) → rises low limit (pages_in es) ≡ true → low ≤ e.page → e.page < limit → ((q : ℕ) (o : Page) → entry q es ≡ Some o → q < e.page) → rises low limit (pages_in (es ++ e ∷ [])) ≡ true
rises-snoc low limit [] e r h k below = rises-from low limit e.page [] h k refl
rises-snoc low limit (x ∷ xs) e r h k below =
    let parts = rises-parts low limit x.page (pages_in xs) r in
    let first = below x.page x (entry-here x.page x xs refl) in
    rises-from low limit x.page (pages_in (xs ++ e ∷ [])) parts.0 parts.1
    (rises-snoc (x.page + 1) limit xs e parts.2 (omega arith) k (λ q o found. ⊎_elim
    (λ same. below q x (entry-here q x xs same))
    (λ ne. below q o (entry-other q x xs ne ∙ found))
    (cases_eq q x.page)))

pub none-other : (q : ℕ) (e : Page) → cond (q == e.page) (Some e) None ≡ None → q ≢ e.page
none-other q e h same = some_none e (hit q e same ∙ h)
  where
    hit : (q : ℕ) (e : Page) → q ≡ e.page → Some e ≡ cond (q == e.page) (Some e) None
    hit q e same = rw (eq-eqb q e.page same) refl

    some_none : (e : Page) → Some e ≡ None → ⊥
    some_none e h = cc

-- the pages of a list in memory and its last one
pub pages-last : (xs ys : List Held) (one : Held) → ys ≡ xs ++ one ∷ [] → pages_of ys ≡ pages_of xs ++ page_of one ∷ []
pages-last xs ys one e = ap pages_of e ∙ map_push page_of xs one

pub occurs-last : (f : ℕ) (xs ys : List Held) (one : Held) → ys ≡ xs ++ one ∷ [] → occurs f (frames_in (pages_of ys)) ≡ occurs f (frames_in (pages_of xs)) + cond (f == one.frame.0) 1 0
occurs-last f xs ys one e = ap (λ es. occurs f (frames_in es)) (pages-last xs ys one e) ∙ occurs-snoc f (pages_of xs) (page_of one)

-- the front and the last of rising pages
pub rises-last : (low limit : ℕ) (es : List Page) (e : Page) → rises low limit (pages_in (es ++ e ∷ [])) ≡ true → (rises low limit (pages_in es) ≡ true) × (e.page < limit)
rises-last low limit [] e r = (refl, (rises-parts low limit e.page [] r).1)
rises-last low limit (x ∷ xs) e r =
    let parts = rises-parts low limit x.page (pages_in (xs ++ e ∷ [])) r in
    let later = rises-last (x.page + 1) limit xs e parts.2 in
    (rises-from low limit x.page (pages_in xs) parts.0 parts.1 later.0, later.1)
