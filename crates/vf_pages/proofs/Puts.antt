-- Putting pages into a list with rising numbers.
use Rattle.std.proofs.Common.{◌≡◌, ◌≢◌, ℕ, zero, suc, ◌+◌, ◌<◌, ◌≤◌, true, cond, ◌==◌, List, [], ◌∷◌, ◌++◌, length, get_or, set, refl, sym, ap, ◌∙◌, arith, ne_eqb, eq-eqb, lt-ltb, le-ltb, ⊎_elim}
use Rattle.std.specs.Prelude.{Some, None}
use Rattle.std.specs.List.{insert}
use Rattle.std.proofs.lemmas.Bool.{cases_eq, cases_order}
use Rattle.vf_frames.specs.Numbers.{rises}
use Rattle.vf_pages.specs.Pages.{Page, pages_in, frames_in, entry, occurs}
use Rattle.vf_pages.specs.Needs.{is_new}
use Rattle.vf_pages.specs.Puts.{put, puts, frame_count}
use Rattle.vf_pages.proofs.Entries.{rises-parts, rises-from, entry-here, entry-other, entry-below}

pub put-same : (e x : Page) (xs : List Page) → e.page ≡ x.page → put e (x ∷ xs) ≡ e ∷ xs
put-same e x xs h = rw (eq-eqb e.page x.page h) refl

pub put-before : (e x : Page) (xs : List Page) → e.page < x.page → put e (x ∷ xs) ≡ e ∷ (x ∷ xs)
put-before e x xs h =
    let ne : e.page ≢ x.page = omega arith in
    rw (ne_eqb e.page x.page ne, lt-ltb e.page x.page h) refl

pub put-after : (e x : Page) (xs : List Page) → x.page < e.page → put e (x ∷ xs) ≡ x ∷ put e xs
put-after e x xs h =
    let ne : e.page ≢ x.page = omega arith in
    rw (ne_eqb e.page x.page ne, le-ltb e.page x.page (omega arith)) refl

-- the page that is found after a put
pub put-entry-same : (e : Page) (ps : List Page) (q : ℕ) → q ≡ e.page → entry q (put e ps) ≡ Some e
put-entry-same e [] q h = entry-here q e [] h
put-entry-same e (x ∷ xs) q h =
    ⊎_elim
    (λ same. ap (entry q) (put-same e x xs same) ∙ entry-here q e xs h)
    (λ ne. ⊎_elim
    (λ before. ap (entry q) (put-before e x xs before) ∙ entry-here q e (x ∷ xs) h)
    (λ behind. ap (entry q) (put-after e x xs behind) ∙ entry-other q x (put e xs) (λ same. absurd (omega arith)) ∙ put-entry-same e xs q h)
    ne)
    (cases_order e.page x.page)

pub put-entry-other : (e : Page) (ps : List Page) (q : ℕ) → q ≢ e.page → entry q (put e ps) ≡ entry q ps
put-entry-other e [] q h = entry-other q e [] h
put-entry-other e (x ∷ xs) q h =
    ⊎_elim
    (λ same. ap (entry q) (put-same e x xs same) ∙ entry-other q e xs h ∙ sym (entry-other q x xs (λ at. h (at ∙ sym same))))
    (λ ne. ⊎_elim
    (λ before. ap (entry q) (put-before e x xs before) ∙ entry-other q e (x ∷ xs) h)
    (λ behind. ap (entry q) (put-after e x xs behind) ∙ ap (λ o. cond (q == x.page) (Some x) o) (put-entry-other e xs q h))
    ne)
    (cases_order e.page x.page)

-- the numbers still rise
pub put-rises : (low limit : ℕ) (e : Page) (ps : List Page) → rises low limit (pages_in ps) ≡ true → low ≤ e.page → e.page < limit → rises low limit (pages_in (put e ps)) ≡ true
put-rises low limit e [] r h k = rises-from low limit e.page [] h k refl
put-rises low limit e (x ∷ xs) r h k =
    let parts = rises-parts low limit x.page (pages_in xs) r in
    ⊎_elim
    (λ same. ap (λ ps. rises low limit (pages_in ps)) (put-same e x xs same) ∙ rises-from low limit e.page (pages_in xs) h k (ap (λ n. rises (n + 1) limit (pages_in xs)) same ∙ parts.2))
    (λ ne. ⊎_elim
    (λ before. ap (λ ps. rises low limit (pages_in ps)) (put-before e x xs before) ∙ rises-from low limit e.page (pages_in (x ∷ xs)) h k (rises-from (e.page + 1) limit x.page (pages_in xs) (omega arith) parts.1 parts.2))
    (λ behind. ap (λ ps. rises low limit (pages_in ps)) (put-after e x xs behind) ∙ rises-from low limit x.page (pages_in (put e xs)) parts.0 parts.1 (put-rises (x.page + 1) limit e xs parts.2 (omega arith) k))
    ne)
    (cases_order e.page x.page)

-- a put brings the frame of the new page and takes that of the old one
pub put-occurs : (low limit f : ℕ) (e : Page) (ps : List Page) → rises low limit (pages_in ps) ≡ true → occurs f (frames_in (put e ps)) + frame_count f (entry e.page ps) ≡ occurs f (frames_in ps) + cond (f == e.frame) 1 0
put-occurs low limit f e [] r = omega arith
put-occurs low limit f e (x ∷ xs) r =
    let parts = rises-parts low limit x.page (pages_in xs) r in
    ⊎_elim
    (λ same.
    let now = ap (λ ps. occurs f (frames_in ps)) (put-same e x xs same) in
    let old = ap (frame_count f) (entry-here e.page x xs same) in
    omega (arith, now, old))
    (λ ne. ⊎_elim
    (λ before.
    let now = ap (λ ps. occurs f (frames_in ps)) (put-before e x xs before) in
    let old = ap (frame_count f) (entry-other e.page x xs (λ same. absurd (omega arith)) ∙ entry-below e.page (x.page + 1) limit xs parts.2 (omega arith)) in
    omega (arith, now, old))
    (λ behind.
    let now = ap (λ ps. occurs f (frames_in ps)) (put-after e x xs behind) in
    let old = ap (frame_count f) (entry-other e.page x xs (λ same. absurd (omega arith))) in
    omega (arith, now, old, put-occurs (x.page + 1) limit f e xs parts.2))
    ne)
    (cases_order e.page x.page)

pub put-length : (low limit : ℕ) (e : Page) (ps : List Page) → rises low limit (pages_in ps) ≡ true → length (put e ps) ≡ length ps + is_new (entry e.page ps)
put-length low limit e [] r = omega arith
put-length low limit e (x ∷ xs) r =
    let parts = rises-parts low limit x.page (pages_in xs) r in
    ⊎_elim
    (λ same.
    let now = ap length (put-same e x xs same) in
    let old = ap is_new (entry-here e.page x xs same) in
    omega (arith, now, old))
    (λ ne. ⊎_elim
    (λ before.
    let now = ap length (put-before e x xs before) in
    let old = ap is_new (entry-other e.page x xs (λ same. absurd (omega arith)) ∙ entry-below e.page (x.page + 1) limit xs parts.2 (omega arith)) in
    omega (arith, now, old))
    (λ behind.
    let now = ap length (put-after e x xs behind) in
    let old = ap is_new (entry-other e.page x xs (λ same. absurd (omega arith))) in
    omega (arith, now, old, put-length (x.page + 1) limit e xs parts.2))
    ne)
    (cases_order e.page x.page)

-- what a write at an index and an insertion do
pub put-set : (low limit : ℕ) (e : Page) (ps : List Page) (i : ℕ) (d : Page) → rises low limit (pages_in ps) ≡ true → i < length ps → (get_or ps i d).page ≡ e.page → set ps i e ≡ put e ps
put-set low limit e [] i d r h at = absurd (omega arith)
put-set low limit e (x ∷ xs) zero d r h at = sym (put-same e x xs (sym at))
put-set low limit e (x ∷ xs) (suc i) d r h at =
    let parts = rises-parts low limit x.page (pages_in xs) r in
    let later = page-at (x.page + 1) limit xs i d parts.2 (omega arith) in
    ap (λ ps. x ∷ ps) (put-set (x.page + 1) limit e xs i d parts.2 (omega arith) at) ∙ sym (put-after e x xs (omega (arith, later, at)))
  where
    page-at : (low limit : ℕ) (es : List Page) (i : ℕ) (d : Page) → rises low limit (pages_in es) ≡ true → i < length es → low ≤ (get_or es i d).page
    page-at low limit [] i d r h = absurd (omega arith)
    page-at low limit (x ∷ xs) zero d r h = (rises-parts low limit x.page (pages_in xs) r).0
    page-at low limit (x ∷ xs) (suc i) d r h =
        let parts = rises-parts low limit x.page (pages_in xs) r in
        omega (arith, parts.0, page-at (x.page + 1) limit xs i d parts.2 (omega arith))

pub put-insert : (e : Page) (ps : List Page) (i : ℕ) (d : Page) → i ≤ length ps → ((k : ℕ) → k < i → (get_or ps k d).page < e.page) → ((k : ℕ) → i ≤ k → k < length ps → e.page < (get_or ps k d).page) → insert ps i e ≡ put e ps
put-insert e [] zero d h below above = refl
put-insert e [] (suc i) d h below above = absurd (omega arith)
put-insert e (x ∷ xs) zero d h below above = sym (put-before e x xs (above 0 (omega arith) (omega arith)))
put-insert e (x ∷ xs) (suc i) d h below above =
    ap (λ ps. x ∷ ps) (put-insert e xs i d (omega arith) (λ k lt. below (suc k) (omega arith)) (λ k le lt. above (suc k) (omega arith) (omega arith)))
    ∙ sym (put-after e x xs (below 0 (omega arith)))

-- puts, the last first
pub puts-snoc : (es : List Page) (e : Page) (ps : List Page) → puts (es ++ e ∷ []) ps ≡ puts es (put e ps)
puts-snoc [] e ps = refl
puts-snoc (x ∷ xs) e ps = ap (put x) (puts-snoc xs e ps)

pub puts-entry-none : (es ps : List Page) (q : ℕ) → entry q es ≡ None → entry q (puts es ps) ≡ entry q ps
puts-entry-none [] ps q h = refl
puts-entry-none (e ∷ es) ps q h =
    ⊎_elim
    (λ same. absurd (some_none e (sym (entry-here q e es same) ∙ h)))
    (λ ne. put-entry-other e (puts es ps) q ne ∙ puts-entry-none es ps q (sym (entry-other q e es ne) ∙ h))
    (cases_eq q e.page)
  where
    some_none : (e : Page) → Some e ≡ None → ⊥
    some_none e h = cc

pub puts-entry-some : (es ps : List Page) (q : ℕ) (o : Page) → entry q es ≡ Some o → entry q (puts es ps) ≡ Some o
puts-entry-some [] ps q o h = absurd (cc)
puts-entry-some (e ∷ es) ps q o h =
    ⊎_elim
    (λ same. put-entry-same e (puts es ps) q same ∙ sym (entry-here q e es same) ∙ h)
    (λ ne. put-entry-other e (puts es ps) q ne ∙ puts-entry-some es ps q o (sym (entry-other q e es ne) ∙ h))
    (cases_eq q e.page)
