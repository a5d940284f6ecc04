-- The writes of one page, and the pages that writes fall on.
use Rattle.std.proofs.Common.{◌≡◌, ◌≢◌, ℕ, ◌+◌, ◌/◌, ◌<◌, ◌≤◌, Bool, true, false, cond, ◌==◌, List, [], ◌∷◌, ◌++◌, map, refl, sym, ap, ◌∙◌, arith, ne_eqb, eq-eqb, eqb-true, ⊎_elim}
use Rattle.std.proofs.lemmas.Bool.{cases_eq, or_cases, or_left, or_right}
use Rattle.std.proofs.lemmas.List.Elements.{All-nil, All-cons, All-head, All-tail}
use Rattle.vf_base.specs.declared.write.Write.{Write}
use Rattle.vf_frames.specs.Numbers.{rises}
use Rattle.vf_pages.specs.Writes.{touches, written_pages, with_page, address, own, beyond, AllOn}
use Rattle.vf_pages.proofs.Entries.{rises-parts, rises-from, rises-less}

pub own-here : (p : ℕ) (w : Write) (ws : List Write) → w.at / 64 ≡ p → (own p (w ∷ ws) ≡ w ∷ own p ws) × (beyond p (w ∷ ws) ≡ beyond p ws)
own-here p w ws h = (rw (eq-eqb (w.at / 64) p h) refl, rw (eq-eqb (w.at / 64) p h) refl)

pub own-other : (p : ℕ) (w : Write) (ws : List Write) → w.at / 64 ≢ p → (own p (w ∷ ws) ≡ []) × (beyond p (w ∷ ws) ≡ w ∷ ws)
own-other p w ws h = (rw (ne_eqb (w.at / 64) p h) refl, rw (ne_eqb (w.at / 64) p h) refl)

pub own-append-beyond : (p : ℕ) (ws : List Write) → own p ws ++ beyond p ws ≡ ws
own-append-beyond p [] = refl
own-append-beyond p (w ∷ ws) =
    ⊎_elim
    (λ e. rw ((own-here p w ws e).0, (own-here p w ws e).1) (ap (λ xs. w ∷ xs) (own-append-beyond p ws)))
    (λ ne. rw ((own-other p w ws ne).0, (own-other p w ws ne).1) refl)
    (cases_eq (w.at / 64) p)

pub AllOn-own : (p : ℕ) (ws : List Write) → AllOn p (own p ws)
AllOn-own p [] = All-nil (λ w. w.at / 64 ≡ p)
AllOn-own p (w ∷ ws) =
    ⊎_elim
    (λ e. rw (own-here p w ws e).0 (All-cons (λ w. w.at / 64 ≡ p) w (own p ws) e (AllOn-own p ws)))
    (λ ne. rw (own-other p w ws ne).0 (All-nil (λ w. w.at / 64 ≡ p)))
    (cases_eq (w.at / 64) p)

-- writes of page p alone
pub own-all : (p : ℕ) (ws : List Write) → AllOn p ws → (own p ws ≡ ws) × (beyond p ws ≡ [])
own-all p [] on = (refl, refl)
own-all p (w ∷ ws) on =
    let here = own-here p w ws (All-head (λ w. w.at / 64 ≡ p) w ws on) in
    let rest = own-all p ws (All-tail (λ w. w.at / 64 ≡ p) w ws on) in
    (here.0 ∙ ap (λ xs. w ∷ xs) rest.0, here.1 ∙ rest.1)

-- writes of page p touch no other page
pub touches-AllOn : (p q : ℕ) (ws : List Write) → AllOn p ws → touches q ws ≡ true → q ≡ p
touches-AllOn p q [] all h = absurd (cc)
touches-AllOn p q (w ∷ ws) all h =
    ⊎_elim
    (λ e. eqb-true q (w.at / 64) e ∙ All-head (λ w. w.at / 64 ≡ p) w ws all)
    (λ e. touches-AllOn p q ws (All-tail (λ w. w.at / 64 ≡ p) w ws all) e)
    (or_cases (q == w.at / 64) (touches q ws) h)

-- writes from an address on touch no page before it
touches-from : (low limit q : ℕ) (ws : List Write) → rises low limit (map address ws) ≡ true → touches q ws ≡ true → low / 64 ≤ q
touches-from low limit q [] r h = absurd (cc)
touches-from low limit q (w ∷ ws) r h =
    let parts = rises-parts low limit w.at (map address ws) r in
    ⊎_elim
    (λ e. omega (arith, parts.0, eqb-true q (w.at / 64) e))
    (λ e. omega (arith, parts.0, touches-from (w.at + 1) limit q ws parts.2 e))
    (or_cases (q == w.at / 64) (touches q ws) h)

-- what is left after the writes of page p falls on later pages
pub beyond-later : (p low limit : ℕ) (ws : List Write) → rises low limit (map address ws) ≡ true → p ≤ low / 64 → (q : ℕ) → touches q (beyond p ws) ≡ true → p < q
beyond-later p low limit [] r h q t = absurd (cc)
beyond-later p low limit (w ∷ ws) r h q t =
    let parts = rises-parts low limit w.at (map address ws) r in
    ⊎_elim
    (λ e. beyond-later p (w.at + 1) limit ws parts.2 (omega (arith, parts.0)) q (ap (touches q) (sym (own-here p w ws e).1) ∙ t))
    (λ ne.
    let first : p < w.at / 64 = omega (arith, parts.0, ne) in
    let here : touches q (w ∷ ws) ≡ true = ap (touches q) (sym (own-other p w ws ne).1) ∙ t in
    omega (arith, first, touches-from w.at limit q (w ∷ ws) (rises-from w.at limit w.at (map address ws) (omega arith) parts.1 parts.2) here))
    (cases_eq (w.at / 64) p)

pub beyond-rises : (p low limit : ℕ) (ws : List Write) → rises low limit (map address ws) ≡ true → rises low limit (map address (beyond p ws)) ≡ true
beyond-rises p low limit [] r = refl
beyond-rises p low limit (w ∷ ws) r =
    let parts = rises-parts low limit w.at (map address ws) r in
    ⊎_elim
    (λ e. ap (λ xs. rises low limit (map address xs)) (own-here p w ws e).1 ∙ rises-less low (w.at + 1) limit (map address (beyond p ws)) (omega (arith, parts.0)) (beyond-rises p (w.at + 1) limit ws parts.2))
    (λ ne. ap (λ xs. rises low limit (map address xs)) (own-other p w ws ne).1 ∙ r)
    (cases_eq (w.at / 64) p)

-- the pages of writes of one page
pub written_pages-AllOn : (p : ℕ) (w : Write) (ws : List Write) → AllOn p (w ∷ ws) → written_pages (w ∷ ws) ≡ p ∷ []
written_pages-AllOn p w [] all = ap (λ n. n ∷ []) (All-head (λ w. w.at / 64 ≡ p) w [] all)
written_pages-AllOn p w (x ∷ xs) all =
    let head = All-head (λ w. w.at / 64 ≡ p) w (x ∷ xs) all in
    ap (with_page (w.at / 64)) (written_pages-AllOn p x xs (All-tail (λ w. w.at / 64 ≡ p) w (x ∷ xs) all))
    ∙ rw (eq-eqb (w.at / 64) p head) refl

with_page-head : (p : ℕ) (qs : List ℕ) → (rest : List ℕ) × (with_page p qs ≡ p ∷ rest)
with_page-head p [] = ([], refl)
with_page-head p (q ∷ qs) =
    ⊎_elim
    (λ e. (qs, rw (eq-eqb p q e) (ap (λ n. n ∷ qs) (sym e))))
    (λ ne. (q ∷ qs, rw (ne_eqb p q ne) refl))
    (cases_eq p q)

with_page-front : (p : ℕ) (ys : List Write) → ((r : ℕ) → touches r ys ≡ true → p < r) → with_page p (written_pages ys) ≡ p ∷ written_pages ys
with_page-front p [] h = refl
with_page-front p (y ∷ ys) h =
    let head = with_page-head (y.at / 64) (written_pages ys) in
    let first : p < y.at / 64 = h (y.at / 64) (or_left (y.at / 64 == y.at / 64) (touches (y.at / 64) ys) (eq-eqb (y.at / 64) (y.at / 64) refl)) in
    let ne : p ≢ y.at / 64 = omega arith in
    ap (with_page p) head.1 ∙ ahead p (y.at / 64) head.0 ne ∙ ap (λ qs. p ∷ qs) (sym head.1)
  where
    ahead : (p q : ℕ) (qs : List ℕ) → p ≢ q → with_page p (q ∷ qs) ≡ p ∷ (q ∷ qs)
    ahead p q qs ne = rw (ne_eqb p q ne) refl

with_page-join : (p : ℕ) (qs : List ℕ) (ys : List Write) → ((r : ℕ) → touches r ys ≡ true → p < r) → with_page p (qs ++ written_pages ys) ≡ with_page p qs ++ written_pages ys
with_page-join p [] ys h = with_page-front p ys h
with_page-join p (q ∷ qs) ys h = over (p == q) p q qs (written_pages ys)
  where
    over : (b : Bool) (p q : ℕ) (qs rs : List ℕ) → cond b (q ∷ (qs ++ rs)) (p ∷ (q ∷ (qs ++ rs))) ≡ cond b (q ∷ qs) (p ∷ (q ∷ qs)) ++ rs
    over true p q qs rs = refl
    over false p q qs rs = refl

-- the pages of writes to earlier pages, and of writes to later ones
pub written_pages-append : (xs ys : List Write) → ((q r : ℕ) → touches q xs ≡ true → touches r ys ≡ true → q < r) → written_pages (xs ++ ys) ≡ written_pages xs ++ written_pages ys
written_pages-append [] ys h = refl
written_pages-append (w ∷ ws) ys h =
    ap (with_page (w.at / 64)) (written_pages-append ws ys (λ q r t u. h q r (or_right (q == w.at / 64) (touches q ws) t) u))
    ∙ with_page-join (w.at / 64) (written_pages ws) ys (λ r u. h (w.at / 64) r (or_left (w.at / 64 == w.at / 64) (touches (w.at / 64) ws) (eq-eqb (w.at / 64) (w.at / 64) refl)) u)
