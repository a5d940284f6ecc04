-- Pages that are written where they are.
use Rattle.std.proofs.Common.{◌≡◌, ◌≢◌, ℕ, ◌+◌, ◌/◌, ◌≤◌, Bool, true, false, cond, ◌&&◌, ◌||◌, List, [], ◌∷◌, map, refl, sym, ap, ap₂, ◌∙◌, arith, ⊎_elim, ◌⊎◌}
use Rattle.std.specs.Prelude.{Option, Some, None, is_none, slice_get}
use Rattle.std.proofs.lemmas.Bool.{cases_eq, false_from_ne_true}
use Rattle.vf_frames.specs.Numbers.{rises}
use Rattle.vf_pages.specs.Pages.{Page, pages_in, entry}
use Rattle.vf_pages.specs.Writes.{touches, written, after, address, own, beyond}
use Rattle.vf_pages.specs.InPlace.{in_place}
use Rattle.vf_pages.proofs.Entries.{rises-parts, entry-here, entry-other}
use Rattle.vf_pages.proofs.Words.{touches-append, written-append, written-untouched, after-same}
use Rattle.vf_pages.proofs.Groups.{own-append-beyond, AllOn-own, touches-AllOn}
use Rattle.vf_pages.proofs.Progress.{first-beyond}
use Rattle.vf_base.specs.declared.write.Write.{Write}

pub in_place-off : (ws : List Write) (fresh : List Page) (e : Page) → touches e.page ws ≡ false → in_place ws fresh e ≡ e
in_place-off ws fresh e h = rw h refl

pub in_place-fresh : (ws : List Write) (fresh : List Page) (e o : Page) → entry e.page fresh ≡ Some o → in_place ws fresh e ≡ e
in_place-fresh ws fresh e o h = over (touches e.page ws) (is_none (entry e.page fresh)) (record { page = e.page; frame = e.frame; words = after ws e.page e.words }) e (ap is_none h)
  where
    over : (a b : Bool) (x y : Page) → b ≡ false → cond (a && b) x y ≡ y
    over true b x y h = rw h refl
    over false b x y h = refl

pub in_place-on : (ws : List Write) (fresh : List Page) (e : Page) → touches e.page ws ≡ true → entry e.page fresh ≡ None → in_place ws fresh e ≡ record { page = e.page; frame = e.frame; words = after ws e.page e.words }
in_place-on ws fresh e h k = rw (h, k) refl

in_place-same : (xs ys : List Write) (fresh : List Page) (e : Page) → touches e.page xs ≡ touches e.page ys → after xs e.page e.words ≡ after ys e.page e.words → in_place xs fresh e ≡ in_place ys fresh e
in_place-same xs ys fresh e h k =
    ap₂ (λ b (ws : List ℕ). cond (b && is_none (entry e.page fresh)) (record { page = e.page; frame = e.frame; words = ws }) e) h k

-- pages other than p see the writes after those of page p alone
pub touches-beyond : (p q : ℕ) (ws : List Write) → q ≢ p → touches q ws ≡ touches q (beyond p ws)
touches-beyond p q ws ne =
    ap (touches q) (sym (own-append-beyond p ws)) ∙ touches-append q (own p ws) (beyond p ws)
    ∙ skip (touches q (own p ws)) (touches q (beyond p ws)) (false_from_ne_true (touches q (own p ws)) (λ t. ne (touches-AllOn p q (own p ws) (AllOn-own p ws) t)))
  where
    skip : (a b : Bool) → a ≡ false → (a || b) ≡ b
    skip a b h = rw h refl

written-beyond : (p a old : ℕ) (ws : List Write) → a / 64 ≢ p → written ws a old ≡ written (beyond p ws) a old
written-beyond p a old ws ne =
    ap (λ xs. written xs a old) (sym (own-append-beyond p ws)) ∙ written-append (own p ws) (beyond p ws) a old
    ∙ ap (written (beyond p ws) a) (written-untouched (own p ws) a old (false_from_ne_true (touches (a / 64) (own p ws)) (λ t. ne (touches-AllOn p (a / 64) (own p ws) (AllOn-own p ws) t))))

pub in_place-beyond : (p : ℕ) (ws : List Write) (fresh : List Page) (e : Page) → e.page ≢ p → in_place ws fresh e ≡ in_place (beyond p ws) fresh e
in_place-beyond p ws fresh e ne =
    in_place-same ws (beyond p ws) fresh e (touches-beyond p e.page ws ne)
    (after-same ws (beyond p ws) e.page e.words (λ a old at. written-beyond p a old ws (λ same. ne (sym at ∙ same))))

-- page p sees the writes at the front alone
pub after-own : (low limit : ℕ) (ws : List Write) (f : Write) (words : List ℕ) → rises low limit (map address ws) ≡ true → Some f ≡ slice_get ws 0 → after ws (f.at / 64) words ≡ after (own (f.at / 64) ws) (f.at / 64) words
after-own low limit ws f words r h =
    let p : ℕ = f.at / 64 in
    after-same ws (own p ws) p words (λ a old at.
    ap (λ xs. written xs a old) (sym (own-append-beyond p ws)) ∙ written-append (own p ws) (beyond p ws) a old
    ∙ written-untouched (beyond p ws) a (written (own p ws) a old) (false_from_ne_true (touches (a / 64) (beyond p ws)) (λ t. absurd (omega (arith, first-beyond low limit ws f r h (a / 64) t, at)))))

some-of : (o : Option Page) → o ≢ None → (e : Page) × (o ≡ Some e)
some-of None h = absurd (h refl)
some-of (Some e) h = (e, refl)

map-other : (f g : Page → Page) (p : ℕ) (es : List Page) → entry p es ≡ None → ((e : Page) → e.page ≢ p → f e ≡ g e) → map f es ≡ map g es
map-other f g p [] none h = refl
map-other f g p (x ∷ xs) none h =
    ⊎_elim
    (λ same. absurd (some_none x (sym (entry-here p x xs same) ∙ none)))
    (λ ne. ap₂ (λ y ys. y ∷ ys) (h x (λ e. ne (sym e))) (map-other f g p xs (sym (entry-other p x xs ne) ∙ none) h))
    (cases_eq p x.page)
  where
    some_none : (e : Page) → Some e ≡ None → ⊥
    some_none e h = cc

map-all : (f g : Page → Page) (es : List Page) → ((e : Page) → f e ≡ g e) → map f es ≡ map g es
map-all f g [] h = refl
map-all f g (x ∷ xs) h = ap₂ (λ y ys. y ∷ ys) (h x) (map-all f g xs h)

-- a page that is not held, or that has a fresh one, is passed over
pub in_place-skip : (p : ℕ) (ws : List Write) (fresh es : List Page) → (entry p es ≡ None) ⊎ (entry p fresh ≢ None) → map (in_place (beyond p ws) fresh) es ≡ map (in_place ws fresh) es
in_place-skip p ws fresh es why =
    ⊎_elim
    (λ none. map-other (in_place (beyond p ws) fresh) (in_place ws fresh) p es none (λ e ne. sym (in_place-beyond p ws fresh e ne)))
    (λ some. let o = some-of (entry p fresh) some in
    map-all (in_place (beyond p ws) fresh) (in_place ws fresh) es (λ e. ⊎_elim
    (λ same. let there : entry e.page fresh ≡ Some o.0 = ap (λ n. entry n fresh) same ∙ o.1 in
    in_place-fresh (beyond p ws) fresh e o.0 there ∙ sym (in_place-fresh ws fresh e o.0 there))
    (λ ne. sym (in_place-beyond p ws fresh e ne))
    (cases_eq e.page p)))
    why

pub map-above : (f g : Page → Page) (low limit : ℕ) (es : List Page) → rises low limit (pages_in es) ≡ true → ((e : Page) → low ≤ e.page → f e ≡ g e) → map f es ≡ map g es
map-above f g low limit [] r h = refl
map-above f g low limit (x ∷ xs) r h =
    let parts = rises-parts low limit x.page (pages_in xs) r in
    ap₂ (λ y ys. y ∷ ys) (h x parts.0) (map-above f g (x.page + 1) limit xs parts.2 (λ e le. h e (omega (arith, parts.0))))

pub in_place-none : (fresh es : List Page) → map (in_place [] fresh) es ≡ es
in_place-none fresh [] = refl
in_place-none fresh (x ∷ xs) = ap (λ ys. x ∷ ys) (in_place-none fresh xs)
