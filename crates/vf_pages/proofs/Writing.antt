-- Pages that are written where they are, one by one.
use Rattle.std.proofs.Common.{◌≡◌, ◌≢◌, ℕ, zero, suc, ◌+◌, ◌/◌, ◌<◌, ◌≤◌, true, false, cond, ◌==◌, List, [], ◌∷◌, ◌++◌, length, map, get_or, slice_index, slice_set, refl, sym, ap, ap₂, ◌∙◌, arith, subst, ⊎_elim}
use Rattle.std.specs.Prelude.{Some, None, slice_get}
use Rattle.std.proofs.lemmas.Bool.{cases_eq, cases_lt, cases_order, false_from_ne_true}
use Rattle.std.proofs.lemmas.Option.{same_Some, none-some}
use Rattle.vf_base.specs.declared.write.Write.{Write}
use Rattle.vf_frames.specs.Numbers.{rises}
use Rattle.vf_pages.specs.declared.held.Held.{Held}
use Rattle.vf_pages.specs.Pages.{Page, page_number, pages_in, entry, IsSorted, IsPlace, page_limit}
use Rattle.vf_pages.specs.Views.{page_of, pages_of}
use Rattle.vf_pages.specs.Writes.{touches, after, own, beyond, AreWrites}
use Rattle.vf_pages.specs.Puts.{put}
use Rattle.vf_pages.specs.InPlace.{in_place, rewritten, IsWrittenAt}
use Rattle.vf_pages.specs.Contents.{is_taken}
use Rattle.vf_pages.specs.Places.{AtHand, TakenAt, TakesPage}
use Rattle.vf_pages.proofs.Entries.{rises-parts, entry-here, entry-other, entry-below, entry-page}
use Rattle.vf_pages.proofs.Puts.{put-same, put-before, put-after}
use Rattle.vf_pages.proofs.Frames.{entry-snoc, or_entry-none, none-other}
use Rattle.vf_pages.proofs.Lookups.{set-is-put, held-place, page-number, length-pages, length-numbers, only-one}
use Rattle.vf_pages.proofs.Progress.{first-touched, first-beyond}
use Rattle.vf_pages.proofs.InPlaces.{in_place-off, in_place-on, in_place-beyond, touches-beyond, after-own, map-above}
use Rattle.vf_pages.proofs.Results.{in_place-page}

entry-from : (p low limit : ℕ) (es : List Page) (s : Page) → rises low limit (pages_in es) ≡ true → entry p es ≡ Some s → low ≤ p
entry-from p low limit es s r h =
    ⊎_elim
    (λ below. absurd (none-some s (sym (entry-below p low limit es r below) ∙ h)))
    (λ at. at)
    (cases_lt p low)

-- a page put in the place of one with its number
pub put-numbers : (low limit : ℕ) (e : Page) (ps : List Page) → rises low limit (pages_in ps) ≡ true → entry e.page ps ≢ None → pages_in (put e ps) ≡ pages_in ps
put-numbers low limit e [] r h = absurd (h refl)
put-numbers low limit e (x ∷ xs) r h =
    let parts = rises-parts low limit x.page (pages_in xs) r in
    ⊎_elim
    (λ same. ap pages_in (put-same e x xs same) ∙ ap (λ n. n ∷ pages_in xs) same)
    (λ ne. ⊎_elim
    (λ before. absurd (h (entry-other e.page x xs (λ same. absurd (omega arith)) ∙ entry-below e.page (x.page + 1) limit xs parts.2 (omega arith))))
    (λ behind. ap pages_in (put-after e x xs behind)
    ∙ ap (λ ns. x.page ∷ ns) (put-numbers (x.page + 1) limit e xs parts.2 (λ none. h (entry-other e.page x xs (λ same. absurd (omega arith)) ∙ none))))
    ne)
    (cases_order e.page x.page)

-- page p takes its writes on
put-in_place : (p : ℕ) (ws : List Write) (fresh : List Page) (s : Page) (low limit : ℕ) (es : List Page) → rises low limit (pages_in es) ≡ true → entry p es ≡ Some s
    → put (in_place ws fresh s) (map (in_place (beyond p ws) fresh) es) ≡ map (in_place ws fresh) es
put-in_place p ws fresh s low limit [] r h = absurd (none-some s h)
put-in_place p ws fresh s low limit (x ∷ xs) r h =
    let parts = rises-parts low limit x.page (pages_in xs) r in
    let own_number = (in_place-page (beyond p ws) fresh x).0 in
    ⊎_elim
    (λ same.
    let is : x ≡ s = same_Some x s (sym (entry-here p x xs same) ∙ h) in
    put-same (in_place ws fresh s) (in_place (beyond p ws) fresh x) (map (in_place (beyond p ws) fresh) xs) ((in_place-page ws fresh s).0 ∙ ap page_number (sym is) ∙ sym own_number)
    ∙ ap₂ (λ y ys. y ∷ ys) (ap (in_place ws fresh) (sym is))
    (map-above (in_place (beyond p ws) fresh) (in_place ws fresh) (x.page + 1) limit xs parts.2 (λ e le. sym (in_place-beyond p ws fresh e (λ at. absurd (omega (arith, at, same)))))))
    (λ ne.
    let found : entry p xs ≡ Some s = sym (entry-other p x xs ne) ∙ h in
    let bound = entry-from p (x.page + 1) limit xs s parts.2 found in
    let number = (in_place-page ws fresh s).0 ∙ entry-page p xs s found in
    put-after (in_place ws fresh s) (in_place (beyond p ws) fresh x) (map (in_place (beyond p ws) fresh) xs) (omega (arith, bound, number, own_number))
    ∙ ap₂ (λ y ys. y ∷ ys) (sym (in_place-beyond p ws fresh x (λ at. ne (sym at)))) (put-in_place p ws fresh s (x.page + 1) limit xs parts.2 found))
    (cases_eq p x.page)

-- a page put among pages of which each is changed, but for its number
map-put : (f : Page → Page) → ((e : Page) → (f e).page ≡ e.page) → (e : Page) (es : List Page) → map f (put e es) ≡ put (f e) (map f es)
map-put f keeps e [] = refl
map-put f keeps e (x ∷ xs) =
    ⊎_elim
    (λ same. ap (map f) (put-same e x xs same) ∙ sym (put-same (f e) (f x) (map f xs) (keeps e ∙ same ∙ sym (keeps x))))
    (λ ne. ⊎_elim
    (λ before. ap (map f) (put-before e x xs before) ∙ sym (put-before (f e) (f x) (map f xs) (omega (arith, before, keeps e, keeps x))))
    (λ behind. ap (map f) (put-after e x xs behind) ∙ ap (λ ys. f x ∷ ys) (map-put f keeps e xs) ∙ sym (put-after (f e) (f x) (map f xs) (omega (arith, behind, keeps e, keeps x))))
    ne)
    (cases_order e.page x.page)

-- what is left to write once page p is written
pub written-more : (count : ℕ) (ws : List Write) (f : Write) (fresh es : List Page) (s : Page) (own' more : List Write)
    → AreWrites count ws → Some f ≡ slice_get ws 0 → IsSorted es → own' ≡ own (f.at / 64) ws → more ≡ beyond (f.at / 64) ws → entry (f.at / 64) es ≡ Some s → entry (f.at / 64) fresh ≡ None
    → map (in_place more fresh) (put (rewritten (f.at / 64) own' s) es) ≡ map (in_place ws fresh) es
written-more count ws f fresh es s own' more r h sorted is left there none =
    let p : ℕ = f.at / 64 in
    let later : List Write = beyond p ws in
    let new : Page = rewritten p own' s in
    let number = entry-page p es s there in
    let words : after ws s.page s.words ≡ after own' p s.words = ap (λ n. after ws n s.words) number ∙ after-own 0 count ws f s.words r h ∙ ap (λ xs. after xs p s.words) (sym is) in
    let on : in_place ws fresh s ≡ new =
    in_place-on ws fresh s (ap (λ n. touches n ws) number ∙ first-touched ws f h) (ap (λ n. entry n fresh) number ∙ none)
    ∙ ap (λ (xs : List ℕ). record { page = s.page; frame = s.frame; words = xs }) words in
    let off : in_place later fresh new ≡ new = in_place-off later fresh new (false_from_ne_true (touches s.page later) (λ t. absurd (omega (arith, first-beyond 0 count ws f r h s.page t, number)))) in
    ap (λ xs. map (in_place xs fresh) (put new es)) left
    ∙ map-put (in_place later fresh) (λ e. (in_place-page later fresh e).0) new es
    ∙ ap (λ e. put e (map (in_place later fresh) es)) (off ∙ sym on)
    ∙ put-in_place p ws fresh s 0 page_limit es sorted there

-- what stands at an index
pub get-is : {X : Type 0} (xs : List X) (i : ℕ) (x : X) → slice_get xs i ≡ Some x → (i < length xs) × (get_or xs i x ≡ x)
get-is [] i x h = absurd (cc)
get-is (y ∷ ys) zero x h = let same : y ≡ x = same_Some y x h in (omega arith, same)
get-is (y ∷ ys) (suc i) x h = let rest = get-is ys i x h in (omega (arith, rest.0), rest.1)

-- what stands at an index after one is set
pub get-set : {X : Type 0} (xs : List X) (k : ℕ) (y : X) (i : ℕ) (x : X) → slice_get (slice_set xs k y) i ≡ Some x → (i ≡ k → y ≡ x) × (i ≢ k → slice_get xs i ≡ Some x)
get-set [] k y i x h = absurd (cc)
get-set (z ∷ zs) zero y zero x h = (λ e. same_Some y x h, λ ne. absurd (ne refl))
get-set (z ∷ zs) zero y (suc i) x h = (λ e. absurd (omega (arith, e)), λ ne. h)
get-set (z ∷ zs) (suc k) y zero x h = (λ e. absurd (omega (arith, e)), λ ne. h)
get-set (z ∷ zs) (suc k) y (suc i) x h = let rest = get-set zs k y i x h in (λ e. rest.0 (omega (arith, e)), λ ne. rest.1 (λ e. ne (ap suc e)))

-- the pages after one is written in memory
module _ (place p : ℕ) (own' : List Write) (hs hs' : List Held) (w : IsWrittenAt place p own' hs hs') (sorted : IsSorted (pages_of hs)) (at : IsPlace p (pages_of hs) place) where
  old-page : w.old.page.0 ≡ p
  old-page =
      let there = get-is hs place w.old w.was in
      sym (page-number hs place w.old there.0 ∙ ap (λ (h : Held). h.page.0) there.1) ∙ at.number

  new-page : w.new.page.0 ≡ p
  new-page = ap page_number w.written ∙ old-page

  pub written-entry : entry p (pages_of hs) ≡ Some (page_of w.old)
  written-entry = held-place hs place p w.old sorted at ∙ ap (λ (h : Held). Some (page_of h)) (get-is hs place w.old w.was).1

  pub written-pages : pages_of hs' ≡ put (rewritten p own' (page_of w.old)) (pages_of hs)
  written-pages =
      ap pages_of w.is
      ∙ set-is-put hs place w.new w.new sorted (subst (λ n. IsPlace n (pages_of hs) place) (sym new-page) at)
      ∙ ap (λ e. put e (pages_of hs)) w.written

  pub written-numbers : pages_in (pages_of hs') ≡ pages_in (pages_of hs)
  written-numbers =
      ap pages_in written-pages
      ∙ put-numbers 0 page_limit (rewritten p own' (page_of w.old)) (pages_of hs) sorted
      (λ none. none-some (page_of w.old) (sym none ∙ ap (λ n. entry n (pages_of hs)) old-page ∙ written-entry))

  pub still-taken : (fresh : List Page) (q : ℕ) → p < q → AtHand hs fresh q → AtHand hs' fresh q
  still-taken fresh q behind taken = λ i h got number none.
      let set = get-set hs place w.new i h (ap (λ xs. slice_get xs i) (sym w.is) ∙ got) in
      ⊎_elim
      (λ here. absurd (omega (arith, ap (λ (x : Held). x.page.0) (set.0 here), new-page, number, behind)))
      (λ other. taken i h (set.1 other) number none)
      (cases_eq i place)

-- the words of page p are taken out, and no other page is changed
pub taken-here : (place p : ℕ) (hs hs' : List Held) (fresh : List Page) → pages_of hs' ≡ pages_of hs → IsSorted (pages_of hs) → IsPlace p (pages_of hs) place → TakenAt place hs hs' → TakesPage p hs fresh hs' fresh
taken-here place p hs hs' fresh same sorted at taken = record {
  here = λ i h got number none. (taken i h got).0 (one-place i h got number);
  still = λ q before i h got number none. ⊎_elim
      (λ here. (taken i h got).0 here)
      (λ other. before i h ((taken i h got).1 other) number none)
      (cases_eq i place);
}
  where
    one-place : (i : ℕ) (h : Held) → slice_get hs' i ≡ Some h → h.page.0 ≡ p → i ≡ place
    one-place i h got number =
        let there = get-is hs' i h got in
        let within : i < length (pages_of hs) = omega (arith, there.0, length-pages hs', ap length same) in
        let here : slice_index (pages_in (pages_of hs)) i ≡ p =
        ap (λ es. slice_index (pages_in es) i) (sym same) ∙ page-number hs' i h there.0 ∙ ap (λ (x : Held). x.page.0) there.1 ∙ number in
        only-one (pages_in (pages_of hs)) i place p sorted (omega (arith, within, length-numbers (pages_of hs))) (omega (arith, at.within, length-numbers (pages_of hs))) here at.number

-- a page that is not held, or whose frame is shared, gets a fresh one
pub fresh-here : (p : ℕ) (hs : List Held) (fresh fresh' : List Page) (new : Page) → fresh' ≡ fresh ++ new ∷ [] → new.page ≡ p → TakesPage p hs fresh hs fresh'
fresh-here p hs fresh fresh' new is number = record {
  here = λ i h got at none. absurd (gone.1 p none (sym number));
  still = λ q before i h got at none. before i h got at (gone.0 q none);
}
  where
    split : (q : ℕ) → entry q fresh' ≡ None → (entry q fresh ≡ None) × (cond (q == new.page) (Some new) None ≡ None)
    split q none = or_entry-none (entry q fresh) (cond (q == new.page) (Some new) None) (sym (entry-snoc q fresh new) ∙ ap (entry q) (sym is) ∙ none)

    gone : ((q : ℕ) → entry q fresh' ≡ None → entry q fresh ≡ None) × ((q : ℕ) → entry q fresh' ≡ None → q ≢ new.page)
    gone = (λ q none. (split q none).0, λ q none. none-other q new (split q none).1)

-- what is taken once page p is done with
pub taken-more : (ws rest : List Write) (f : Write) (hs hs' : List Held) (fresh fresh' : List Page) (more : List Write) → more ≡ beyond (f.at / 64) rest → TakesPage (f.at / 64) hs fresh hs' fresh'
    → ((q : ℕ) → touches q ws ≡ true → touches q rest ≡ false → AtHand hs fresh q)
    → (q : ℕ) → touches q ws ≡ true → touches q more ≡ false → AtHand hs' fresh' q
taken-more ws rest f hs hs' fresh fresh' more left takes before q t off =
    ⊎_elim
    (λ same. subst (λ n. AtHand hs' fresh' n) (sym same) takes.here)
    (λ ne. takes.still q (before q t (touches-beyond (f.at / 64) q rest ne ∙ ap (touches q) (sym left) ∙ off)))
    (cases_eq q (f.at / 64))

-- a page whose words are taken out is as before
pub taken-set : (hs : List Held) (i : ℕ) (h h' : Held) → i < length hs → h ≡ get_or hs i h → page_of h' ≡ page_of h → pages_of (slice_set hs i h') ≡ pages_of hs
taken-set [] i h h' within is same = absurd (omega (arith, within))
taken-set (x ∷ xs) zero h h' within is same = ap (λ e. e ∷ pages_of xs) (same ∙ ap page_of is)
taken-set (x ∷ xs) (suc i) h h' within is same = ap (λ es. page_of x ∷ es) (taken-set xs i h h' (omega (arith, within)) is same)

pub taken-at : (hs : List Held) (place : ℕ) (h' : Held) → is_taken h'.content ≡ true → TakenAt place hs (slice_set hs place h')
taken-at hs place h' taken = λ i h got.
    let set = get-set hs place h' i h got in
    (λ here. ap (λ (x : Held). is_taken x.content) (sym (set.0 here)) ∙ taken, set.1)

-- the page at the place of page p has its number
pub page-at-place : (hs : List Held) (i : ℕ) (h : Held) (p : ℕ) → slice_get hs i ≡ Some h → IsPlace p (pages_of hs) i → h.page.0 ≡ p
page-at-place hs i h p got at =
    let there = get-is hs i h got in
    sym (page-number hs i h there.0 ∙ ap (λ (x : Held). x.page.0) there.1) ∙ at.number
