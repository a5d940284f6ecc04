-- What is found after fresh pages are put over pages written in place.
use Rattle.std.proofs.Common.{◌≡◌, ℕ, ◌+◌, ◌*◌, ◌/◌, ◌%◌, Bool, true, false, cond, ◌&&◌, ◌||◌, List, [], ◌∷◌, map, slice_index, refl, sym, ap, ap₂, ◌∙◌, arith, ⊎_elim, ◌⊎◌, inl, inr, subst}
use Rattle.std.specs.Prelude.{Option, Some, None, is_some, is_none}
use Rattle.std.proofs.lemmas.Bool.{cases_eq, cases_Bool, both_ways}
use Rattle.std.proofs.lemmas.Option.{same_Some, none-some}
use Rattle.std.proofs.lemmas.List.FromFn.{get_or-map-range_with_len}
use Rattle.vf_base.specs.declared.write.Write.{Write}
use Rattle.vf_frames.specs.declared.holder.Holder.{Holder}
use Rattle.vf_frames.specs.Holders.{count, Accounts}
use Rattle.vf_frames.specs.Calls.{NoWin, NotesGrow, SameRest}
use Rattle.vf_pages.specs.Pages.{Page, pages_in, frames_in, entry, or_entry, frame_at, frame_of, word_at, word_or, old_words}
use Rattle.vf_pages.specs.Writes.{touches, written, after}
use Rattle.vf_pages.specs.Puts.{puts}
use Rattle.vf_pages.specs.InPlace.{in_place}
use Rattle.vf_pages.specs.Gathered.{Gathered, GatherNotes, SeenAlone}
use Rattle.vf_pages.specs.Calls.{EachAlone, Wrote, WroteAmong}
use Rattle.vf_pages.proofs.Entries.{entry-here, entry-other, entry-page}
use Rattle.vf_pages.proofs.Words.{after-at, written-untouched}
use Rattle.vf_pages.proofs.Puts.{puts-entry-none, puts-entry-some}
use Rattle.vf_pages.proofs.InPlaces.{in_place-off, in_place-on}
use Rattle.vf_frames.proofs.CallerLemmas.{notes-then, rest-then, any-left}
use Rattle.vf_pages.proofs.Frames.{or_entry-cases}

-- a page written in place keeps its number and its frame
pub in_place-page : (ws : List Write) (fresh : List Page) (e : Page) → ((in_place ws fresh e).page ≡ e.page) × ((in_place ws fresh e).frame ≡ e.frame)
in_place-page ws fresh e = over (touches e.page ws && is_none (entry e.page fresh)) (after ws e.page e.words) e
  where
    over : (b : Bool) (xs : List ℕ) (e : Page) → ((cond b (record { page = e.page; frame = e.frame; words = xs }) e).page ≡ e.page) × ((cond b (record { page = e.page; frame = e.frame; words = xs }) e).frame ≡ e.frame)
    over true xs e = (refl, refl)
    over false xs e = (refl, refl)

pub pages-in_place : (ws : List Write) (fresh es : List Page) → pages_in (map (in_place ws fresh) es) ≡ pages_in es
pages-in_place ws fresh [] = refl
pages-in_place ws fresh (x ∷ xs) = ap₂ (λ y ys. y ∷ ys) (in_place-page ws fresh x).0 (pages-in_place ws fresh xs)

pub frames-in_place : (ws : List Write) (fresh es : List Page) → frames_in (map (in_place ws fresh) es) ≡ frames_in es
frames-in_place ws fresh [] = refl
frames-in_place ws fresh (x ∷ xs) = ap₂ (λ y ys. y ∷ ys) (in_place-page ws fresh x).1 (frames-in_place ws fresh xs)

entry-in_place-none : (ws : List Write) (fresh es : List Page) (q : ℕ) → entry q es ≡ None → entry q (map (in_place ws fresh) es) ≡ None
entry-in_place-none ws fresh [] q h = refl
entry-in_place-none ws fresh (x ∷ xs) q h =
    ⊎_elim
    (λ same. absurd (none-some x (sym h ∙ entry-here q x xs same)))
    (λ ne. entry-other q (in_place ws fresh x) _ (λ e. ne (e ∙ (in_place-page ws fresh x).0)) ∙ entry-in_place-none ws fresh xs q (sym (entry-other q x xs ne) ∙ h))
    (cases_eq q x.page)

entry-in_place-some : (ws : List Write) (fresh es : List Page) (q : ℕ) (o : Page) → entry q es ≡ Some o → entry q (map (in_place ws fresh) es) ≡ Some (in_place ws fresh o)
entry-in_place-some ws fresh [] q o h = absurd (cc)
entry-in_place-some ws fresh (x ∷ xs) q o h =
    ⊎_elim
    (λ same.
    let is : x ≡ o = same_Some x o (sym (entry-here q x xs same) ∙ h) in
    entry-here q (in_place ws fresh x) _ (same ∙ sym (in_place-page ws fresh x).0) ∙ ap (λ e. Some (in_place ws fresh e)) is)
    (λ ne. entry-other q (in_place ws fresh x) _ (λ e. ne (e ∙ (in_place-page ws fresh x).0)) ∙ entry-in_place-some ws fresh xs q o (sym (entry-other q x xs ne) ∙ h))
    (cases_eq q x.page)

look-up : (q : ℕ) (es : List Page) → (entry q es ≡ None) ⊎ ((e : Page) × (entry q es ≡ Some e))
look-up q es = either (entry q es)
  where
    either : (o : Option Page) → (o ≡ None) ⊎ ((e : Page) × (o ≡ Some e))
    either None = inl refl
    either (Some e) = inr (e, refl)

module _ (zero : List ℕ) (pages : List Page) (ws : List Write) (a0 : Option (List ℕ)) (before : Holder) (a : Option (List ℕ)) (now : Holder) (fresh : List Page) where
  untouched-none : (q : ℕ) → Gathered zero pages ws a0 before a now fresh → touches q ws ≡ false → entry q fresh ≡ None
  untouched-none q g t =
      ⊎_elim (λ none. none) (λ some. absurd (both_ways (touches q ws) t (g.made q some.0 some.1).0)) (look-up q fresh)

  -- a page that no write falls on
  new-untouched : (q : ℕ) → Gathered zero pages ws a0 before a now fresh → touches q ws ≡ false → entry q (puts fresh (map (in_place ws fresh) pages)) ≡ entry q pages
  new-untouched q g t =
      puts-entry-none fresh (map (in_place ws fresh) pages) q (untouched-none q g t)
      ∙ ⊎_elim
      (λ none. entry-in_place-none ws fresh pages q none ∙ sym none)
      (λ some.
      let at = entry-page q pages some.0 some.1 in
      entry-in_place-some ws fresh pages q some.0 some.1 ∙ ap (λ e. Some e) (in_place-off ws fresh some.0 (ap (λ n. touches n ws) at ∙ t)) ∙ sym some.1)
      (look-up q pages)

  -- a page that has a fresh one
  new-fresh : (q : ℕ) (e : Page) → entry q fresh ≡ Some e → entry q (puts fresh (map (in_place ws fresh) pages)) ≡ Some e
  new-fresh q e found = puts-entry-some fresh (map (in_place ws fresh) pages) q e found

  -- a written page that is kept
  new-kept : (q : ℕ) (o : Page) → touches q ws ≡ true → entry q fresh ≡ None → entry q pages ≡ Some o → entry q (puts fresh (map (in_place ws fresh) pages)) ≡ Some (record { page = o.page; frame = o.frame; words = after ws o.page o.words })
  new-kept q o t none found =
      let at = entry-page q pages o found in
      puts-entry-none fresh (map (in_place ws fresh) pages) q none
      ∙ entry-in_place-some ws fresh pages q o found
      ∙ ap (λ e. Some e) (in_place-on ws fresh o (ap (λ n. touches n ws) at ∙ t) (ap (λ n. entry n fresh) at ∙ none))

  -- the words of a written page
  new-words : (q : ℕ) → Gathered zero pages ws a0 before a now fresh → touches q ws ≡ true → (e : Page) × (entry q (puts fresh (map (in_place ws fresh) pages)) ≡ Some e) × (e.words ≡ after ws q (old_words zero q (entry q pages)))
  new-words q g t =
      ⊎_elim
      (λ none.
      let o = g.kept q t none in
      let at = entry-page q pages o.0 o.1 in (
        record { page = o.0.page; frame = o.0.frame; words = after ws o.0.page o.0.words },
        new-kept q o.0 t none o.1,
        ap (λ n. after ws n o.0.words) at ∙ ap (λ e. after ws q (old_words zero q e)) (sym o.1),
      ))
      (λ some. (some.0, new-fresh q some.0 some.1, (g.made q some.0 some.1).1))
      (look-up q fresh)

  old-word : (x : ℕ) (o : Option Page) → slice_index (old_words zero (x / 64) o) (x % 64) ≡ word_or zero x o
  old-word x None =
      get_or-map-range_with_len (λ i. slice_index zero (64 * (x / 64) + i)) 0 64 (x % 64) (x % 64) 0 (omega arith) (omega arith)
      ∙ ap (slice_index zero) (omega arith)
  old-word x (Some e) = refl

  pub new-word : (x : ℕ) → Gathered zero pages ws a0 before a now fresh → word_at zero (puts fresh (map (in_place ws fresh) pages)) x ≡ written ws x (word_at zero pages x)
  new-word x g =
      ⊎_elim
      (λ t.
      let e = new-words (x / 64) g t in
      let whole : 64 * (x / 64) + x % 64 ≡ x = omega arith in
      ap (word_or zero x) e.1 ∙ ap (λ xs. slice_index xs (x % 64)) e.2 ∙ after-at ws (x / 64) (x % 64) (old_words zero (x / 64) (entry (x / 64) pages)) (omega arith)
      ∙ ap₂ (written ws) whole (old-word x (entry (x / 64) pages)))
      (λ f. ap (word_or zero x) (new-untouched (x / 64) g f) ∙ sym (written-untouched ws x (word_at zero pages x) f))
      (cases_Bool (touches (x / 64) ws))

  -- the frame of a written page: that of the fresh one, or the one that it had
  new-frame : (q f : ℕ) → Gathered zero pages ws a0 before a now fresh → touches q ws ≡ true → frame_at q (puts fresh (map (in_place ws fresh) pages)) ≡ Some f → (e : Page) × (or_entry (entry q fresh) (entry q pages) ≡ Some e) × (e.frame ≡ f)
  new-frame q f g t at =
      ⊎_elim
      (λ none.
      let o = g.kept q t none in
      (o.0, ap₂ or_entry none o.1, same_Some o.0.frame f (sym (ap frame_of (new-kept q o.0 t none o.1)) ∙ at)))
      (λ some. (some.0, ap (λ o. or_entry o (entry q pages)) some.1, same_Some some.0.frame f (sym (ap frame_of (new-fresh q some.0 some.1)) ∙ at)))
      (look-up q fresh)

  pub wrote : (last : Holder) → Gathered zero pages ws a0 before a now fresh → SameRest now last → NotesGrow NoWin now.notes last.notes
      → Wrote ws (record { zero = zero; pages = pages; holder = before }) (record { zero = zero; pages = puts fresh (map (in_place ws fresh) pages); holder = last })
  wrote last g rest notes = record {
    words = λ x. new-word x g;
    held = λ q. ⊎_elim
        (λ t. let e = new-words q g t in ap is_some e.1 ∙ sym (ap (λ b. b || is_some (entry q pages)) t))
        (λ f. ap is_some (new-untouched q g f) ∙ sym (ap (λ b. b || is_some (entry q pages)) f))
        (cases_Bool (touches q ws));
    others = λ q f. new-untouched q g f;
    zero = refl;
    rest = rest-then before now last g.rest rest;
    notes = notes-then (GatherNotes pages ws fresh) NoWin (EachAlone ws (puts fresh (map (in_place ws fresh) pages))) before.notes now.notes last.notes g.notes notes
        (λ xs ys x y. λ q f t at.
        let e = new-frame q f g t at in
        any-left (λ n. (n.frame ≡ f) × (n.seen ≡ 1)) xs ys (subst (λ n. SeenAlone xs n) e.2 (x.alone q e.0 t e.1)));
  }

  pub wrote-among : (last : Holder) → Gathered zero pages ws a0 before a now fresh → (others : List Holder) → Accounts a0 (before ∷ others)
      → WroteAmong ws (record { zero = zero; pages = pages; holder = before }) (record { zero = zero; pages = puts fresh (map (in_place ws fresh) pages); holder = last }) others
  wrote-among last g others c0 =
      let c = g.counted others c0 in
      record {
        alone = λ q f t at.
            let e = new-frame q f g t at in
            ap (λ n. count n others) (sym e.2) ∙ ⊎_elim
            (λ made. c.fresh_alone q e.0 made)
            (λ kept. c.kept_alone q e.0 t kept.0 kept.1)
            (or_entry-cases (entry q fresh) (entry q pages) e.0 e.1);
        kept = λ q f t at none. ⊎_elim
            (λ gone. absurd (none-some f (sym (ap frame_of gone) ∙ at)))
            (λ some.
            let same : some.0.frame ≡ f = same_Some some.0.frame f (sym (ap frame_of some.1) ∙ at) in
            let lone : count some.0.frame others ≡ 0 = ap (λ n. count n others) same ∙ none in
            ⊎_elim
            (λ missing. ap frame_of (new-kept q some.0 t missing some.1) ∙ ap (λ n. Some n) same)
            (λ made. absurd (omega (arith, c.was_shared q made.0 some.0 made.1 some.1, lone)))
            (look-up q fresh))
            (look-up q pages);
        enough = omega (arith, c.needed, c.taken);
      }
