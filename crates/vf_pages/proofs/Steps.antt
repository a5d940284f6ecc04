-- What is gathered, one page on.
use Rattle.std.proofs.Common.{◌≡◌, ℕ, ◌+◌, ◌/◌, ◌<◌, ◌≤◌, true, false, cond, ◌==◌, List, [], ◌∷◌, ◌++◌, length, refl, sym, ap, ap₂, ◌∙◌, arith, eq-eqb, ⊎_elim, ◌⊎◌, inl, inr, subst}
use Rattle.std.specs.Prelude.{Option, Some, None}
use Rattle.std.specs.List.{Any}
use Rattle.std.proofs.lemmas.Bool.{or_cases, or_left, or_right, false_from_ne_true}
use Rattle.std.proofs.lemmas.List.{length_push}
use Rattle.std.proofs.lemmas.List.Elements.{All-head}
use Rattle.vf_base.specs.declared.write.Write.{Write}
use Rattle.vf_frames.specs.declared.holder.Note.{Note}
use Rattle.vf_frames.specs.declared.holder.Name.{Name}
use Rattle.vf_frames.specs.declared.holder.Holder.{Holder}
use Rattle.vf_frames.specs.Numbers.{has, rises}
use Rattle.vf_frames.specs.Holders.{total, count, one_if_has, Accounts, Keeps}
use Rattle.vf_frames.specs.Calls.{capped, wins, NotesWin, NotesLook, NotesMiss, Looked}
use Rattle.vf_pages.specs.Pages.{Page, entry, or_entry, old_words, occurs, frames_in, pages_in, IsHeld, page_limit}
use Rattle.vf_pages.specs.Writes.{touches, written, written_pages, after, AllOn, AllBefore}
use Rattle.vf_pages.specs.Needs.{need, needs_frame, free_frames}
use Rattle.vf_pages.specs.Gathered.{Gathered, GatherNotes, Added, NoFrame, Short, ShortNotes, Unmade}
use Rattle.vf_pages.proofs.Words.{touches-append, written-append, written-untouched, after-same}
use Rattle.vf_pages.proofs.Groups.{touches-AllOn, written_pages-append, written_pages-AllOn}
use Rattle.vf_frames.proofs.CallerLemmas.{notes-then, notes-weaker, notes-none, wins-append, any-left, any-right, any-one, rest-then, keeps-then}
use Rattle.vf_pages.proofs.Frames.{gain-one, one_if-has, occurs-snoc, free-same, free-none, free-gain, need-append, needs-shared, needs-alone, entry-snoc, or_entry-cases, or_entry-none, this-or-none, rises-snoc, none-other}

-- writes of page p leave an earlier page, and earlier writes leave page p
later-same : (done own : List Write) (p q : ℕ) (words : List ℕ) → AllOn p own → q < p → after done q words ≡ after (done ++ own) q words
later-same done own p q words on lt =
    after-same done (done ++ own) q words (λ a old at.
    sym (written-append done own a old ∙ written-untouched own a (written done a old)
    (false_from_ne_true (touches (a / 64) own) (λ t. absurd (omega (arith, touches-AllOn p (a / 64) own on t, at))))))

earlier-same : (done own : List Write) (p : ℕ) (words : List ℕ) → AllBefore done p → after own p words ≡ after (done ++ own) p words
earlier-same done own p words before =
    after-same own (done ++ own) p words (λ a old at.
    sym (written-append done own a old ∙ ap (written own a) (written-untouched done a old
    (false_from_ne_true (touches (a / 64) done) (λ t. absurd (omega (arith, before (a / 64) t, at)))))))

one-more : (done : List Write) (w : Write) (ws : List Write) (p : ℕ) → AllOn p (w ∷ ws) → AllBefore done p → written_pages (done ++ (w ∷ ws)) ≡ written_pages done ++ p ∷ []
one-more done w ws p on before =
    written_pages-append done (w ∷ ws) (λ q r t u. omega (arith, before q t, touches-AllOn p r (w ∷ ws) on u))
    ∙ ap (λ ps. written_pages done ++ ps) (written_pages-AllOn p w ws on)

module _ (zero : List ℕ) (pages : List Page) (done : List Write) (a0 : Option (List ℕ)) (before : Holder) (a : Option (List ℕ)) (now : Holder) (fresh : List Page) where
  -- no fresh page is there for a later one
  pub not-fresh : (p : ℕ) → AllBefore done p → Gathered zero pages done a0 before a now fresh → entry p fresh ≡ None
  not-fresh p first g = none_from (entry p fresh) (λ e found. absurd (omega (arith, first p (g.made p e found).0)))
    where
      none_from : (o : Option Page) → ((e : Page) → o ≡ Some e → ⊥) → o ≡ None
      none_from None h = refl
      none_from (Some e) h = absurd (h e refl)

  -- a held page whose frame is found alone
  pub step-alone : (p : ℕ) (w : Write) (ws : List Write) (o : Page) (a' : Option (List ℕ)) (now' : Holder)
      → AllOn p (w ∷ ws) → AllBefore done p → entry p pages ≡ Some o
      → Looked o.frame true now now' → Keeps a (now ∷ []) a' (now' ∷ [])
      → ((others : List Holder) → Accounts a (now ∷ others) → count o.frame (now ∷ others) ≡ 1) → has o.frame now.frames ≡ true
      → Gathered zero pages done a0 before a now fresh → Gathered zero pages (done ++ (w ∷ ws)) a0 before a' now' fresh
  step-alone p w ws o a' now' on first held look keeps alone there g =
      let own : List Write = w ∷ ws in
      let none = not-fresh p first g in
      let cases : (q : ℕ) → touches q (done ++ own) ≡ true → (touches q done ≡ true) ⊎ (touches q own ≡ true) = λ q t. or_cases (touches q done) (touches q own) (sym (touches-append q done own) ∙ t) in
      let grown = one-more done w ws p on first in
      let same_count : (n : ℕ) (others : List Holder) → count n (now' ∷ others) ≡ count n (now ∷ others) = λ n others. ap (λ fs. cond {A = ℕ} (has n fs) 1 0 + total (one_if_has n) others) look.frames in
      record {
        sorted = g.sorted;
        made = λ q e found. let was = g.made q e found in
            (touches-append q done own ∙ or_left (touches q done) (touches q own) was.0, was.1 ∙ later-same done own p q (old_words zero q (entry q pages)) on (first q was.0));
        kept = λ q t missing. ⊎_elim
            (λ d. g.kept q d missing)
            (λ u. (o, ap (λ n. entry n pages) (touches-AllOn p q own on u) ∙ held))
            (cases q t);
        owns = λ n. g.owns n ∙ ap (λ fs. cond {A = ℕ} (has n fs) 1 0) (sym look.frames);
        rest = rest-then before now now' g.rest look.rest;
        accounts = keeps-then a0 a a' before now now' g.accounts keeps;
        notes = notes-then (GatherNotes pages done fresh) (NotesLook o.frame true) (GatherNotes pages (done ++ own) fresh) before.notes now.notes now'.notes g.notes look.notes
            (λ xs ys x y. let seen = y.alone.0 refl in record {
              won = omega (arith, wins-append xs ys, x.won, ap wins y.is);
              alone = λ q e t found. ⊎_elim
                  (λ d. any-left (λ n. (n.frame ≡ e.frame) × (n.seen ≡ 1)) xs ys (x.alone q e d found))
                  (λ u.
                  let at = touches-AllOn p q own on u in
                  let is : Some o ≡ Some e = sym (ap₂ or_entry none held) ∙ sym (ap (λ n. or_entry (entry n fresh) (entry n pages)) at) ∙ found in
                  let same : o ≡ e = cc in
                  any-right (λ n. (n.frame ≡ e.frame) × (n.seen ≡ 1)) xs ys
                  (subst (λ zs. Any (λ (n : Note). (n.frame ≡ e.frame) × (n.seen ≡ 1)) zs) (sym y.is)
                  (any-one (λ n. (n.frame ≡ e.frame) × (n.seen ≡ 1)) _ (ap (λ (x : Page). x.frame) same, seen))))
                  (cases q t);
            });
        counted = λ others c0.
            let c = g.counted others c0 in
            let one = alone others (g.accounts others c0) in
            let own_one = one_if-has o.frame now there in
            let none_else : count o.frame others ≡ 0 = omega arith in
            record {
              kept_alone = λ q e t missing found. ⊎_elim
                  (λ d. c.kept_alone q e d missing found)
                  (λ u.
                  let is : Some o ≡ Some e = sym held ∙ sym (ap (λ n. entry n pages) (touches-AllOn p q own on u)) ∙ found in
                  let same : o ≡ e = cc in
                  ap (λ (x : Page). count x.frame others) (sym same) ∙ none_else)
                  (cases q t);
              fresh_alone = c.fresh_alone;
              was_shared = c.was_shared;
              needed =
                  let split = ap (need others pages) grown ∙ need-append others pages (written_pages done) (p ∷ []) in
                  let nothing = ap (needs_frame others) held ∙ needs-alone others o none_else in
                  omega (arith, c.needed, split, nothing);
              taken = omega (arith, c.taken, free-same before.name.frames (now' ∷ others) (now ∷ others) (λ n _. same_count n others));
            };
        few = omega (arith, g.few, ap length grown, length_push (written_pages done) p);
      }

  -- a look at a frame that is shared changes notes alone
  pub step-look : (f : ℕ) (a' : Option (List ℕ)) (now' : Holder) → Looked f false now now' → Keeps a (now ∷ []) a' (now' ∷ [])
      → Gathered zero pages done a0 before a now fresh → Gathered zero pages done a0 before a' now' fresh
  step-look f a' now' look keeps g = record {
    sorted = g.sorted;
    made = g.made;
    kept = g.kept;
    owns = λ n. g.owns n ∙ ap (λ fs. cond {A = ℕ} (has n fs) 1 0) (sym look.frames);
    rest = rest-then before now now' g.rest look.rest;
    accounts = keeps-then a0 a a' before now now' g.accounts keeps;
    notes = notes-then (GatherNotes pages done fresh) (NotesLook f false) (GatherNotes pages done fresh) before.notes now.notes now'.notes g.notes look.notes
        (λ xs ys x y. record {
          won = omega (arith, wins-append xs ys, x.won, ap wins y.is);
          alone = λ q e t found. any-left (λ n. (n.frame ≡ e.frame) × (n.seen ≡ 1)) xs ys (x.alone q e t found);
        });
    counted = λ others c0. let c = g.counted others c0 in record {
      kept_alone = c.kept_alone;
      fresh_alone = c.fresh_alone;
      was_shared = c.was_shared;
      needed = c.needed;
      taken = omega (
        arith,
        c.taken,
        free-same before.name.frames (now' ∷ others) (now ∷ others)
            (λ n _. ap (λ fs. cond {A = ℕ} (has n fs) 1 0 + total (one_if_has n) others) look.frames),
      );
    };
    few = g.few;
  }

  -- a page that needs a frame
  abbrev pub NeedsFrame : ℕ → Type 0
  NeedsFrame p = (entry p pages ≡ None) ⊎ ((o : Page) × (entry p pages ≡ Some o) × ((others : List Holder) → Accounts a0 (before ∷ others) → 1 ≤ count o.frame others))

  needs-one : (p : ℕ) → NeedsFrame p → (others : List Holder) → Accounts a0 (before ∷ others) → needs_frame others (entry p pages) ≡ 1
  needs-one p needs others c0 =
      ⊎_elim
      (λ new. ap (needs_frame others) new)
      (λ shared. ap (needs_frame others) shared.1 ∙ needs-shared others shared.0 (shared.2 others c0))
      needs

  -- a fresh page in a claimed frame
  pub step-add : (p : ℕ) (w : Write) (ws : List Write) (words : List ℕ) (a' : Option (List ℕ)) (now' : Holder) (fresh' : List Page)
      → AllOn p (w ∷ ws) → AllBefore done p → p < page_limit → NeedsFrame p
      → words ≡ after (w ∷ ws) p (old_words zero p (entry p pages))
      → Added p words a now now' fresh fresh' → Keeps a (now ∷ []) a' (now' ∷ [])
      → Gathered zero pages done a0 before a now fresh → Gathered zero pages (done ++ (w ∷ ws)) a0 before a' now' fresh'
  step-add p w ws words a' now' fresh' on first below needs are added keeps g =
      let own : List Write = w ∷ ws in
      let new : Page = record { page = p; frame = added.frame; words = words } in
      let none = not-fresh p first g in
      let cases : (q : ℕ) → touches q (done ++ own) ≡ true → (touches q done ≡ true) ⊎ (touches q own ≡ true) = λ q t. or_cases (touches q done) (touches q own) (sym (touches-append q done own) ∙ t) in
      let grown = one-more done w ws p on first in
      let found_in : (q : ℕ) (e : Page) → entry q fresh' ≡ Some e → (entry q fresh ≡ Some e) ⊎ ((q ≡ p) × (new ≡ e)) = λ q e found.
      ⊎_elim
      (λ old. inl old)
      (λ last. inr (this-or-none q new e last.1))
      (or_entry-cases (entry q fresh) (cond (q == p) (Some new) None) e (sym (entry-snoc q fresh new) ∙ ap (entry q) (sym added.is) ∙ found)) in
      let not_there : (q : ℕ) → entry q fresh' ≡ None → (entry q fresh ≡ None) × (cond (q == p) (Some new) None ≡ None) = λ q missing.
      or_entry-none (entry q fresh) (cond (q == p) (Some new) None) (sym (entry-snoc q fresh new) ∙ ap (entry q) (sym added.is) ∙ missing) in
      record {
        sorted = ap (λ es. rises 0 page_limit (pages_in es)) added.is ∙ rises-snoc 0 page_limit fresh new g.sorted (omega arith) below (λ q o found. first q (g.made q o found).0);
        made = λ q e found. ⊎_elim
            (λ old. let was = g.made q e old in
            (touches-append q done own ∙ or_left (touches q done) (touches q own) was.0, was.1 ∙ later-same done own p q (old_words zero q (entry q pages)) on (first q was.0)))
            (λ last. (
              touches-append q done own ∙ or_right (touches q done) (touches q own) (or_left (q == w.at / 64) (touches q ws) (eq-eqb q (w.at / 64) (last.0 ∙ sym (All-head (λ (w : Write). w.at / 64 ≡ p) w ws on)))),
              ap (λ (x : Page). x.words) (sym last.1) ∙ are ∙ earlier-same done own p (old_words zero p (entry p pages)) first
                  ∙ ap (λ n. after (done ++ own) n (old_words zero n (entry n pages))) (sym last.0),
            ))
            (found_in q e found);
        kept = λ q t missing. let m = not_there q missing in ⊎_elim
            (λ d. g.kept q d m.0)
            (λ u. absurd (none-other q new m.1 (touches-AllOn p q own on u)))
            (cases q t);
        owns = λ n. omega (arith, g.owns n, gain-one added.frame now.frames now'.frames added.claimed.frames n, occurs-snoc n fresh new, ap (λ es. occurs n (frames_in es)) added.is);
        rest = rest-then before now now' g.rest added.claimed.rest;
        accounts = keeps-then a0 a a' before now now' g.accounts keeps;
        notes = notes-then (GatherNotes pages done fresh) (NotesWin added.frame) (GatherNotes pages (done ++ own) fresh') before.notes now.notes now'.notes g.notes added.claimed.notes
            (λ xs ys x y.
            let win : List Note = record { frame = added.frame; seen = 1; won = true } ∷ [] in
            record {
              won = omega (arith, wins-append xs ys, x.won, ap wins y.is, wins-append y.lost win, y.none_won, ap length added.is, length_push fresh new);
              alone = λ q e t found. ⊎_elim
                  (λ there. ⊎_elim
                  (λ old. any-left (λ n. (n.frame ≡ e.frame) × (n.seen ≡ 1)) xs ys (x.alone q e (g.made q e old).0 (ap (λ o. or_entry o (entry q pages)) old)))
                  (λ last. any-right (λ n. (n.frame ≡ e.frame) × (n.seen ≡ 1)) xs ys
                  (subst (λ zs. Any (λ (n : Note). (n.frame ≡ e.frame) × (n.seen ≡ 1)) zs) (sym y.is)
                  (any-right (λ n. (n.frame ≡ e.frame) × (n.seen ≡ 1)) y.lost win
                  (any-one (λ n. (n.frame ≡ e.frame) × (n.seen ≡ 1)) _ (ap (λ (x : Page). x.frame) last.1, refl)))))
                  (found_in q e there))
                  (λ other. let m = not_there q other.0 in ⊎_elim
                  (λ d. any-left (λ n. (n.frame ≡ e.frame) × (n.seen ≡ 1)) xs ys (x.alone q e d (ap (λ o. or_entry o (entry q pages)) m.0 ∙ other.1)))
                  (λ u. absurd (none-other q new m.1 (touches-AllOn p q own on u)))
                  (cases q t))
                  (or_entry-cases (entry q fresh') (entry q pages) e found);
            });
        counted = λ others c0.
            let c = g.counted others c0 in
            let unheld = added.unheld others (g.accounts others c0) in
            let none_else : count added.frame others ≡ 0 = omega arith in
            record {
              kept_alone = λ q o t missing found. let m = not_there q missing in ⊎_elim
                  (λ d. c.kept_alone q o d m.0 found)
                  (λ u. absurd (none-other q new m.1 (touches-AllOn p q own on u)))
                  (cases q t);
              fresh_alone = λ q e found. ⊎_elim
                  (λ old. c.fresh_alone q e old)
                  (λ last. ap (λ (x : Page). count x.frame others) (sym last.1) ∙ none_else)
                  (found_in q e found);
              was_shared = λ q e o found was. ⊎_elim
                  (λ old. c.was_shared q e o old was)
                  (λ last.
                  let here : entry p pages ≡ Some o = ap (λ n. entry n pages) (sym last.0) ∙ was in
                  ⊎_elim
                  (λ none. absurd (none_some o (sym none ∙ here)))
                  (λ shared. subst (λ (x : Page). 1 ≤ count x.frame others) (some_same shared.0 o (sym shared.1 ∙ here)) (shared.2 others c0))
                  needs)
                  (found_in q e found);
              needed =
                  let split = ap (need others pages) grown ∙ need-append others pages (written_pages done) (p ∷ []) in
                  omega (arith, c.needed, split, needs-one p needs others c0, ap length added.is, length_push fresh new);
              taken =
                  let named = ap (λ (n : Name). n.frames) g.rest.name in
                  omega (
                    arith,
                    c.taken,
                    ap length added.is,
                    length_push fresh new,
                    free-gain before.name.frames added.frame now now' others (omega (arith, added.within, named)) unheld added.claimed.frames,
                  );
            };
        few = omega (arith, g.few, ap length grown, length_push (written_pages done) p, ap length added.is, length_push fresh new);
      }
    where
      none_some : (o : Page) → None ≡ Some o → ⊥
      none_some o h = cc

      some_same : (x o : Page) → Some x ≡ Some o → x ≡ o
      some_same x o h = cc

  -- no frame is free for a page that needs one
  pub step-short : (p : ℕ) (w : Write) (ws : List Write) (a' : Option (List ℕ)) (now' : Holder) (fresh' : List Page)
      → AllOn p (w ∷ ws) → AllBefore done p → NeedsFrame p → fresh' ≡ fresh
      → NoFrame a now now' → Keeps a (now ∷ []) a' (now' ∷ [])
      → Gathered zero pages done a0 before a now fresh → Short pages (done ++ (w ∷ ws)) a0 before a' now' fresh'
  step-short p w ws a' now' fresh' on first needs same none keeps g =
      let grown = one-more done w ws p on first in
      let missed = none.missed in
      let named = ap (λ (n : Name). n.frames) g.rest.name in
      record {
        owns = λ n. ap (λ es. occurs n (frames_in pages) + occurs n (frames_in es)) same ∙ g.owns n ∙ ap (λ fs. cond {A = ℕ} (has n fs) 1 0) (sym missed.frames);
        misses = missed.misses ∙ ap (λ n. capped (n + 1)) g.rest.misses;
        parts = missed.parts ∙ g.rest.parts;
        name = missed.name ∙ g.rest.name;
        accounts = keeps-then a0 a a' before now now' g.accounts keeps;
        notes = notes-then (GatherNotes pages done fresh) (NotesMiss now.name.frames) (ShortNotes before.name.frames (length (written_pages (done ++ (w ∷ ws))))) before.notes now.notes now'.notes g.notes missed.notes
            (λ xs ys x y. record {
              few = omega (arith, wins-append xs ys, x.won, y.none_won, g.few, ap length grown, length_push (written_pages done) p);
              each = λ f lt. any-right (λ n. (n.frame ≡ f) × (1 ≤ n.seen)) xs ys (y.each f (omega (arith, named)));
            });
        lacking = λ others c0.
            let c = g.counted others c0 in
            let split = ap (need others pages) grown ∙ need-append others pages (written_pages done) (p ∷ []) in
            let full = free-none now.name.frames (now ∷ others) (none.full others (g.accounts others c0)) in
            let empty : free_frames before.name.frames (now ∷ others) ≡ 0 = ap (λ n. free_frames n (now ∷ others)) (sym named) ∙ full in
            omega (arith, c.needed, c.taken, split, needs-one p needs others c0, empty);
      }

  pub step-unmade : (fresh' : List Page) → fresh' ≡ fresh → Gathered zero pages done a0 before a now fresh → Unmade pages a0 before a now fresh'
  step-unmade fresh' same g = record {
    owns = λ n. ap (λ es. occurs n (frames_in pages) + occurs n (frames_in es)) same ∙ g.owns n;
    rest = g.rest;
    accounts = g.accounts;
    notes = notes-weaker (GatherNotes pages done fresh) (λ _. Unit {0}) before.notes now.notes g.notes (λ _ _. tt);
  }

-- nothing is gathered at first
pub gathered-none : (zero : List ℕ) (pages : List Page) (a : Option (List ℕ)) (h : Holder) → IsHeld pages h.frames → Gathered zero pages [] a h a h []
gathered-none zero pages a h held = record {
  sorted = refl;
  made = λ p e found. absurd (cc);
  kept = λ p t missing. absurd (cc);
  owns = λ f. omega (arith, held f);
  rest = record { misses = refl; parts = refl; name = refl };
  accounts = λ others c. c;
  notes = notes-none (GatherNotes pages [] []) h.notes (record { won = refl; alone = λ p e t found. absurd (cc) });
  counted = λ others c. record {
    kept_alone = λ p o t missing found. absurd (cc);
    fresh_alone = λ p e found. absurd (cc);
    was_shared = λ p e o found was. absurd (cc);
    needed = refl;
    taken = omega arith;
  };
  few = omega arith;
}
