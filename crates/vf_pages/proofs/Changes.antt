-- What a refused change leaves.
use Rattle.std.proofs.Common.{◌≡◌, ◌≢◌, ℕ, ◌+◌, ◌/◌, ◌<◌, ◌≤◌, true, List, [], ◌∷◌, length, map, refl, sym, ap, ap₂, ◌∙◌, arith, eq-eqb, ne_eqb, subst, ⊎_elim}
use Rattle.std.specs.Prelude.{Option}
use Rattle.std.proofs.lemmas.Bool.{cases_eq}
use Rattle.vf_base.specs.declared.write.Write.{Write}
use Rattle.vf_frames.specs.declared.holder.Holder.{Holder}
use Rattle.vf_frames.specs.Numbers.{rises}
use Rattle.vf_frames.specs.Holders.{Accounts, Keeps}
use Rattle.vf_frames.specs.Calls.{NoWin, NotesGrow, SameRest}
use Rattle.vf_pages.specs.declared.gather.Lack.{Lack}
use Rattle.vf_pages.specs.declared.gather.Lack.TheVariants.{Frame, Memory}
use Rattle.vf_pages.specs.declared.refusal.PageRefusal.{PageRefusal}
use Rattle.vf_pages.specs.declared.refusal.PageRefusal.TheVariants as refusal
use Rattle.vf_pages.specs.Pages.{Page, Owns, Covers, Gives, IsHeld}
use Rattle.vf_pages.specs.Writes.{address, with_page, written_pages, AreWrites}
use Rattle.vf_pages.specs.Needs.{new_pages}
use Rattle.vf_pages.specs.Gathered.{Short, ShortNotes, Unmade, OnLack}
use Rattle.vf_pages.specs.Calls.{IsShort, ShortAmong, IsUnmade, OnRefusal}
use Rattle.vf_pages.proofs.Entries.{rises-parts, rises-from, rises-less}
use Rattle.vf_frames.proofs.CallerLemmas.{notes-then, wins-append, any-left, rest-then}
use Rattle.vf_pages.proofs.Counting.{beyond-budget}
use Rattle.vf_pages.specs.declared.held.Held.{Held}
use Rattle.vf_pages.specs.Views.{pages_of}
use Rattle.vf_pages.proofs.Lookups.{length-pages}

-- the pages that writes fall on rise
with_page-rises : (p limit : ℕ) (qs : List ℕ) → rises p limit qs ≡ true → p < limit → rises p limit (with_page p qs) ≡ true
with_page-rises p limit [] r h = rises-from p limit p [] (omega arith) h refl
with_page-rises p limit (q ∷ qs) r h =
    let parts = rises-parts p limit q qs r in
    ⊎_elim
    (λ same. ap (rises p limit) (here p q qs same) ∙ r)
    (λ ne. ap (rises p limit) (ahead p q qs ne) ∙ rises-from p limit p (q ∷ qs) (omega arith) h (rises-from (p + 1) limit q qs (omega (arith, parts.0)) parts.1 parts.2))
    (cases_eq p q)
  where
    here : (p q : ℕ) (qs : List ℕ) → p ≡ q → with_page p (q ∷ qs) ≡ q ∷ qs
    here p q qs e = rw (eq-eqb p q e) refl

    ahead : (p q : ℕ) (qs : List ℕ) → p ≢ q → with_page p (q ∷ qs) ≡ p ∷ (q ∷ qs)
    ahead p q qs ne = rw (ne_eqb p q ne) refl

pub written_pages-rise : (low limit : ℕ) (ws : List Write) → rises low limit (map address ws) ≡ true → rises (low / 64) (limit / 64 + 1) (written_pages ws) ≡ true
written_pages-rise low limit [] r = refl
written_pages-rise low limit (w ∷ ws) r =
    let parts = rises-parts low limit w.at (map address ws) r in
    let later = rises-less (w.at / 64) ((w.at + 1) / 64) (limit / 64 + 1) (written_pages ws) (omega arith) (written_pages-rise (w.at + 1) limit ws parts.2) in
    rises-less (low / 64) (w.at / 64) (limit / 64 + 1) (with_page (w.at / 64) (written_pages ws)) (omega (arith, parts.0))
    (with_page-rises (w.at / 64) (limit / 64 + 1) (written_pages ws) later (omega (arith, parts.1)))

pub owns-covers : (pages fresh : List Page) (frames : List ℕ) → Owns pages fresh frames → Covers fresh frames
owns-covers pages fresh frames owns f = omega (arith, owns f)

pub gives-held : (pages fresh : List Page) (frames left : List ℕ) → Owns pages fresh frames → Gives fresh frames left → IsHeld pages left
gives-held pages fresh frames left owns gives f = omega (arith, owns f, gives f)

-- as many pages are counted in memory
pub count-same : (hs : List Held) (pages : List Page) (ps : List ℕ) → pages_of hs ≡ pages → length hs + new_pages (pages_of hs) ps ≡ length pages + new_pages pages ps
count-same hs pages ps same = ap₂ (λ a b. a + b) (sym (length-pages hs) ∙ ap length same) (ap (λ es. new_pages es ps) same)

module _ (pages : List Page) (ws : List Write) (a0 : Option (List ℕ)) (start : Holder) (a : Option (List ℕ)) (now : Holder) (fresh : List Page) where
  pub lack-owns : (lack : Lack) → OnLack lack (Short pages ws a0 start a now fresh) (Unmade pages a0 start a now fresh) → Owns pages fresh now.frames
  lack-owns Frame s = s.owns
  lack-owns Memory u = u.owns

  pub lack-name : (lack : Lack) → OnLack lack (Short pages ws a0 start a now fresh) (Unmade pages a0 start a now fresh) → now.name ≡ start.name
  lack-name Frame s = s.name
  lack-name Memory u = u.rest.name

  pub lack-accounts : (lack : Lack) → OnLack lack (Short pages ws a0 start a now fresh) (Unmade pages a0 start a now fresh) → Keeps a0 (start ∷ []) a (now ∷ [])
  lack-accounts Frame s = s.accounts
  lack-accounts Memory u = u.accounts

  short-left : (k : ℕ) (last : Holder) (zero : List ℕ) → k ≡ length pages + new_pages pages (written_pages ws) → SameRest now last → NotesGrow NoWin now.notes last.notes → Short pages ws a0 start a now fresh
      → IsShort k ws (record { zero = zero; pages = pages; holder = start }) (record { zero = zero; pages = pages; holder = last })
  short-left k last zero number rest notes s = record {
    number = number;
    misses = rest.misses ∙ s.misses;
    parts = rest.parts ∙ s.parts;
    name = rest.name ∙ s.name;
    notes = notes-then (ShortNotes start.name.frames (length (written_pages ws))) NoWin (ShortNotes start.name.frames (length (written_pages ws))) start.notes now.notes last.notes s.notes notes
        (λ xs ys x y. record {
          few = omega (arith, wins-append xs ys, x.few, y);
          each = λ f lt. any-left (λ n. (n.frame ≡ f) × (1 ≤ n.seen)) xs ys (x.each f lt);
        });
  }

  pub unmade-left : (last : Holder) (zero : List ℕ) → SameRest now last → NotesGrow NoWin now.notes last.notes → Unmade pages a0 start a now fresh
      → IsUnmade (record { zero = zero; pages = pages; holder = start }) (record { zero = zero; pages = pages; holder = last })
  unmade-left last zero rest notes u = record {
    rest = rest-then start now last u.rest rest;
    notes = notes-then (λ _. Unit {0}) NoWin (λ _. Unit {0}) start.notes now.notes last.notes u.notes notes (λ xs ys x y. tt);
  }

  pub refused-left : (lack : Lack) (why : PageRefusal) (k : ℕ) (last : Holder) (zero : List ℕ)
      → k ≡ length pages + new_pages pages (written_pages ws)
      → OnLack lack (Short pages ws a0 start a now fresh) (Unmade pages a0 start a now fresh)
      → OnLack lack (why ≡ refusal.Short k) (why ≡ refusal.Memory)
      → SameRest now last → NotesGrow NoWin now.notes last.notes
      → OnRefusal why
      (λ k. IsShort k ws (record { zero = zero; pages = pages; holder = start }) (record { zero = zero; pages = pages; holder = last }))
      (IsUnmade (record { zero = zero; pages = pages; holder = start }) (record { zero = zero; pages = pages; holder = last }))
  refused-left Frame why k last zero number s is rest notes =
      subst (λ (r : PageRefusal). OnRefusal r
      (λ k. IsShort k ws (record { zero = zero; pages = pages; holder = start }) (record { zero = zero; pages = pages; holder = last }))
      (IsUnmade (record { zero = zero; pages = pages; holder = start }) (record { zero = zero; pages = pages; holder = last })))
      (sym is) (short-left k last zero number rest notes s)
  refused-left Memory why k last zero number u is rest notes =
      subst (λ (r : PageRefusal). OnRefusal r
      (λ k. IsShort k ws (record { zero = zero; pages = pages; holder = start }) (record { zero = zero; pages = pages; holder = last }))
      (IsUnmade (record { zero = zero; pages = pages; holder = start }) (record { zero = zero; pages = pages; holder = last })))
      (sym is) (unmade-left last zero rest notes u)

  pub refused-among : (lack : Lack) (why : PageRefusal) (k : ℕ) (zero : List ℕ) (count : ℕ)
      → k ≡ length pages + new_pages pages (written_pages ws)
      → AreWrites count ws → IsHeld pages start.frames
      → OnLack lack (Short pages ws a0 start a now fresh) (Unmade pages a0 start a now fresh)
      → OnLack lack (why ≡ refusal.Short k) (why ≡ refusal.Memory)
      → (others : List Holder) → Accounts a0 (start ∷ others)
      → OnRefusal why (λ k. ShortAmong k ws (record { zero = zero; pages = pages; holder = start }) others) (Unit {0})
  refused-among Frame why k zero count number r held s is others c =
      subst (λ (x : PageRefusal). OnRefusal x (λ k. ShortAmong k ws (record { zero = zero; pages = pages; holder = start }) others) (Unit {0}))
      (sym is) (record {
        lacking = s.lacking others c;
        beyond = omega (
          arith,
          number,
          beyond-budget start.name.frames start others pages (written_pages ws) 0 (count / 64 + 1) held
              (rises-less 0 (0 / 64) (count / 64 + 1) (written_pages ws) (omega arith) (written_pages-rise 0 count ws r)) (s.lacking others c),
        );
      })
  refused-among Memory why k zero count number r held u is others c =
      subst (λ (x : PageRefusal). OnRefusal x (λ k. ShortAmong k ws (record { zero = zero; pages = pages; holder = start }) others) (Unit {0})) (sym is) tt
