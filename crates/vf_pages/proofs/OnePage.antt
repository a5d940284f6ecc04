-- Writes of one page that a holder has alone, and notes that come before a change.
use Rattle.std.proofs.Common.{◌≡◌, ℕ, zero, suc, ◌+◌, ◌-◌, ◌/◌, ◌<◌, ◌≤◌, Bool, true, false, cond, List, [], ◌∷◌, length, map, get_or, slice_index, slice_set, refl, sym, ap, ◌∙◌, arith, ⊎_elim}
use Rattle.std.specs.Prelude.{Option, Some, None, slice_get, MatchBool}
use Rattle.std.proofs.lemmas.Bool.{cases_lt}
use Rattle.std.proofs.lemmas.List.{get_or-map, length-map}
use Rattle.vf_base.specs.declared.write.Write.{Write}
use Rattle.vf_frames.specs.declared.holder.Name.{Name}
use Rattle.vf_frames.specs.declared.holder.Holder.{Holder}
use Rattle.vf_frames.specs.Numbers.{has}
use Rattle.vf_frames.specs.Holders.{total, count, one_if_has}
use Rattle.vf_frames.specs.Calls.{capped, wins, NoWin, NotesLook, Looked}
use Rattle.vf_pages.specs.declared.held.Held.{Held}
use Rattle.vf_pages.specs.declared.refusal.PageRefusal.{PageRefusal}
use Rattle.vf_pages.specs.declared.refusal.PageRefusal.TheVariants.{Short, Memory}
use Rattle.vf_pages.specs.Pages.{Page, Pages, IsSorted, IsPlace}
use Rattle.vf_pages.specs.Views.{page_of, pages_of}
use Rattle.vf_pages.specs.Writes.{address, written_pages, AllOn, AreWrites}
use Rattle.vf_pages.specs.Needs.{free_frames}
use Rattle.vf_pages.specs.InPlace.{in_place, rewritten, IsWrittenAt}
use Rattle.vf_pages.specs.Gathered.{Noted, ShortNotes}
use Rattle.vf_pages.specs.Calls.{Wrote, WroteAmong, IsShort, ShortAmong, IsUnmade, OnRefusal, EachAlone}
use Rattle.vf_pages.proofs.Entries.{rises-order}
use Rattle.vf_pages.proofs.Frames.{free-same}
use Rattle.vf_pages.proofs.Groups.{own-all}
use Rattle.vf_pages.proofs.Writing.{written-entry, written-pages, written-more}
use Rattle.vf_pages.proofs.InPlaces.{in_place-none}
use Rattle.vf_frames.proofs.CallerLemmas.{notes-then, notes-weaker, notes-none, wins-append, any-right, rest-then}

pub match-both : {P Q P' Q' : Type 0} (b : Bool) → (P → P') → (Q → Q') → MatchBool b P Q → MatchBool b P' Q'
match-both true f g m = f m
match-both false f g m = g m

get-there : (hs : List Held) (i : ℕ) (h : Held) → i < length hs → h ≡ get_or hs i h → slice_get hs i ≡ Some h
get-there [] i h within is = absurd (omega (arith, within))
get-there (x ∷ xs) zero h within is = ap (λ e. Some e) (sym is)
get-there (x ∷ xs) (suc i) h within is = get-there xs i h (omega (arith, within)) is

-- the page at an index is written
pub written-at : (hs : List Held) (place p : ℕ) (ws : List Write) (h h' : Held) → place < length hs → h ≡ get_or hs place h → page_of h' ≡ rewritten p ws (page_of h) → IsWrittenAt place p ws hs (slice_set hs place h')
written-at hs place p ws h h' within is new = record { old = h; new = h'; was = get-there hs place h within is; is = refl; written = new }

address-at : (ws : List Write) (i : ℕ) (d : Write) → i < length ws → slice_index (map address ws) i ≡ (get_or ws i d).at
address-at ws i d within = get_or-map address ws i d 0 within

-- what stands at an index
pub at-get : (ws : List Write) (i : ℕ) (w : Write) → Some w ≡ slice_get ws i → (i < length ws) × (slice_index (map address ws) i ≡ w.at)
at-get [] i w h = absurd (cc)
at-get (x ∷ xs) zero w h = (omega arith, sym (ap some_at h))
  where
    some_at : Option Write → ℕ
    some_at None = 0
    some_at (Some w) = w.at
at-get (x ∷ xs) (suc i) w h = let rest = at-get xs i w h in (omega (arith, rest.0), rest.1)

-- rising writes of which the first and the last fall on page p all do
pub all-on : (words p : ℕ) (ws : List Write) (f l : Write) → AreWrites words ws → Some f ≡ slice_get ws 0 → f.at / 64 ≡ p → Some l ≡ slice_get ws (length ws - 1) → l.at / 64 ≡ p → AllOn p ws
all-on words p ws f l rising first on last same = λ k d within.
    let xs : List ℕ = map address ws in
    let end : ℕ = length ws - 1 in
    let start = at-get ws 0 f first in
    let stop = at-get ws end l last in
    let here = address-at ws k d within in
    let long = length-map ws address in
    let low : f.at ≤ (get_or ws k d).at = ⊎_elim
    (λ behind. omega (arith, rises-order 0 words xs 0 k 0 rising behind (omega (arith, within, long)), here, start.1))
    (λ at. let zeroth : k ≡ 0 = omega (arith, at) in omega (arith, ap (slice_index xs) zeroth, here, start.1))
    (cases_lt 0 k) in
    let high : (get_or ws k d).at ≤ l.at = ⊎_elim
    (λ before. omega (arith, rises-order 0 words xs k end 0 rising before (omega (arith, stop.0, long)), here, stop.1))
    (λ at. let final : k ≡ end = omega (arith, at, within) in omega (arith, ap (slice_index xs) final, here, stop.1))
    (cases_lt k end) in
    omega (arith, low, high, on, same)

pub noted-none : (h : Holder) → Noted h h
noted-none h = record { frames = refl; rest = record { misses = refl; parts = refl; name = refl }; notes = notes-none NoWin h.notes refl }

pub noted-look : (f : ℕ) (alone : Bool) (before now : Holder) → Looked f alone before now → Noted before now
noted-look f alone before now look = record {
  frames = look.frames;
  rest = look.rest;
  notes = notes-weaker (NotesLook f alone) NoWin before.notes now.notes look.notes (λ xs x. omega (arith, ap wins x.is));
}

-- writes of one page, written at its place
pub written-alone : (words place : ℕ) (ws : List Write) (f : Write) (hs hs' : List Held) → AreWrites words ws → Some f ≡ slice_get ws 0 → IsSorted (pages_of hs) → AllOn (f.at / 64) ws
    → IsPlace (f.at / 64) (pages_of hs) place → IsWrittenAt place (f.at / 64) ws hs hs' → pages_of hs' ≡ map (in_place ws []) (pages_of hs)
written-alone words place ws f hs hs' rising first sorted on at w =
    let p : ℕ = f.at / 64 in
    let all = own-all p ws on in
    written-pages place p ws hs hs' w sorted at
    ∙ sym (in_place-none [] _)
    ∙ written-more words ws f [] (pages_of hs) (page_of w.old) ws [] rising first sorted (sym all.0) (sym all.1) (written-entry place p ws hs hs' w sorted at) refl

module _ (ws : List Write) (words : List ℕ) (pages : List Page) (start now : Holder) (noted : Noted start now) where
  same-count : (n : ℕ) (others : List Holder) → count n (now ∷ others) ≡ count n (start ∷ others)
  same-count n others = ap (λ fs. cond {A = ℕ} (has n fs) 1 0 + total (one_if_has n) others) noted.frames

  same-free : (others : List Holder) → free_frames start.name.frames (start ∷ others) ≡ free_frames now.name.frames (now ∷ others)
  same-free others =
      free-same start.name.frames (start ∷ others) (now ∷ others) (λ n _. sym (same-count n others))
      ∙ ap (λ (m : Name). free_frames m.frames (now ∷ others)) (sym noted.rest.name)

  pub wrote-noted : (new : Pages) → Wrote ws (record { zero = words; pages = pages; holder = now }) new → Wrote ws (record { zero = words; pages = pages; holder = start }) new
  wrote-noted new w = record {
    words = w.words;
    held = w.held;
    others = w.others;
    zero = w.zero;
    rest = rest-then start now new.holder noted.rest w.rest;
    notes = notes-then NoWin (EachAlone ws new.pages) (EachAlone ws new.pages) start.notes now.notes new.holder.notes noted.notes w.notes
        (λ xs ys x y. λ p f t at. any-right (λ n. (n.frame ≡ f) × (n.seen ≡ 1)) xs ys (y p f t at));
  }

  pub among-noted : (new : Pages) (others : List Holder) → WroteAmong ws (record { zero = words; pages = pages; holder = now }) new others → WroteAmong ws (record { zero = words; pages = pages; holder = start }) new others
  among-noted new others w = record { alone = w.alone; kept = w.kept; enough = omega (arith, w.enough, same-free others) }

  short-noted : (k : ℕ) (new : Pages) → IsShort k ws (record { zero = words; pages = pages; holder = now }) new → IsShort k ws (record { zero = words; pages = pages; holder = start }) new
  short-noted k new s = record {
    number = s.number;
    misses = s.misses ∙ ap (λ m. capped (m + 1)) noted.rest.misses;
    parts = s.parts ∙ noted.rest.parts;
    name = s.name ∙ noted.rest.name;
    notes = notes-then NoWin (ShortNotes now.name.frames (length (written_pages ws))) (ShortNotes start.name.frames (length (written_pages ws)))
        start.notes now.notes new.holder.notes noted.notes s.notes
        (λ xs ys x y. record {
          few = omega (arith, wins-append xs ys, x, y.few);
          each = λ f below. any-right (λ n. (n.frame ≡ f) × (1 ≤ n.seen)) xs ys (y.each f (omega (arith, below, ap (λ (m : Name). m.frames) noted.rest.name)));
        });
  }

  pub refused-noted : (new : Pages) (why : PageRefusal)
      → OnRefusal why (λ k. IsShort k ws (record { zero = words; pages = pages; holder = now }) new) (IsUnmade (record { zero = words; pages = pages; holder = now }) new)
      → OnRefusal why (λ k. IsShort k ws (record { zero = words; pages = pages; holder = start }) new) (IsUnmade (record { zero = words; pages = pages; holder = start }) new)
  refused-noted new (Short k) s = short-noted k new s
  refused-noted new Memory u = record {
    rest = rest-then start now new.holder noted.rest u.rest;
    notes = notes-then NoWin (λ _. Unit {0}) (λ _. Unit {0}) start.notes now.notes new.holder.notes noted.notes u.notes (λ xs ys x y. tt);
  }

  pub refused-among-noted : (others : List Holder) (why : PageRefusal)
      → OnRefusal why (λ k. ShortAmong k ws (record { zero = words; pages = pages; holder = now }) others) (Unit {0})
      → OnRefusal why (λ k. ShortAmong k ws (record { zero = words; pages = pages; holder = start }) others) (Unit {0})
  refused-among-noted others (Short k) s = record {
    lacking = omega (arith, s.lacking, same-free others);
    beyond = omega (arith, s.beyond, ap (λ (m : Name). m.frames) noted.rest.name);
  }
  refused-among-noted others Memory u = tt
