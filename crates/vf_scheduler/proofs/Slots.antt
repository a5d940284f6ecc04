-- Updates and strobes take event slots, and free them.
use Rattle.std.proofs.Common.{◌≡◌, ℕ, zero, suc, ◌+◌, ◌^◌, ◌<◌, ◌≤◌, Bool, true, false, cond, List, [], ◌∷◌, ◌++◌, length, None, refl, sym, ◌∙◌, ap, subst, arith, slice_set, ◌==◌, if◌then◌else◌, nat_lt, count_by}
use Rattle.std.proofs.lemmas.Bool.{false≢true, leb-false, eqb-false, ltb-false}
use Rattle.std.proofs.lemmas.List.{length-set}
use Rattle.std.proofs.lemmas.List.Sums.{passes_at_first, sum_by-set}
use Rattle.std.proofs.lemmas.List.Elements.{All-set}
use Rattle.std.specs.List.{position_or_len}
use Rattle.std.specs.Prelude.{⊤}
use Rattle.vf_base.specs.declared.run.Ending.TheVariants as endings
use Rattle.vf_machine.specs.Machine.{go, stop}
use Rattle.vf_machine.proofs.CallerLemmas.{KeptBy}
use Rattle.vf_elaborated.specs.Elaborated.{Elaborated}
use Rattle.vf_scheduler.specs.State.{State, Update, Slot, Free, Later, Due, Strobed, Item, of_slot}
use Rattle.vf_scheduler.specs.Posting.{is_free, free_slots, least_free, put_slot, put_by_time, is_too_late, joins_future as to_future, posted, posted_all, post, strobe}
use Rattle.vf_scheduler.specs.Sound.{IsUpdate, IsSlot}
use Rattle.vf_scheduler.proofs.Marks.{Mark, Nowhere, often}
use Rattle.vf_scheduler.proofs.Queues.{IsQueue}
use Rattle.vf_scheduler.proofs.Moves.{joins_nonblocking, joins_strobes, joins_future}
use Rattle.vf_scheduler.proofs.Processes.{grows}
use Rattle.vf_scheduler.proofs.Held.{mark_in, slot_mark, Shapes, Held, time_is, slot_put}

-- ---- the least free slot

first_free : (slots : List Slot) → 1 ≤ count_by is_free slots → position_or_len is_free slots < length slots
first_free [] h = absurd (omega (arith, h))
first_free (Free ∷ rest) h = omega arith
first_free (Later at u ∷ rest) h = omega (arith, first_free rest (omega (arith, h)))
first_free (Due u ∷ rest) h = omega (arith, first_free rest (omega (arith, h)))
first_free (Strobed show ∷ rest) h = omega (arith, first_free rest (omega (arith, h)))

is_nowhere : (slot : Slot) → is_free slot ≡ true → slot_mark slot ≡ Nowhere
is_nowhere Free h = refl
is_nowhere (Later at u) h = absurd (false≢true h)
is_nowhere (Due u) h = absurd (false≢true h)
is_nowhere (Strobed show) h = absurd (false≢true h)

-- an update is one of the design
abbrev pub Updates : Elaborated → List Update → Type 0
Updates d [] = ⊤
Updates d (u ∷ rest) = IsUpdate d u × Updates d rest

pub slot_shapes : (d : Elaborated) (s : State) (q : ℕ) (slot : Slot) → Shapes d s → IsSlot d slot → Shapes d (put_slot q slot s)
slot_shapes d s q slot h is = record {
  places = h.places;
  fits = h.fits;
  widths = h.widths;
  slot_count = length-set s.slots q slot ∙ h.slot_count;
  holds = All-set (IsSlot d) s.slots q slot is h.holds;
  shows = h.shows;
  is_due = h.is_due;
}

one : Bool → ℕ
one b = cond b 1 0

some : (n : ℕ) → (n ≡ 0 → ⊥) → 1 ≤ n
some zero h = absurd (h refl)
some (suc n) h = omega arith

module _ (d : Elaborated) (s : State) (h : Held d s) (free : 1 ≤ free_slots s) where
  abbrev q : ℕ
  q = least_free s

  abbrev before : Item → Mark
  before = mark_in s.threads s.slots

  abbrev after : Slot → Item → Mark
  after slot = mark_in s.threads (slice_set s.slots q slot)

  within : q < length s.slots
  within = first_free s.slots free

  none : often (before (of_slot q)) ≡ 0
  none = ap often (is_nowhere _ (passes_at_first is_free s.slots Free within))

  -- one slot fewer is free
  fewer : (slot : Slot) → is_free slot ≡ false → count_by is_free (slice_set s.slots q slot) + 1 ≡ free_slots s
  unfolding one
  fewer slot taken =
      let counts = sum_by-set (λ x. cond (is_free x) 1 0) s.slots q slot Free within in
      let old = ap one (passes_at_first is_free s.slots Free within) in
      let new = ap one taken in
      omega (arith, counts, old, new)

  due_held : (u : Update) → IsUpdate d u → Held d (record (put_slot q (Due u) s) { nonblocking = s.nonblocking ++ of_slot q ∷ [] })
  due_held u is = record {
    shapes = slot_shapes d s q (Due u) h.shapes is;
    queue =
        joins_nonblocking before (after (Due u)) s.time s.active s.inactive s.nonblocking s.future s.strobes s.running s.running (of_slot q) none h.queue
        (slot_put s.threads s.slots q (Due u) within) h.queue.running_is;
  }

  later_held : (u : Update) (time : ℕ) → IsUpdate d u → s.time < time → time < 2 ^ 64 → Held d (to_future time (of_slot q) (put_slot q (Later time u) s))
  later_held u time is later early = record {
    shapes = slot_shapes d s q (Later time u) h.shapes is;
    queue =
        subst (λ g. IsQueue (after (Later time u)) s.time s.running s.active s.inactive s.nonblocking (put_by_time g time (of_slot q) s.future) s.strobes)
        (sym (time_is (put_slot q (Later time u) s)))
        (joins_future before (after (Later time u)) s.time s.active s.inactive s.nonblocking s.future s.strobes s.running s.running (of_slot q) time none h.queue
        (slot_put s.threads s.slots q (Later time u) within) h.queue.running_is later early);
  }

  strobed_held : (show : ℕ) → show < length d.shows → Held d (record (put_slot q (Strobed show) s) { strobes = s.strobes ++ of_slot q ∷ [] })
  strobed_held show is = record {
    shapes = slot_shapes d s q (Strobed show) h.shapes is;
    queue =
        joins_strobes before (after (Strobed show)) s.time s.active s.inactive s.nonblocking s.future s.strobes s.running s.running (of_slot q) none h.queue
        (slot_put s.threads s.slots q (Strobed show) within) h.queue.running_is;
  }

  -- what one update leaves
  pub record Posted (delay : ℕ) (next : State) : Type 0 where
    pub keeps : Held d next
    pub left : free_slots next + 1 ≡ free_slots s
    pub now : next.time ≡ s.time

  pub posted_held : (delay : ℕ) (u : Update) → IsUpdate d u → s.time + delay < 2 ^ 64 → Posted delay (posted delay u s)
  posted_held delay u is early = by (delay == 0) refl
    where
      by : (at_once : Bool) → (delay == 0) ≡ at_once
          → Posted delay (if at_once then record (put_slot q (Due u) s) { nonblocking = s.nonblocking ++ of_slot q ∷ [] }
          else to_future (s.time + delay) (of_slot q) (put_slot q (Later (s.time + delay) u) s))
      by true e = record { keeps = due_held u is; left = fewer (Due u) refl; now = refl }
      by false e = record { keeps = later_held u (s.time + delay) is (grows s.time delay (eqb-false delay 0 e)) early; left = fewer (Later (s.time + delay) u) refl; now = refl }

posted_all_held : (d : Elaborated) (delay : ℕ) (updates : List Update) (s : State) → Held d s → Updates d updates → length updates ≤ free_slots s
    → s.time + delay < 2 ^ 64 → Held d (posted_all delay updates s)
posted_all_held d delay [] s h all room early = h
posted_all_held d delay (u ∷ rest) s h all room early =
    let one = posted_held d s h (omega (arith, room)) delay u all.0 early in
    posted_all_held d delay rest (posted delay u s) one.keeps all.1 (omega (arith, room, one.left)) (omega (arith, early, one.now))

-- a nonblocking assignment
pub post_held : (d : Elaborated) (delay : ℕ) (updates : List Update) (s next : State) → Held d next → next.slots ≡ s.slots → next.time ≡ s.time → Updates d updates
    → KeptBy (Held d) (post delay updates s next)
unfolding post
post_held d delay updates s next h same_slots same_time all =
    by (nat_lt (free_slots s) (length updates)) refl (is_too_late (s.time + delay)) refl
  where
    by : (few : Bool) → nat_lt (free_slots s) (length updates) ≡ few → (late : Bool) → is_too_late (s.time + delay) ≡ late
        → KeptBy (Held d) (if few then stop endings.Events else (if late then stop endings.Time else go (posted_all delay updates next) [] None))
    by true e late l = tt
    by false e true l = tt
    by false e false l =
        posted_all_held d delay updates next h all
        (omega (arith, ltb-false (free_slots s) (length updates) e, ap (λ slots. count_by is_free slots) same_slots))
        (omega (arith, leb-false (2 ^ 64) (s.time + delay) l, same_time))

-- a strobe
pub strobe_held : (d : Elaborated) (show : ℕ) (s next : State) → Held d next → next.slots ≡ s.slots → next.strobes ≡ s.strobes → show < length d.shows
    → KeptBy (Held d) (strobe show s next)
unfolding strobe
strobe_held d show s next h same_slots same_strobes is = by (free_slots s == 0) refl
  where
    by : (few : Bool) → (free_slots s == 0) ≡ few
        → KeptBy (Held d) (if few then stop endings.Events
        else go (record (put_slot (least_free s) (Strobed show) next) { strobes = s.strobes ++ of_slot (least_free s) ∷ [] }) [] None)
    by true e = tt
    by false e =
        let room : 1 ≤ free_slots s = some (free_slots s) (eqb-false (free_slots s) 0 e) in
        let free : 1 ≤ free_slots next = omega (arith, room, ap (λ slots. count_by is_free slots) same_slots) in
        subst (λ strobes. Held d (record (put_slot (least_free s) (Strobed show) next) { strobes = strobes ++ of_slot (least_free s) ∷ [] })) same_strobes
        (subst (λ slots. Held d (record (put_slot (position_or_len is_free slots) (Strobed show) next) { strobes = next.strobes ++ of_slot (position_or_len is_free slots) ∷ [] })) same_slots
        (strobed_held d next h free show is))
