-- A sound state as two parts: what its values, places and slots hold, and its events by their marks.
use Rattle.std.proofs.Common.{◌≡◌, ℕ, ◌+◌, ◌^◌, ◌<◌, Bool, true, false, List, [], ◌∷◌, ◌++◌, map, length, Option, is_some, refl, sym, ◌∙◌, ap, subst, arith, slice_index_or, slice_set, IfSome}
use Rattle.std.proofs.lemmas.Bool.{eqb-false}
use Rattle.std.proofs.lemmas.List.{get_or-set_same, get_or-set_other}
use Rattle.std.proofs.lemmas.List.Elements.{All-nil, All-cons, All-head, All-tail}
use Rattle.std.proofs.Math.Path.{fun_ext}
use Rattle.std.specs.List.{All, AllZip}
use Rattle.vf_fours.specs.declared.Bit.{Bit}
use Rattle.vf_elaborated.specs.declared.design.Process.{Process}
use Rattle.vf_elaborated.specs.Elaborated.{Elaborated}
use Rattle.vf_elaborated.specs.Values.{Elements}
use Rattle.vf_elaborated.specs.Shapes.{FitsSignal}
use Rattle.vf_elaborated.specs.Drivers.{driver_widths}
use Rattle.vf_scheduler.specs.State.{State, Status, Halted, Waiting, Active, Inactive, Future, Running, Thread, Slot, Free, Later, Due, Strobed, Item, of_process, of_slot, no_thread, thread_of}
use Rattle.vf_scheduler.specs.Posting.{time_of, time_in, slot_time}
use Rattle.vf_scheduler.specs.Sound.{IsSound, IsSlot, Stands, Rises, times, events, region_of, slot_region, listed, slot_listed, slot_of, is_running, same_item}
use Rattle.vf_scheduler.proofs.Marks.{Mark, Nowhere, Runs, InActive, InInactive, InFuture, IsDue, InStrobes, mark_time, runs, often, own, Placed, times-append}
use Rattle.vf_scheduler.proofs.Queues.{Between, IsQueue, Changes}

abbrev pub status_mark : Status → Mark
status_mark Halted = Nowhere
status_mark Waiting = Nowhere
status_mark Active = InActive
status_mark Inactive = InInactive
status_mark (Future at) = InFuture at
status_mark Running = Runs

abbrev pub slot_mark : Slot → Mark
slot_mark Free = Nowhere
slot_mark (Later at u) = InFuture at
slot_mark (Due u) = IsDue
slot_mark (Strobed show) = InStrobes

abbrev pub mark_in : List Thread → List Slot → Item → Mark
mark_in threads slots (of_process p) = status_mark (slice_index_or threads p no_thread).status
mark_in threads slots (of_slot q) = slot_mark (slice_index_or slots q Free)

abbrev pub Queued : State → Type 0
Queued s = IsQueue (mark_in s.threads s.slots) s.time s.running s.active s.inactive s.nonblocking s.future s.strobes

abbrev pub HasPlace : Process → Thread → Type 0
HasPlace process thread = thread.place < length process.code

pub record Shaped (d : Elaborated) (threads : List Thread) (values : List Elements) (drivers : List (List Bit)) (slots : List Slot) (monitor : Option ℕ) (due : Bool) : Type 0 where
  pub places : AllZip HasPlace d.processes threads
  pub fits : AllZip FitsSignal d.signals values
  pub widths : map length drivers ≡ driver_widths d
  pub slot_count : length slots ≡ d.slots
  pub holds : All (IsSlot d) slots
  pub shows : IfSome monitor (λ show. show < length d.shows)
  pub is_due : due ≡ true → is_some monitor ≡ true

abbrev pub Shapes : Elaborated → State → Type 0
Shapes d s = Shaped d s.threads s.values s.drivers s.slots s.monitor s.due

pub record Held (d : Elaborated) (s : State) : Type 0 where
  pub shapes : Shapes d s
  pub queue : Queued s

-- ---- times

pub time_is : (s : State) → time_of s ≡ (λ x. mark_time (mark_in s.threads s.slots x))
time_is s = fun_ext at
  where
    by_status : (status : Status) → time_in status ≡ mark_time (status_mark status)
    by_status Halted = refl
    by_status Waiting = refl
    by_status Active = refl
    by_status Inactive = refl
    by_status (Future at) = refl
    by_status Running = refl

    by_slot : (slot : Slot) → slot_time slot ≡ mark_time (slot_mark slot)
    by_slot Free = refl
    by_slot (Later at u) = refl
    by_slot (Due u) = refl
    by_slot (Strobed show) = refl

    at : (x : Item) → time_of s x ≡ mark_time (mark_in s.threads s.slots x)
    at (of_process p) = by_status (thread_of s p).status
    at (of_slot q) = by_slot (slot_of s q)

pub between : (g : Item → ℕ) (from : ℕ) (f : List Item) → Rises from (map g f) → All (λ x. g x < 2 ^ 64) f → Between from (map g f)
between g from [] h below = tt
between g from (x ∷ rest) h below = (h.0, All-head (λ y. g y < 2 ^ 64) x rest below, between g (g x) rest h.1 (All-tail (λ y. g y < 2 ^ 64) x rest below))

rises : (g : Item → ℕ) (from : ℕ) (f : List Item) → Between from (map g f) → Rises from (map g f)
rises g from [] h = tt
rises g from (x ∷ rest) h = (h.0, rises g (g x) rest h.2)

below : (g : Item → ℕ) (from : ℕ) (f : List Item) → Between from (map g f) → All (λ x. g x < 2 ^ 64) f
below g from [] h = All-nil (λ x. g x < 2 ^ 64)
below g from (x ∷ rest) h = All-cons (λ y. g y < 2 ^ 64) x rest h.1 (below g (g x) rest h.2)

-- ---- where events stand

module _ (s : State) (x : Item) where
  in_all : times x (events s) ≡ times x s.inactive + (times x s.nonblocking + (times x s.future + (times x s.strobes + times x s.active)))
  in_all =
      let e1 = times-append x s.inactive (s.nonblocking ++ (s.future ++ (s.strobes ++ s.active))) in
      let e2 = times-append x s.nonblocking (s.future ++ (s.strobes ++ s.active)) in
      let e3 = times-append x s.future (s.strobes ++ s.active) in
      let e4 = times-append x s.strobes s.active in
      omega (arith, e1, e2, e3, e4)

  abbrev OwnOf : Mark → ℕ
  OwnOf m = own m (times x s.active) (times x s.inactive) (times x s.nonblocking) (times x s.future) (times x s.strobes)

  abbrev PlacedAs : Mark → Type 0
  PlacedAs m = Placed m (times x s.active) (times x s.inactive) (times x s.nonblocking) (times x s.future) (times x s.strobes)

  in_region : (status : Status) → times x (region_of s status) ≡ OwnOf (status_mark status)
  in_region Halted = refl
  in_region Waiting = refl
  in_region Active = refl
  in_region Inactive = refl
  in_region (Future at) = refl
  in_region Running = refl

  in_slot_region : (slot : Slot) → times x (slot_region s slot) ≡ OwnOf (slot_mark slot)
  in_slot_region Free = refl
  in_slot_region (Later at u) = refl
  in_slot_region (Due u) = times-append x s.nonblocking s.active
  in_slot_region (Strobed show) = refl

  placed_of : (m : Mark) (region : List Item) (n : ℕ) → times x region ≡ OwnOf m → n ≡ often m → Stands s x region n → PlacedAs m
  placed_of m region n e count h = record { there = sym e ∙ h.there ∙ count; alone = sym in_all ∙ h.alone ∙ count }

  stands_of : (m : Mark) (region : List Item) (n : ℕ) → times x region ≡ OwnOf m → n ≡ often m → PlacedAs m → Stands s x region n
  stands_of m region n e count h = record { there = e ∙ h.there ∙ sym count; alone = in_all ∙ h.alone ∙ sym count }

listed_is : (status : Status) → listed status ≡ often (status_mark status)
listed_is Halted = refl
listed_is Waiting = refl
listed_is Active = refl
listed_is Inactive = refl
listed_is (Future at) = refl
listed_is Running = refl

slot_listed_is : (slot : Slot) → slot_listed slot ≡ often (slot_mark slot)
slot_listed_is Free = refl
slot_listed_is (Later at u) = refl
slot_listed_is (Due u) = refl
slot_listed_is (Strobed show) = refl

running_is : (status : Status) → is_running status ≡ runs (status_mark status)
running_is Halted = refl
running_is Waiting = refl
running_is Active = refl
running_is Inactive = refl
running_is (Future at) = refl
running_is Running = refl

-- ---- both ways

pub held : (d : Elaborated) (s : State) → IsSound d s → Held d s
held d s h = record {
  shapes = record { places = h.threads; fits = h.values; widths = h.drivers; slot_count = h.slot_count; holds = h.slots; shows = h.monitor; is_due = h.due };
  queue = record {
    placed = place;
    running_is = λ p. sym (running_is (thread_of s p).status) ∙ h.running p;
    timed =
        subst (λ g. Between (s.time + 1) (map g s.future)) (time_is s) (between (time_of s) (s.time + 1) s.future h.future h.times);
    early = h.time;
  };
}
  where
    place : (x : Item) → PlacedAs s x (mark_in s.threads s.slots x)
    place (of_process p) =
        let status = (thread_of s p).status in
        placed_of s (of_process p) (status_mark status) (region_of s status) (listed status) (in_region s (of_process p) status) (listed_is status) (h.processes_stand p)
    place (of_slot q) =
        let slot = slot_of s q in
        placed_of s (of_slot q) (slot_mark slot) (slot_region s slot) (slot_listed slot) (in_slot_region s (of_slot q) slot) (slot_listed_is slot) (h.slots_stand q)

pub sound : (d : Elaborated) (s : State) → Held d s → IsSound d s
sound d s h =
    let timed = subst (λ g. Between (s.time + 1) (map g s.future)) (sym (time_is s)) h.queue.timed in
    record {
      threads = h.shapes.places;
      values = h.shapes.fits;
      drivers = h.shapes.widths;
      slot_count = h.shapes.slot_count;
      slots = h.shapes.holds;
      processes_stand = λ p.
          let status = (thread_of s p).status in
          stands_of s (of_process p) (status_mark status) (region_of s status) (listed status) (in_region s (of_process p) status) (listed_is status) (h.queue.placed (of_process p));
      slots_stand = λ q.
          let slot = slot_of s q in
          stands_of s (of_slot q) (slot_mark slot) (slot_region s slot) (slot_listed slot) (in_slot_region s (of_slot q) slot) (slot_listed_is slot) (h.queue.placed (of_slot q));
      running = λ p. running_is (thread_of s p).status ∙ h.queue.running_is p;
      future = rises (time_of s) (s.time + 1) s.future timed;
      time = h.queue.early;
      times = below (time_of s) (s.time + 1) s.future timed;
      monitor = h.shapes.shows;
      due = h.shapes.is_due;
    }

-- ---- a process or a slot is put

pub thread_put : (threads : List Thread) (slots : List Slot) (p : ℕ) (thread : Thread) → p < length threads
    → Changes (mark_in threads slots) (mark_in (slice_set threads p thread) slots) (of_process p) (status_mark thread.status)
thread_put threads slots p thread within = record {
  here = ap (λ (t : Thread). status_mark t.status) (get_or-set_same threads p thread no_thread within);
  others = other;
}
  where
    other : (y : Item) → same_item y (of_process p) ≡ false → mark_in (slice_set threads p thread) slots y ≡ mark_in threads slots y
    other (of_process r) h = ap (λ (t : Thread). status_mark t.status) (get_or-set_other threads p r thread no_thread (eqb-false r p h))
    other (of_slot q) h = refl

pub slot_put : (threads : List Thread) (slots : List Slot) (q : ℕ) (slot : Slot) → q < length slots
    → Changes (mark_in threads slots) (mark_in threads (slice_set slots q slot)) (of_slot q) (slot_mark slot)
slot_put threads slots q slot within = record {
  here = ap slot_mark (get_or-set_same slots q slot Free within);
  others = other;
}
  where
    other : (y : Item) → same_item y (of_slot q) ≡ false → mark_in threads (slice_set slots q slot) y ≡ mark_in threads slots y
    other (of_process r) h = refl
    other (of_slot r) h = ap slot_mark (get_or-set_other slots q r slot Free (eqb-false r q h))
