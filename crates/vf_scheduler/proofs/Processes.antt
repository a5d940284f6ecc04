-- The running process goes on, or runs no more.
use Rattle.std.proofs.Common.{◌≡◌, ◌≢◌, ℕ, zero, suc, ◌+◌, ◌^◌, ◌<◌, Bool, true, false, List, [], ◌∷◌, ◌++◌, length, Some, None, refl, sym, ◌∙◌, ap, subst, arith, ⊎_elim, slice_index_or, slice_set, slice_get, ◌==◌, if◌then◌else◌}
use Rattle.std.proofs.lemmas.Bool.{cases_lt, eq-eqb, false≢true, leb-false, eqb-false}
use Rattle.std.proofs.lemmas.List.{get_or_past}
use Rattle.std.proofs.lemmas.Option.{none-some, same_Some}
use Rattle.std.specs.List.{AllZip}
use Rattle.vf_machine.proofs.CallerLemmas.{KeptBy}
use Rattle.vf_elaborated.specs.declared.design.Process.{Process}
use Rattle.vf_elaborated.specs.Elaborated.{Elaborated}
use Rattle.vf_scheduler.specs.State.{State, Status, Halted, Waiting, Inactive, Future, Running, Thread, Item, of_process, no_thread, goes_to, leaves}
use Rattle.vf_base.specs.declared.run.Ending.TheVariants as endings
use Rattle.vf_machine.specs.Machine.{go, stop}
use Rattle.vf_scheduler.specs.Posting as posting
use Rattle.vf_scheduler.specs.Posting.{time_of, put_by_time, is_too_late, delayed}
use Rattle.vf_scheduler.specs.Sound.{names}
use Rattle.vf_scheduler.proofs.Marks.{Mark, Nowhere, Runs, InActive, InInactive, InFuture, IsDue, InStrobes, runs, often}
use Rattle.vf_scheduler.proofs.Queues.{IsQueue, runs_kept, runs_last}
use Rattle.vf_scheduler.proofs.Moves.{stays, joins_inactive, joins_future}
use Rattle.vf_scheduler.proofs.Held.{mark_in, status_mark, HasPlace, Shapes, Held, time_is, thread_put}

-- ---- two lists place by place

pub all_zip_set : {A B : Type 0} (R : A → B → Type 0) (xs : List A) (ys : List B) (i : ℕ) (y : B) → AllZip R xs ys
    → ((x : A) → slice_get xs i ≡ Some x → R x y) → AllZip R xs (slice_set ys i y)
all_zip_set R [] [] i y all now = tt
all_zip_set R [] (b ∷ ys) i y all now = absurd all
all_zip_set R (a ∷ xs) [] i y all now = absurd all
all_zip_set R (a ∷ xs) (b ∷ ys) zero y all now = (now a refl, all.1)
all_zip_set R (a ∷ xs) (b ∷ ys) (suc i) y all now = (all.0, all_zip_set R xs ys i y all.1 now)

pub all_zip_at : {A B : Type 0} (R : A → B → Type 0) (xs : List A) (ys : List B) (i : ℕ) (x : A) (d : B) → AllZip R xs ys
    → slice_get xs i ≡ Some x → R x (slice_index_or ys i d)
all_zip_at R [] ys i x d all h = absurd (none-some x h)
all_zip_at R (a ∷ xs) [] i x d all h = absurd all
all_zip_at R (a ∷ xs) (b ∷ ys) zero x d all h = subst (λ z. R z b) (same_Some a x h) all.0
all_zip_at R (a ∷ xs) (b ∷ ys) (suc i) x d all h = all_zip_at R xs ys i x d all.1 h

-- ---- what a process may become

-- the place is one of the code
abbrev pub IsPlace : Elaborated → ℕ → ℕ → Type 0
IsPlace d p place = (process : Process) → slice_get d.processes p ≡ Some process → place < length process.code

pub shapes_put : (d : Elaborated) (s : State) (p : ℕ) (thread : Thread) → Shapes d s → IsPlace d p thread.place
    → AllZip HasPlace d.processes (slice_set s.threads p thread)
shapes_put d s p thread h place = all_zip_set HasPlace d.processes s.threads p thread h.places place

pub process_within : (s : State) (p : ℕ) → mark_in s.threads s.slots (of_process p) ≢ Nowhere → p < length s.threads
process_within s p somewhere =
    ⊎_elim (λ lt. lt) (λ ge. absurd (somewhere (ap (λ (t : Thread). status_mark t.status) (get_or_past s.threads p no_thread ge)))) (cases_lt p (length s.threads))

runs_somewhere : (m : Mark) → runs m ≡ true → m ≢ Nowhere
runs_somewhere m h e = false≢true (sym (ap runs e) ∙ h)

runs_nowhere : (m : Mark) → runs m ≡ true → often m ≡ 0
runs_nowhere Nowhere h = refl
runs_nowhere Runs h = refl
runs_nowhere InActive h = absurd (false≢true h)
runs_nowhere InInactive h = absurd (false≢true h)
runs_nowhere (InFuture at) h = absurd (false≢true h)
runs_nowhere IsDue h = absurd (false≢true h)
runs_nowhere InStrobes h = absurd (false≢true h)

pub grows : (a b : ℕ) → (b ≡ 0 → ⊥) → a < a + b
grows a zero h = absurd (h refl)
grows a (suc b) h = omega arith

module _ (d : Elaborated) (s : State) (p place : ℕ) (h : Held d s) (running : s.running ≡ Some p) (at : IsPlace d p place) where
  abbrev before : Item → Mark
  before = mark_in s.threads s.slots

  runs_now : runs (before (of_process p)) ≡ true
  runs_now = h.queue.running_is p ∙ (ap (λ o. names o p) running ∙ eq-eqb p p refl)

  within : p < length s.threads
  within = process_within s p (runs_somewhere _ runs_now)

  abbrev after : Status → Item → Mark
  after status = mark_in (slice_set s.threads p (record { place = place; status = status })) s.slots

  runs_one : (r : ℕ) → runs (before (of_process r)) ≡ names (Some p) r
  runs_one r = h.queue.running_is r ∙ ap (λ o. names o r) running

  -- the process is at another place
  pub goes_held : Held d (goes_to p place s)
  goes_held =
      let change = thread_put s.threads s.slots p (record { place = place; status = Running }) within in
      record {
        shapes = record {
          places = shapes_put d s p (record { place = place; status = Running }) h.shapes at;
          fits = h.shapes.fits;
          widths = h.shapes.widths;
          slot_count = h.shapes.slot_count;
          holds = h.shapes.holds;
          shows = h.shapes.shows;
          is_due = h.shapes.is_due;
        };
        queue =
            stays before (after Running) s.time s.active s.inactive s.nonblocking s.future s.strobes s.running s.running (of_process p) (runs_nowhere _ runs_now) h.queue
            Runs refl refl change (runs_kept before (after Running) (of_process p) Runs change s.running (sym runs_now) h.queue.running_is);
      }

  leaves_shapes : (status : Status) → Shapes d (leaves p place status s)
  leaves_shapes status = record {
    places = shapes_put d s p (record { place = place; status = status }) h.shapes at;
    fits = h.shapes.fits;
    widths = h.shapes.widths;
    slot_count = h.shapes.slot_count;
    holds = h.shapes.holds;
    shows = h.shapes.shows;
    is_due = h.shapes.is_due;
  }

  -- the process waits, or has ended
  pub waits_held : Held d (leaves p place Waiting s)
  waits_held =
      let change = thread_put s.threads s.slots p (record { place = place; status = Waiting }) within in
      record {
        shapes = leaves_shapes Waiting;
        queue =
            stays before (after Waiting) s.time s.active s.inactive s.nonblocking s.future s.strobes s.running None (of_process p) (runs_nowhere _ runs_now) h.queue
            Nowhere refl refl change (runs_last before (after Waiting) (of_process p) Nowhere change p refl refl runs_one);
      }

  pub ends_held : Held d (leaves p place Halted s)
  ends_held =
      let change = thread_put s.threads s.slots p (record { place = place; status = Halted }) within in
      record {
        shapes = leaves_shapes Halted;
        queue =
            stays before (after Halted) s.time s.active s.inactive s.nonblocking s.future s.strobes s.running None (of_process p) (runs_nowhere _ runs_now) h.queue
            Nowhere refl refl change (runs_last before (after Halted) (of_process p) Nowhere change p refl refl runs_one);
      }

  inactive_held : Held d (record (leaves p place Inactive s) { inactive = s.inactive ++ of_process p ∷ [] })
  inactive_held =
      let change = thread_put s.threads s.slots p (record { place = place; status = Inactive }) within in
      record {
        shapes = leaves_shapes Inactive;
        queue =
            joins_inactive before (after Inactive) s.time s.active s.inactive s.nonblocking s.future s.strobes s.running None (of_process p) (runs_nowhere _ runs_now) h.queue
            change (runs_last before (after Inactive) (of_process p) InInactive change p refl refl runs_one);
      }

  future_held : (time : ℕ) → s.time < time → time < 2 ^ 64
      → Held d (record (leaves p place (Future time) s) { future = put_by_time (time_of (leaves p place (Future time) s)) time (of_process p) s.future })
  future_held time later early =
      let change = thread_put s.threads s.slots p (record { place = place; status = Future time }) within in
      record {
        shapes = leaves_shapes (Future time);
        queue =
            subst (λ g. IsQueue (after (Future time)) s.time None s.active s.inactive s.nonblocking (put_by_time g time (of_process p) s.future) s.strobes)
            (sym (time_is (leaves p place (Future time) s)))
            (joins_future before (after (Future time)) s.time s.active s.inactive s.nonblocking s.future s.strobes s.running None (of_process p) time (runs_nowhere _ runs_now) h.queue
            change (runs_last before (after (Future time)) (of_process p) (InFuture time) change p refl refl runs_one) later early);
      }

  abbrev joins_future_of : ℕ → State
  joins_future_of time = posting.joins_future time (of_process p) (leaves p place (Future time) s)

  -- a delay
  pub delayed_held : (delay : ℕ) → KeptBy (Held d) (delayed p place delay s)
  unfolding delayed
  delayed_held delay = by (delay == 0) refl (is_too_late (s.time + delay)) refl
    where
      by : (none : Bool) → (delay == 0) ≡ none → (late : Bool) → is_too_late (s.time + delay) ≡ late
          → KeptBy (Held d) (if none then go (record (leaves p place Inactive s) { inactive = s.inactive ++ of_process p ∷ [] }) [] None
          else (if late then stop endings.Time else go (joins_future_of (s.time + delay)) [] None))
      by true e late l = inactive_held
      by false e true l = tt
      by false e false l = future_held (s.time + delay) (grows s.time delay (eqb-false delay 0 e)) (leb-false (2 ^ 64) (s.time + delay) l)
