-- What is written where events become active or run.
use Rattle.std.proofs.Common.{◌≡◌, ℕ, ◌+◌, ◌<◌, ◌≤◌, true, List, ◌∷◌, ◌++◌, length, Some, refl, sym, ◌∙◌, ap, ap₂, subst, arith, ⊎_elim, slice_index, slice_set}
use Rattle.std.proofs.lemmas.Bool.{false≢true, cases_lt}
use Rattle.std.proofs.lemmas.List.{length-set, get_or_past}
use Rattle.vf_elaborated.specs.Elaborated.{Elaborated}
use Rattle.vf_elaborated.specs.Addresses.{ACTIVE, RUNNING, thread_at}
use Rattle.vf_scheduler.specs.State.{State, Status, Halted, Waiting, Active, Inactive, Future, Running, Thread, Item, of_process, of_slot, no_thread, thread_of, put_thread}
use Rattle.vf_scheduler.specs.Posting.{time_in}
use Rattle.vf_scheduler.specs.Sound.{times, listed, region_of, Stands, IsSound}
use Rattle.vf_scheduler.specs.Turning.{take_item}
use Rattle.vf_scheduler.specs.Updating.{is_waiting}
use Rattle.vf_scheduler.specs.Words.{link, head, numbers, words_of}
use Rattle.vf_scheduler.proofs.CallerLemmas.{times-append, times_here}
use Rattle.vf_layout.specs.Addresses.{HasShape}
use Rattle.vf_layout.specs.Regions.{ActiveRegion, HasLink, number}
use Rattle.vf_layout.specs.Laws.{IsWritten}
use Rattle.vf_layout.proofs.CallerLemmas.{words_standing, front_written, sound_written, has_link, numbered_below}
use Rattle.vf_queue.specs.Writing.{Leads}
use Rattle.vf_queue.proofs.ThreadLemmas.{replaced, restatus}

module _ (d : Elaborated) (s : State) (sound : IsSound d s) where
  -- the head of the active list leads to the first event
  pub active_leads : (first : Item) (rest : List Item) → s.active ≡ first ∷ rest → Leads d (slice_index (words_of d s) ACTIVE)
  active_leads first rest is =
      let has = sound_written d s sound in
      let linked = has_link d s has.queued ActiveRegion first (first ∷ rest) is (omega (arith, times_here first rest)) in
      record {
        to = number d first;
        below = numbered_below d s has.queued ActiveRegion first linked;
        is = (words_standing d s has.shape).front.active.head_is ∙ ap (λ list. link (head (numbers d s list))) is;
      }

  pub first_number : (first : Item) (rest : List Item) → s.active ≡ first ∷ rest → (n : ℕ) → slice_index (words_of d s) ACTIVE ≡ n + 1 → number d first ≡ n
  first_number first rest is n leads =
      omega (arith, leads, (words_standing d s (sound_written d s sound).shape).front.active.head_is ∙ ap (λ list. link (head (numbers d s list))) is)

  -- a process in the active list has no time
  active_timeless : (status : Status) (p : ℕ) → 1 ≤ times (of_process p) s.active → (thread_of s p).status ≡ status → time_in status ≡ 0
  active_timeless status p stands is = by status (subst (λ status. Stands s (of_process p) (region_of s status) (listed status)) is (sound.processes_stand p))
    where
      by : (status : Status) → Stands s (of_process p) (region_of s status) (listed status) → time_in status ≡ 0
      by Halted h = refl
      by Waiting h = refl
      by Active h = refl
      by Inactive h = refl
      by Running h = refl
      by (Future at) h =
          let item = of_process p in
          let late = s.strobes ++ s.active in
          absurd
          (omega (
            arith,
            stands,
            h.there,
            h.alone,
            times-append item s.inactive (s.nonblocking ++ (s.future ++ late)),
            times-append item s.nonblocking (s.future ++ late),
            times-append item s.future late,
            times-append item s.strobes s.active,
          ))

  -- a process runs
  pub runs_now : (p : ℕ) (rest : List Item) → s.active ≡ of_process p ∷ rest → p < length d.processes
      → words_of d (take_item d (of_process p) (record s { active = rest }))
      ≡ slice_set (slice_set (words_of d (record s { active = rest })) (thread_at p + 1) 5) RUNNING (p + 1)
  runs_now p rest is below =
      let left : State = record s { active = rest } in
      let has = sound_written d s sound in
      let shape : HasShape d left = record { threads = has.shape.threads; values = has.shape.values; drivers = has.shape.drivers; slots = has.shape.slots } in
      let timeless = active_timeless (thread_of s p).status p (omega (arith, ap (times (of_process p)) is, times_here (of_process p) rest)) refl in
      (front_written d (put_thread p (record { place = (thread_of s p).place; status = Running }) left)).running (Some p)
      ∙ ap (λ words. slice_set words RUNNING (p + 1)) (restatus d left p shape below Running timeless)

-- ---- a process wakes

module _ (d : Elaborated) (s : State) (sound : IsSound d s) (p place : ℕ) (waits : is_waiting (thread_of s p).status ≡ true) where
  waits_only : (status : Status) → is_waiting status ≡ true → status ≡ Waiting
  waits_only Waiting h = refl
  waits_only Halted h = absurd (false≢true h)
  waits_only Active h = absurd (false≢true h)
  waits_only Inactive h = absurd (false≢true h)
  waits_only Running h = absurd (false≢true h)
  waits_only (Future at) h = absurd (false≢true h)

  is_waiting_now : (thread_of s p).status ≡ Waiting
  is_waiting_now = waits_only (thread_of s p).status waits

  pub is_one : p < length d.processes
  is_one =
      ⊎_elim (λ below. omega (arith, below, (sound_written d s sound).shape.threads))
      (λ past. absurd (false≢true (ap (λ (t : Thread). is_waiting t.status) (sym (get_or_past s.threads p no_thread past)) ∙ waits)))
      (cases_lt p (length s.threads))

  abbrev pub woken_up : State
  woken_up = put_thread p (record { place = place; status = Active }) s

  pub woken_written : IsWritten d woken_up
  woken_written =
      let has = sound_written d s sound in
      record {
        shape = record {
          threads = length-set s.threads p (record { place = place; status = Active }) ∙ has.shape.threads;
          values = has.shape.values;
          drivers = has.shape.drivers;
          slots = has.shape.slots;
        };
        queued = record { once = has.queued.once; linked = λ item stands. kept item (has.queued.linked item stands) };
      }
    where
      kept : (item : Item) → HasLink d s item → HasLink d woken_up item
      kept (of_process q) has = has
      kept (of_slot q) has = has

  -- the place and the status are written, and the time is 0 already
  pub wakes_up : (to at : ℕ) → to ≡ place → at ≡ thread_at p → words_of d woken_up ≡ slice_set (slice_set (words_of d s) at to) (at + 1) 2
  wakes_up to at place_is at_is =
      replaced d s p (sound_written d s sound).shape is_one place Active (ap time_in is_waiting_now)
      ∙ ap₂ (λ to at. slice_set (slice_set (words_of d s) at to) (at + 1) 2) (sym place_is) (sym at_is)
