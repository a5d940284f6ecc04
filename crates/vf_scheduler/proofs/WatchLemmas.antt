-- The watchers of a signal wake one after the other: what one more of them does, what none of them touches, and that each step keeps a state sound.
use Rattle.std.proofs.Common.{◌≡◌, ℕ, suc, ◌+◌, ◌<◌, Bool, true, false, List, [], ◌∷◌, ◌++◌, take, drop, length, refl, sym, ◌∙◌, ap, subst, arith, ⊎_elim, slice_index_or, slice_set, slice_get, if◌then◌else◌}
use Rattle.std.proofs.lemmas.Bool.{false≢true, and_parts, cases_lt}
use Rattle.std.proofs.lemmas.List.{get_or_past, take_more}
use Rattle.std.proofs.Math.Seq.{drop-cons}
use Rattle.std.specs.List.{AllZip}
use Rattle.std.specs.Option.{option_and_then}
use Rattle.vf_fours.specs.declared.Bit.{Bit}
use Rattle.vf_elaborated.specs.declared.design.Process.{Process}
use Rattle.vf_elaborated.specs.Elaborated.{Elaborated}
use Rattle.vf_elaborated.specs.WellFormed.{IsWellFormed, is_process}
use Rattle.vf_scheduler.specs.State.{State, Thread, Active, Item, of_process, no_thread, thread_of, instr_at}
use Rattle.vf_scheduler.specs.Updating.{is_waiting, place_after}
use Rattle.vf_scheduler.specs.Sound.{IsSound, times, same_item}
use Rattle.vf_scheduler.proofs.Marks.{Mark, InActive, same_item_is}
use Rattle.vf_scheduler.proofs.Moves.{Wakes, wakes as wakes_once, sleeps, wake_up}
use Rattle.vf_scheduler.proofs.Queues.{Changes}
use Rattle.vf_scheduler.proofs.Held.{mark_in, HasPlace, Held, held, sound, thread_put}
use Rattle.vf_scheduler.proofs.Processes.{IsPlace, shapes_put, all_zip_at}
use Rattle.vf_scheduler.proofs.Codes.{coded, list_all_at}
use Rattle.vf_scheduler.proofs.Waking.{waits, place_kept}
use Rattle.vf_scheduler.proofs.Watching.{wakes_in, joins_active, wake_one, wake_each}

-- a sound state has a place for each process, which `woken_watch` and `wake_by_each` ask for
pub threads_length : (d : Elaborated) (s : State) → IsSound d s → length s.threads ≡ length d.processes
threads_length d s h = by d.processes s.threads h.threads
  where
    by : (processes : List Process) (threads : List Thread) → AllZip HasPlace processes threads → length threads ≡ length processes
    by [] [] all = refl
    by [] (thread ∷ threads) all = absurd all
    by (process ∷ processes) [] all = absurd all
    by (process ∷ processes) (thread ∷ threads) all = omega (arith, by processes threads all.1)

module _ (d : Elaborated) (sig : ℕ) (old new : List Bit) where
  -- ---- one more

  wake_each-append : (xs ys : List ℕ) (s : State) → wake_each d sig old new (xs ++ ys) s ≡ wake_each d sig old new ys (wake_each d sig old new xs s)
  wake_each-append [] ys s = refl
  wake_each-append (x ∷ xs) ys s = wake_each-append xs ys (wake_one d sig old new x s)

  -- after the first k
  pub wake_one_more : (watchers : List ℕ) (k other : ℕ) (s : State) → k < length watchers
      → wake_each d sig old new (take (k + 1) watchers) s ≡ wake_one d sig old new (slice_index_or watchers k other) (wake_each d sig old new (take k watchers) s)
  wake_one_more watchers k other s within =
      ap (λ ws. wake_each d sig old new ws s) (take_more watchers k other within) ∙ wake_each-append (take k watchers) (slice_index_or watchers k other ∷ []) s

  -- before those that are left
  pub wake_one_less : (watchers : List ℕ) (k other : ℕ) (s : State) → k < length watchers
      → wake_each d sig old new (drop k watchers) s ≡ wake_each d sig old new (drop (k + 1) watchers) (wake_one d sig old new (slice_index_or watchers k other) s)
  wake_one_less watchers k other s within =
      let next : suc k ≡ k + 1 = omega arith in
      ap (λ ws. wake_each d sig old new ws s) (drop-cons watchers k other within)
      ∙ ap (λ n. wake_each d sig old new (drop n watchers) (wake_one d sig old new (slice_index_or watchers k other) s)) next

  -- ---- what else there is

  -- nothing but the threads and the active region changes
  abbrev KeepsOthers : State → State → Type 0
  KeepsOthers s next = next ≡ record s { threads = next.threads; active = next.active }

  pub wake_keeps : (watchers : List ℕ) (s : State) → KeepsOthers s (wake_each d sig old new watchers s)
  wake_keeps [] s = refl
  wake_keeps (p ∷ rest) s =
      let after = wake_each d sig old new rest (wake_one d sig old new p s) in
      wake_keeps rest (wake_one d sig old new p s) ∙ ap (λ (t : State). record t { threads = after.threads; active = after.active }) (by (wakes_in d sig old new s p))
    where
      by : (wakes : Bool) → KeepsOthers s (if wakes then joins_active d p s else s)
      by true = refl
      by false = refl

  -- ---- a sound state

  module _ (wf : IsWellFormed d) where
    joins_held : (p : ℕ) (s : State) → Held d s → is_waiting (thread_of s p).status ≡ true → Held d (joins_active d p s)
    joins_held p s h waiting = record {
      shapes = record {
        places = shapes_put d s p thread h.shapes is_place;
        fits = h.shapes.fits;
        widths = h.shapes.widths;
        slot_count = h.shapes.slot_count;
        holds = h.shapes.holds;
        shows = h.shapes.shows;
        is_due = h.shapes.is_due;
      };
      queue =
          wake_up before after s.time s.running s.active s.inactive s.nonblocking s.future s.strobes (of_process p ∷ []) h.queue
          (λ x. each x (same_item x (of_process p)) refl);
    }
      where
        place : ℕ
        place = (thread_of s p).place

        thread : Thread
        thread = record { place = place_after (instr_at d p place) place; status = Active }

        before : Item → Mark
        before = mark_in s.threads s.slots

        after : Item → Mark
        after = mark_in (slice_set s.threads p thread) s.slots

        within : p < length s.threads
        within =
            ⊎_elim (λ lt. lt) (λ ge. absurd (false≢true (sym (ap (λ (t : Thread). is_waiting t.status) (get_or_past s.threads p no_thread ge)) ∙ waiting)))
            (cases_lt p (length s.threads))

        is_place : IsPlace d p (place_after (instr_at d p place) place)
        is_place process at =
            subst (λ o. place_after (option_and_then (λ (one : Process). slice_get one.code place) o) place < length process.code) (sym at)
            (place_kept sig old new d process place (slice_get process.code place) (coded d process (list_all_at (is_process d) d.processes p process wf.processes at)) refl
            (all_zip_at HasPlace d.processes s.threads p process no_thread h.shapes.places at))

        put : Changes before after (of_process p) InActive
        put = thread_put s.threads s.slots p thread within

        each : (x : Item) (same : Bool) → same_item x (of_process p) ≡ same → Wakes (times x (of_process p ∷ [])) (before x) (after x)
        each x true e =
            let is = same_item_is x (of_process p) e in
            wakes_once (ap (λ b. (if b then 1 else 0) + 0) e) (ap before is ∙ waits (thread_of s p).status waiting) (ap after is ∙ put.here)
        each x false e = sleeps (ap (λ b. (if b then 1 else 0) + 0) e) (put.others x e)

    pub wake_one_held : (p : ℕ) (s : State) → Held d s → Held d (wake_one d sig old new p s)
    wake_one_held p s h = by (wakes_in d sig old new s p) refl
      where
        by : (wakes : Bool) → wakes_in d sig old new s p ≡ wakes → Held d (if wakes then joins_active d p s else s)
        by true e = joins_held p s h (and_parts (is_waiting (thread_of s p).status) _ e).0
        by false e = h

    pub wake_each_held : (watchers : List ℕ) (s : State) → Held d s → Held d (wake_each d sig old new watchers s)
    wake_each_held [] s h = h
    wake_each_held (p ∷ rest) s h = wake_each_held rest (wake_one d sig old new p s) (wake_one_held p s h)

    pub wake_one_sound : (p : ℕ) (s : State) → IsSound d s → IsSound d (wake_one d sig old new p s)
    wake_one_sound p s h = sound d (wake_one d sig old new p s) (wake_one_held p s (held d s h))

    pub wake_each_sound : (watchers : List ℕ) (s : State) → IsSound d s → IsSound d (wake_each d sig old new watchers s)
    wake_each_sound watchers s h = sound d (wake_each d sig old new watchers s) (wake_each_held watchers s (held d s h))
