-- A change of a signal wakes none but the signal's watchers, so that it may be told by them alone: one after the other.
use Rattle.std.proofs.Common.{◌≡◌, ℕ, zero, suc, ◌+◌, Bool, true, false, ◌&&◌, ◌||◌, List, [], ◌∷◌, ◌++◌, map, length, Option, Some, None, refl, sym, ◌∙◌, ap, ap₂, arith, ⊎_elim, slice_index_or, slice_set, slice_get, if◌then◌else◌, zip}
use Rattle.std.proofs.lemmas.Bool.{false≢true, and_parts, or_cases}
use Rattle.std.proofs.lemmas.List.{append_assoc, append-nil, length-append}
use Rattle.std.proofs.Math.Bool.{or-true}
use Rattle.std.proofs.Math.Seq.{get_or-append_seam}
use Rattle.std.proofs.lemmas.Option.{none-some, same_Some}
use Rattle.std.specs.List.{filter, list_any}
use Rattle.std.specs.Option.{option_and_then}
use Rattle.vf_fours.specs.declared.Bit.{Bit}
use Rattle.vf_elaborated.specs.declared.design.Process.{Process}
use Rattle.vf_elaborated.specs.declared.code.Event.{Event}
use Rattle.vf_elaborated.specs.declared.code.Instr.{Instr}
use Rattle.vf_elaborated.specs.declared.code.Instr.TheVariants.{Await, Until, Drive}
use Rattle.vf_elaborated.specs.Elaborated.{Elaborated}
use Rattle.vf_elaborated.specs.Tables.{numbers_from, is_event_on, may_wake, may_wait, watchers_of}
use Rattle.vf_elaborated.proofs.CallerLemmas.{waits_at, numbers_left}
use Rattle.vf_scheduler.specs.State.{State, Thread, Active, Item, of_process, no_thread, thread_of, instr_at, put_thread}
use Rattle.vf_scheduler.specs.Updating.{has_edge, watched, fits, wakes, is_waiting, instr_of, is_woken, place_after, woken, monitors, wake}

-- ---- who may wake

any_too : {A : Type 0} (f g : A → Bool) (xs : List A) → ((x : A) → f x ≡ true → g x ≡ true) → list_any f xs ≡ true → list_any g xs ≡ true
any_too f g [] too h = h
any_too f g (x ∷ rest) too h =
    ⊎_elim (λ first. ap (λ b. b || list_any g rest) (too x first)) (λ later. ap (λ b. g x || b) (any_too f g rest too later) ∙ or-true (g x)) (or_cases (f x) (list_any f rest) h)

fits_on : (sig : ℕ) (old new : List Bit) (event : Event) → fits sig old new event ≡ true → is_event_on sig event ≡ true
unfolding is_event_on
fits_on sig old new event h = (and_parts (is_event_on sig event) (has_edge event.edge (watched event.bit old) (watched event.bit new)) h).0

-- an instruction that a change wakes is one that the signal may wake
pub wakes_may : (sig : ℕ) (old new : List Bit) (instr : Instr) → wakes sig old new (Some instr) ≡ true → may_wake sig instr ≡ true
wakes_may sig old new (Await events) h = any_too (fits sig old new) (is_event_on sig) events (fits_on sig old new) h
wakes_may sig old new (Until e) h = h
wakes_may sig old new (Drive target e) h = h
wakes_may sig old new _ h = absurd (false≢true h)

-- ---- the processes by their numbers

-- a change wakes a process
abbrev pub wakes_in : Elaborated → ℕ → List Bit → List Bit → State → ℕ → Bool
wakes_in d sig old new s p = is_waiting (thread_of s p).status && wakes sig old new (instr_at d p (thread_of s p).place)

-- a process that waits goes on: it joins the active region
abbrev pub joins_active : Elaborated → ℕ → State → State
joins_active d p s =
    let place = (thread_of s p).place in
    record (put_thread p (record { place = place_after (instr_at d p place) place; status = Active }) s) { active = s.active ++ of_process p ∷ [] }

abbrev pub wake_one : Elaborated → ℕ → List Bit → List Bit → ℕ → State → State
wake_one d sig old new p s = if wakes_in d sig old new s p then joins_active d p s else s

-- one after the other
abbrev pub wake_each : Elaborated → ℕ → List Bit → List Bit → List ℕ → State → State
wake_each d sig old new [] s = s
wake_each d sig old new (p ∷ rest) s = wake_each d sig old new rest (wake_one d sig old new p s)

module _ (d : Elaborated) (sig : ℕ) (old new : List Bit) where
  abbrev test : Process × Thread → Bool
  test = is_woken sig old new

  -- the process is known
  pub wakes_in_is : (s : State) (p : ℕ) (process : Process) → slice_get d.processes p ≡ Some process
      → wakes_in d sig old new s p ≡ is_woken sig old new (process, thread_of s p)
  wakes_in_is s p process at =
      ap (λ o. is_waiting (thread_of s p).status && wakes sig old new (option_and_then (λ (one : Process). slice_get one.code (thread_of s p).place) o)) at

  woken_may : (process : Process) (thread : Thread) → test (process, thread) ≡ true → may_wait sig process ≡ true
  woken_may process thread h = by (slice_get process.code thread.place) refl (and_parts (is_waiting thread.status) _ h).1
    where
      by : (instr : Option Instr) → slice_get process.code thread.place ≡ instr → wakes sig old new instr ≡ true → may_wait sig process ≡ true
      by None at e = absurd (false≢true e)
      by (Some instr) at e = waits_at sig process.code thread.place instr at (wakes_may sig old new instr e)

  length_pairs : (processes : List Process) (threads : List Thread) → length threads ≡ length processes → length (zip processes threads) ≡ length processes
  length_pairs [] threads e = refl
  length_pairs (process ∷ processes) [] e = absurd (omega (arith, e))
  length_pairs (process ∷ processes) (thread ∷ threads) e = omega (arith, length_pairs processes threads (omega (arith, e)))

  pair_at : (processes : List Process) (threads : List Thread) (i : ℕ) (pair : Process × Thread) (process : Process) → slice_get (zip processes threads) i ≡ Some pair
      → slice_get processes i ≡ Some process → pair ≡ (process, slice_index_or threads i no_thread)
  pair_at [] threads i pair process is at = absurd (none-some pair is)
  pair_at (one ∷ processes) [] i pair process is at = absurd (none-some pair is)
  pair_at (one ∷ processes) (thread ∷ threads) zero pair process is at =
      sym (same_Some (one, thread) pair is) ∙ ap (λ (x : Process). (x, thread)) (same_Some one process at)
  pair_at (one ∷ processes) (thread ∷ threads) (suc i) pair process is at = pair_at processes threads i pair process is at

  -- a scan of all processes finds those of the watchers that wake
  pub woken_watch : (s : State) → length s.threads ≡ length d.processes
      → numbers_from (is_woken sig old new) 0 (zip d.processes s.threads) ≡ filter (wakes_in d sig old new s) (watchers_of d sig)
  unfolding watchers_of
  woken_watch s long =
      numbers_left test (may_wait sig) (wakes_in d sig old new s) 0 (zip d.processes s.threads) d.processes (length_pairs d.processes s.threads long) tells
    where
      tells : (i : ℕ) (pair : Process × Thread) (process : Process) → slice_get (zip d.processes s.threads) i ≡ Some pair → slice_get d.processes i ≡ Some process
          → (wakes_in d sig old new s (0 + i) ≡ test pair) × (test pair ≡ true → may_wait sig process ≡ true)
      tells i pair process is at =
          let same : pair ≡ (process, thread_of s i) = pair_at d.processes s.threads i pair process is at in
          let here : 0 + i ≡ i = omega arith in
          (ap (wakes_in d sig old new s) here ∙ wakes_in_is s i process at ∙ sym (ap test same), λ e. woken_may process (thread_of s i) (sym (ap test same) ∙ e))

  -- ---- one watcher after the other

  put_here : (front rest : List Thread) (thread next : Thread) → slice_set (front ++ thread ∷ rest) (length front) next ≡ front ++ next ∷ rest
  put_here [] rest thread next = refl
  put_here (one ∷ front) rest thread next = ap (λ ts. one ∷ ts) (put_here front rest thread next)

  abbrev with_lists : State → List Thread → List Item → State
  with_lists s threads active = record s { threads = threads; active = active }

  abbrev scanned : State → ℕ → List Thread → List Process → List Thread → State
  scanned s n front processes threads =
      with_lists s (front ++ map (woken test) (zip processes threads)) (s.active ++ map of_process (numbers_from test n (zip processes threads)))

  -- behind one process
  abbrev GoesOn : List Process → List Thread → List Thread → ℕ → Type 0
  GoesOn processes threads front n = (one : Thread) (t : State) → t.threads ≡ front ++ one ∷ threads
      → wake_each d sig old new (numbers_from (may_wait sig) (n + 1) processes) t ≡ scanned t (n + 1) (front ++ one ∷ []) processes threads

  -- from a process on
  wakes_rest : (processes : List Process) (threads front : List Thread) (n : ℕ) (s : State) → length front ≡ n → length threads ≡ length processes
      → s.threads ≡ front ++ threads → ((i : ℕ) (process : Process) → slice_get processes i ≡ Some process → slice_get d.processes (n + i) ≡ Some process)
      → wake_each d sig old new (numbers_from (may_wait sig) n processes) s ≡ scanned s n front processes threads
  wakes_rest [] [] front n s before long is at = ap₂ (with_lists s) is (sym (append-nil s.active))
  wakes_rest [] (thread ∷ threads) front n s before long is at = absurd (omega (arith, long))
  wakes_rest (process ∷ processes) [] front n s before long is at = absurd (omega (arith, long))
  wakes_rest (process ∷ processes) (thread ∷ threads) front n s before long is at =
      by (λ one t e.
      wakes_rest processes threads (front ++ one ∷ []) (n + 1) t (length-append front (one ∷ []) ∙ omega (arith, before)) (omega (arith, long))
      (e ∙ sym (append_assoc front (one ∷ []) threads))
      (λ i process is. let place : n + 1 + i ≡ n + suc i = omega arith in ap (slice_get d.processes) place ∙ at (suc i) process is))
      (may_wait sig process) (test (process, thread)) refl (woken_may process thread)
    where
      there : slice_get d.processes n ≡ Some process
      there = let same : n + 0 ≡ n = omega arith in ap (slice_get d.processes) (sym same) ∙ at 0 process refl

      here : thread_of s n ≡ thread
      here = ap₂ (λ ts k. slice_index_or ts k no_thread) is (sym before) ∙ get_or-append_seam front thread threads no_thread

      same_test : wakes_in d sig old new s n ≡ test (process, thread)
      same_test = wakes_in_is s n process there ∙ ap (λ t. test (process, t)) here

      next : Thread
      next = record { place = place_after (instr_of (process, thread)) thread.place; status = Active }

      put : (joins_active d n s).threads ≡ front ++ next ∷ threads
      put =
          ap₂ (λ (t : Thread) o. slice_set s.threads n (record { place = place_after (option_and_then (λ (one : Process). slice_get one.code t.place) o) t.place; status = Active })) here there
          ∙ ap₂ (λ ts k. slice_set ts k next) is (sym before) ∙ put_here front threads thread next

      moved : (one : Thread) → front ++ one ∷ [] ++ map (woken test) (zip processes threads) ≡ front ++ one ∷ map (woken test) (zip processes threads)
      moved one = append_assoc front (one ∷ []) (map (woken test) (zip processes threads))

      sleeps : test (process, thread) ≡ false → wake_one d sig old new n s ≡ s
      sleeps e = ap (λ b. if b then joins_active d n s else s) (same_test ∙ e)

      passed : GoesOn processes threads front n
          → wake_each d sig old new (numbers_from (may_wait sig) (n + 1) processes) s
          ≡ with_lists s (front ++ thread ∷ map (woken test) (zip processes threads)) (s.active ++ map of_process (numbers_from test (n + 1) (zip processes threads)))
      passed go_on = go_on thread s is ∙ ap (λ ts. with_lists s ts (s.active ++ map of_process (numbers_from test (n + 1) (zip processes threads)))) (moved thread)

      by : GoesOn processes threads front n → (watches wakes : Bool) → test (process, thread) ≡ wakes → (wakes ≡ true → watches ≡ true)
          → wake_each d sig old new (if watches then n ∷ numbers_from (may_wait sig) (n + 1) processes else numbers_from (may_wait sig) (n + 1) processes) s
          ≡ with_lists s (front ++ (if wakes then next else thread) ∷ map (woken test) (zip processes threads))
          (s.active ++ map of_process (if wakes then n ∷ numbers_from test (n + 1) (zip processes threads) else numbers_from test (n + 1) (zip processes threads)))
      by go_on true true e may =
          ap (λ b. wake_each d sig old new (numbers_from (may_wait sig) (n + 1) processes) (if b then joins_active d n s else s)) (same_test ∙ e)
          ∙ go_on next (joins_active d n s) put
          ∙ ap₂ (with_lists s) (moved next) (append_assoc s.active (of_process n ∷ []) (map of_process (numbers_from test (n + 1) (zip processes threads))))
      by go_on true false e may = ap (wake_each d sig old new (numbers_from (may_wait sig) (n + 1) processes)) (sleeps e) ∙ passed go_on
      by go_on false false e may = passed go_on
      by go_on false true e may = absurd (false≢true (may refl))

  -- a change wakes those watchers one after the other, and then the monitor may be due
  pub wake_by_each : (s : State) → length s.threads ≡ length d.processes
      → wake d sig old new s ≡ record (wake_each d sig old new (watchers_of d sig) s) { due = s.due || monitors d sig s.monitor }
  unfolding watchers_of
  wake_by_each s long =
      ap (λ (t : State). record t { due = s.due || monitors d sig s.monitor })
      (sym (wakes_rest d.processes s.threads [] 0 s refl long refl (λ i process at. let here : 0 + i ≡ i = omega arith in ap (slice_get d.processes) here ∙ at)))
