-- What is written where the running process goes on, or runs no more.
use Rattle.std.proofs.Common.{◌≡◌, ℕ, ◌+◌, ◌<◌, true, length, Some, None, refl, sym, ◌∙◌, ap, arith, ⊎_elim, slice_index, slice_set}
use Rattle.std.proofs.lemmas.Bool.{false≢true, eq-eqb, cases_lt}
use Rattle.std.proofs.lemmas.List.{set-get_or, get_or-set_other, get_or_past}
use Rattle.vf_elaborated.specs.Elaborated.{Elaborated}
use Rattle.vf_elaborated.specs.Addresses.{RUNNING, thread_at}
use Rattle.vf_scheduler.specs.State.{State, Status, Halted, Waiting, Active, Inactive, Future, Running, Thread, thread_of, put_thread, no_thread, goes_to, leaves}
use Rattle.vf_scheduler.specs.Posting.{time_in}
use Rattle.vf_scheduler.specs.Sound.{IsSound, is_running, names}
use Rattle.vf_scheduler.specs.Words.{status_word, words_of}
use Rattle.vf_layout.specs.Addresses.{HasShape}
use Rattle.vf_layout.proofs.CallerLemmas.{words_standing, front_written, changes_written, sound_written}

runs_only : (status : Status) → is_running status ≡ true → status ≡ Running
runs_only Running h = refl
runs_only Halted h = absurd (false≢true h)
runs_only Waiting h = absurd (false≢true h)
runs_only Active h = absurd (false≢true h)
runs_only Inactive h = absurd (false≢true h)
runs_only (Future at) h = absurd (false≢true h)

-- another place and status, where the time stays: their words are written
pub replaced : (d : Elaborated) (s : State) (p : ℕ) → HasShape d s → p < length d.processes → (place : ℕ) (status : Status) → time_in (thread_of s p).status ≡ time_in status
    → words_of d (put_thread p (record { place = place; status = status }) s)
    ≡ slice_set (slice_set (words_of d s) (thread_at p) place) (thread_at p + 1) (status_word status)
replaced d s p shape there place status timed =
    let thread : Thread = record { place = place; status = status } in
    let first = slice_set (words_of d s) (thread_at p) place in
    let later = slice_set first (thread_at p + 1) (status_word status) in
    let time : slice_index later (thread_at p + 3) ≡ time_in status =
    get_or-set_other first (thread_at p + 1) (thread_at p + 3) (status_word status) 0 (λ same. omega (arith, same))
    ∙ (get_or-set_other (words_of d s) (thread_at p) (thread_at p + 3) place 0 (λ same. omega (arith, same))
    ∙ (((words_standing d s shape).threads p there).time ∙ timed)) in
    ((changes_written d s shape).threads p there).thread thread ∙ (ap (λ word. slice_set later (thread_at p + 3) word) (sym time) ∙ set-get_or later (thread_at p + 3) 0)

-- another status at the same place: its word is written
pub restatus : (d : Elaborated) (s : State) (p : ℕ) → HasShape d s → p < length d.processes → (status : Status) → time_in (thread_of s p).status ≡ time_in status
    → words_of d (put_thread p (record { place = (thread_of s p).place; status = status }) s) ≡ slice_set (words_of d s) (thread_at p + 1) (status_word status)
restatus d s p shape there status timed =
    let words = words_of d s in
    replaced d s p shape there (thread_of s p).place status timed
    ∙ ap (λ words. slice_set words (thread_at p + 1) (status_word status))
    (ap (λ word. slice_set words (thread_at p) word) (sym ((words_standing d s shape).threads p there).place) ∙ set-get_or words (thread_at p) 0)

module _ (d : Elaborated) (s : State) (p : ℕ) (sound : IsSound d s) (running : s.running ≡ Some p) where
  pub runs : (thread_of s p).status ≡ Running
  runs = runs_only (thread_of s p).status (sound.running p ∙ (ap (λ o. names o p) running ∙ eq-eqb p p refl))

  shape : HasShape d s
  shape = (sound_written d s sound).shape

  pub is_there : p < length d.processes
  is_there =
      ⊎_elim (λ below. omega (arith, below, shape.threads))
      (λ past. absurd (false≢true (ap (λ (t : Thread). is_running t.status) (sym (get_or_past s.threads p no_thread past)) ∙ ap is_running runs)))
      (cases_lt p (length s.threads))

  pub goes_on : (place : ℕ) → words_of d (goes_to p place s) ≡ slice_set (words_of d s) (thread_at p) place
  goes_on place =
      ap (λ status. words_of d (put_thread p (record { place = place; status = status }) s)) (sym runs)
      ∙ ((changes_written d s shape).threads p is_there).place place

  -- where the process stays at its place, and its status has no time
  pub rests : (status : Status) → time_in status ≡ 0
      → words_of d (leaves p (thread_of s p).place status s) ≡ slice_set (slice_set (words_of d s) (thread_at p + 1) (status_word status)) RUNNING 0
  rests status timeless =
      (front_written d (put_thread p (record { place = (thread_of s p).place; status = status }) s)).running None
      ∙ ap (λ words. slice_set words RUNNING 0) (restatus d s p shape is_there status (ap time_in runs ∙ sym timeless))

  -- where it goes to another place, and its status may have a time
  pub leaves_for : (place : ℕ) (status : Status) (to word time at : ℕ) → to ≡ place → status_word status ≡ word → time_in status ≡ time → at ≡ thread_at p
      → words_of d (leaves p place status s) ≡ slice_set (slice_set (slice_set (slice_set (words_of d s) at to) (at + 1) word) (at + 3) time) RUNNING 0
  leaves_for place status to word time at place_is word_is time_is at_is =
      let thread : Thread = record { place = place; status = status } in
      let put = ((changes_written d s shape).threads p is_there).thread thread in
      let words = words_of d s in
      (front_written d (put_thread p thread s)).running None
      ∙ ap (λ words. slice_set words RUNNING 0)
      (put
      ∙ (ap (λ at. slice_set (slice_set (slice_set words at place) (at + 1) (status_word status)) (at + 3) (time_in status)) (sym at_is)
      ∙ (ap (λ to. slice_set (slice_set (slice_set words at to) (at + 1) (status_word status)) (at + 3) (time_in status)) (sym place_is)
      ∙ (ap (λ word. slice_set (slice_set (slice_set words at to) (at + 1) word) (at + 3) (time_in status)) word_is
      ∙ ap (λ time. slice_set (slice_set (slice_set words at to) (at + 1) word) (at + 3) time) time_is))))
