-- What is written where the running process is put off.
use Rattle.std.proofs.Common.{◌≡◌, ◌≢◌, ℕ, ◌+◌, ◌^◌, ◌<◌, ◌≤◌, [], ◌∷◌, ◌++◌, length, Option, Some, None, refl, sym, ◌∙◌, ap, arith, IfSome, if◌then◌else◌}
use Rattle.std.proofs.lemmas.Bool.{eq-eqb, ne_eqb, le-leb, lt-leb}
use Rattle.vf_base.specs.declared.run.Ending.TheVariants as endings
use Rattle.vf_machine.specs.Machine.{go, stop}
use Rattle.vf_elaborated.specs.Elaborated.{Elaborated}
use Rattle.vf_elaborated.specs.Addresses.{INACTIVE}
use Rattle.vf_scheduler.specs.State.{State, Status, Inactive, Future, Item, of_process, leaves}
use Rattle.vf_scheduler.specs.Posting.{time_of, put_by_time, is_too_late, joins_future, delayed}
use Rattle.vf_scheduler.specs.Sound.{times, events, listed, IsSound}
use Rattle.vf_scheduler.specs.Words.{words_of}
use Rattle.vf_scheduler.proofs.CallerLemmas.{times-append, times_here}
use Rattle.vf_layout.specs.Regions.{InactiveRegion, FutureRegion, joined, put_after, RegionChanges}
use Rattle.vf_layout.specs.Laws.{IsWritten}
use Rattle.vf_layout.proofs.CallerLemmas.{sound_written, regions_written, has_link, numbered_below}
use Rattle.vf_queue.specs.Writing.{item_count}
use Rattle.vf_queue.specs.Future.{IsLastUntil, put_in}
use Rattle.vf_queue.proofs.ThreadLemmas.{runs, is_there}
use Rattle.vf_queue.proofs.KeptLemmas.{left_written, left_times, put_same}

-- the event before a place in the future has a number
pub last_below : (d : Elaborated) (s : State) (at : ℕ) (last : Option ℕ) → IsSound d s → IsLastUntil d s at last → IfSome last (λ m. m < item_count d)
last_below d s at None sound is = tt
last_below d s at (Some m) sound is =
    let queued = (sound_written d s sound).queued in
    let linked = has_link d s queued FutureRegion is.other s.future refl
    (omega (arith, ap (times is.other) is.is, times-append is.other is.before (is.other ∷ is.rest), times_here is.other is.rest)) in
    omega (arith, numbered_below d s queued FutureRegion is.other linked, is.numbered)

module _ (d : Elaborated) (s : State) (p place : ℕ) (sound : IsSound d s) (running : s.running ≡ Some p) where
  abbrev pub left : Status → State
  left status = leaves p place status s

  pub written_left : (status : Status) → IsWritten d (left status)
  written_left status = left_written d s p place status (sound_written d s sound)

  -- a running process stands in no list
  absent : times (of_process p) (events s) ≡ 0
  absent = (sound.processes_stand p).alone ∙ ap listed (runs d s p sound running)

  pub joins_inactive : words_of d (record (left Inactive) { inactive = s.inactive ++ of_process p ∷ [] }) ≡ joined d INACTIVE p (words_of d (left Inactive))
  joins_inactive =
      let has = written_left Inactive in
      (regions_written d (left Inactive) has.shape has.queued).joins InactiveRegion (of_process p) refl

  other_than : (x : Item) → 1 ≤ times x s.future → x ≡ of_process p → ⊥
  other_than x stands same =
      let none = ap (λ x. times x (events s)) same ∙ absent in
      let active = s.strobes ++ s.active in
      let first = times-append x s.inactive (s.nonblocking ++ (s.future ++ active)) in
      let second = times-append x s.nonblocking (s.future ++ active) in
      omega (arith, stands, none, first, second, times-append x s.future active)

  pub joins_later : (at : ℕ) (last : Option ℕ) → IsLastUntil d s at last
      → words_of d (joins_future at (of_process p) (left (Future at))) ≡ put_in d last p (words_of d (left (Future at)))
  joins_later at last is = by last is
    where
      next : State
      next = left (Future at)

      laws : RegionChanges d next
      laws = let has = written_left (Future at) in regions_written d next has.shape has.queued

      below : p < length d.processes
      below = is_there d s p sound running

      same : put_by_time (time_of next) at (of_process p) s.future ≡ put_by_time (time_of s) at (of_process p) s.future
      same =
          put_same (time_of next) (time_of s) at (of_process p) s.future
          (λ x stands. left_times d s p place (Future at) x (other_than x stands))

      by : (last : Option ℕ) → IsLastUntil d s at last → words_of d (joins_future at (of_process p) next) ≡ put_in d last p (words_of d next)
      by None is = ap (λ list. words_of d (record next { future = list })) (same ∙ is (of_process p)) ∙ laws.first (of_process p) below absent
      by (Some m) is =
          ap (λ list. words_of d (record next { future = list })) (same ∙ is.put (of_process p))
          ∙ (laws.after is.before is.other (of_process p) is.rest is.is below absent ∙ ap (λ m. put_after d m p (words_of d next)) is.numbered)

-- ---- a delay, by what it is

module _ (p place delay : ℕ) (s : State) where
  pub delayed_now : delay ≡ 0
      → delayed p place delay s ≡ go (record (leaves p place Inactive s) { inactive = s.inactive ++ of_process p ∷ [] }) [] None
  unfolding delayed
  delayed_now none =
      ap (λ b. if b then go (record (leaves p place Inactive s) { inactive = s.inactive ++ of_process p ∷ [] }) [] None
      else (if is_too_late (s.time + delay) then stop endings.Time else go (joins_future (s.time + delay) (of_process p) (leaves p place (Future (s.time + delay)) s)) [] None))
      (eq-eqb delay 0 none)

  some_delay : delay ≢ 0 → delayed p place delay s
      ≡ (if is_too_late (s.time + delay) then stop endings.Time else go (joins_future (s.time + delay) (of_process p) (leaves p place (Future (s.time + delay)) s)) [] None)
  unfolding delayed
  some_delay some =
      ap (λ b. if b then go (record (leaves p place Inactive s) { inactive = s.inactive ++ of_process p ∷ [] }) [] None
      else (if is_too_late (s.time + delay) then stop endings.Time else go (joins_future (s.time + delay) (of_process p) (leaves p place (Future (s.time + delay)) s)) [] None))
      (ne_eqb delay 0 some)

  pub delayed_late : delay ≢ 0 → 2 ^ 64 ≤ s.time + delay → delayed p place delay s ≡ stop endings.Time
  delayed_late some late =
      some_delay some
      ∙ ap (λ b. if b then stop endings.Time else go (joins_future (s.time + delay) (of_process p) (leaves p place (Future (s.time + delay)) s)) [] None)
      (le-leb (2 ^ 64) (s.time + delay) late)

  pub delayed_until : (at : ℕ) → delay ≢ 0 → s.time + delay < 2 ^ 64 → at ≡ s.time + delay
      → delayed p place delay s ≡ go (joins_future at (of_process p) (leaves p place (Future at) s)) [] None
  delayed_until at some early is =
      some_delay some
      ∙ (ap (λ b. if b then stop endings.Time else go (joins_future (s.time + delay) (of_process p) (leaves p place (Future (s.time + delay)) s)) [] None)
      (lt-leb (2 ^ 64) (s.time + delay) early)
      ∙ ap (λ at. go (joins_future at (of_process p) (leaves p place (Future at) s)) [] None) (sym is))
