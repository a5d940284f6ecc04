-- The least free event slot.
use Rattle.std.specs.Prelude.{◌≡◌, ℕ, ◌+◌, ◌<◌, ◌≤◌, Bool, true, false, List, length, nat_lt, if◌then◌else◌, Option, Some, None}
use Rattle.vf_base.specs.declared.run.Ending.{Ending}
use Rattle.vf_base.specs.declared.run.Ending.TheVariants as endings
use Rattle.vf_base.specs.declared.write.Write.{Write}
use Rattle.vf_elaborated.specs.Elaborated.{Elaborated}
use Rattle.vf_scheduler.specs.State.{State, Update}
use Rattle.vf_scheduler.specs.Posting.{free_slots, least_free, posted}
use Rattle.vf_queue.specs.Holding.{Holds, IsUnderway}

-- there is none; or it is there and the least
abbrev pub IsLeastFree : State → Option ℕ → Type 0
IsLeastFree s None = free_slots s ≡ 0
IsLeastFree s (Some q) = (q ≡ least_free s) × (q < length s.slots)

-- a slot is the least free one
pub record IsFreeIn (s : State) (q : ℕ) : Type 0 where
  pub least : q ≡ least_free s
  pub below : q < length s.slots

pub record HasFree (d : Elaborated) (base : List ℕ) (patch : List Write) (q : ℕ) : Type 0 where
  pub underway : IsUnderway d base patch
  pub free : IsFreeIn underway.state q

-- an update with a delay would come at a time
pub record ComesAt (d : Elaborated) (base : List ℕ) (patch : List Write) (delay at : ℕ) : Type 0 where
  pub underway : IsUnderway d base patch
  pub time : underway.state.time + delay ≡ at

-- an update has a slot; or no slot is free
abbrev pub IsPosted : Elaborated → List ℕ → List Write → State → ℕ → Update → Bool → Type 0
IsPosted d base patch s delay u true = (1 ≤ free_slots s) × Holds d base patch (posted delay u s)
IsPosted d base patch s delay u false = free_slots s ≡ 0

-- why a posting at a time that does not fit ends the run
abbrev pub IsTooLate : State → ℕ → Ending → Type 0
IsTooLate s count ending = ending ≡ (if nat_lt (free_slots s) count then endings.Events else endings.Time)
