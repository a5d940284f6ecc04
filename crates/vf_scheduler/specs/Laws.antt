-- The laws of the scheduler. Each is the contract of a function of `laws`.
use Rattle.std.specs.Prelude.{◌≡◌, true, false, ⊤}
use Rattle.vf_machine.specs.Machine.{Move, go, stop, Sight, stops}
use Rattle.vf_elaborated.specs.Elaborated.{Elaborated}
use Rattle.vf_elaborated.specs.WellFormed.{IsWellFormed}
use Rattle.vf_scheduler.specs.Turning.{start, turn_of}
use Rattle.vf_scheduler.specs.State.{State}
use Rattle.vf_scheduler.specs.Seeing.{is_drained, is_at_read}
use Rattle.vf_scheduler.specs.Sound.{IsSound}
use Rattle.vf_scheduler.specs.Words.{words_of}

-- time zero of a well-formed design is sound
abbrev pub StartIsSound : Type 0
StartIsSound = (d : Elaborated) → IsWellFormed d → IsSound d (start d)

-- a move goes on to a sound state, or ends the run and changes no state
abbrev pub LeadsToSound : Elaborated → Move State → Type 0
LeadsToSound d (go next text save) = IsSound d next
LeadsToSound d (stop ending) = ⊤

-- whatever a turn reads, it keeps a state of a well-formed design sound
abbrev pub StepIsSound : Type 0
StepIsSound = (d : Elaborated) (s : State) (sight : Sight) → IsWellFormed d → IsSound d s → LeadsToSound d (turn_of d sight s)

-- sound states of a well-formed design with equal words are equal
abbrev pub WordsTellTheState : Type 0
WordsTellTheState = (d : Elaborated) (s t : State) → IsWellFormed d → IsSound d s → IsSound d t → words_of d s ≡ words_of d t → s ≡ t

-- an event is left, and the turn by itself ends no run
pub record GoesOn (d : Elaborated) (sight : Sight) (s : State) : Type 0 where
  pub event : is_drained s ≡ false
  pub move : stops (turn_of d sight s) ≡ false

-- a turn that reads the stimulus never ends the run by itself
abbrev pub ReadsGoOn : Type 0
ReadsGoOn = (d : Elaborated) (s : State) (sight : Sight) → is_at_read d sight.past_end s ≡ true → GoesOn d sight s
