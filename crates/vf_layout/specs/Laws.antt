-- The laws of the words of a state. Each is the contract of a function of `laws`.
use Rattle.std.specs.Prelude.{◌≡◌, Bool, [], length}
use Rattle.std.specs.List.{AllZip}
use Rattle.vf_elaborated.specs.Elaborated.{Elaborated}
use Rattle.vf_elaborated.specs.Layout.{scene_at, HoldsValues}
use Rattle.vf_elaborated.specs.Shapes.{FitsSignal}
use Rattle.vf_scheduler.specs.State.{State, scene_of}
use Rattle.vf_scheduler.specs.Sound.{IsSound}
use Rattle.vf_scheduler.specs.Words.{words_of}
use Rattle.vf_layout.specs.Addresses.{HasShape}
use Rattle.vf_layout.specs.Standing.{Stands}
use Rattle.vf_layout.specs.Changes.{FrontChanges, Changes}
use Rattle.vf_layout.specs.Regions.{IsQueued, RegionChanges, RegionMoves}

-- the words hold the values, and an expression may look at the same in both
pub record Holds (d : Elaborated) (s : State) : Type 0 where
  pub values : HoldsValues d (words_of d s)
  pub scenes : (past_end : Bool) → scene_at d past_end (words_of d s) ≡ scene_of past_end s

abbrev pub WordsHoldTheValues : Type 0
WordsHoldTheValues = (d : Elaborated) (s : State) → length s.threads ≡ length d.processes → AllZip FitsSignal d.signals s.values → Holds d s

-- each word stands at its address
abbrev pub WordsStand : Type 0
WordsStand = (d : Elaborated) (s : State) → HasShape d s → Stands d s (words_of d s)

-- a word of the front that changes is written
abbrev pub FrontIsWritten : Type 0
FrontIsWritten = (d : Elaborated) (s : State) → FrontChanges d s

-- a process, a value, a driver or a slot that changes is written over its old words
abbrev pub ChangesAreWritten : Type 0
ChangesAreWritten = (d : Elaborated) (s : State) → HasShape d s → Changes d s

-- an event that joins a list or is taken from one writes the ends of the list and the links
abbrev pub RegionsAreWritten : Type 0
RegionsAreWritten = (d : Elaborated) (s : State) → HasShape d s → IsQueued d s → RegionChanges d s

-- a list that becomes the active one writes the ends of both, in any state
abbrev pub RegionsMove : Type 0
RegionsMove = (d : Elaborated) (s : State) → s.active ≡ [] → RegionMoves d s

-- a state has what the laws above ask for
pub record IsWritten (d : Elaborated) (s : State) : Type 0 where
  pub shape : HasShape d s
  pub queued : IsQueued d s

abbrev pub SoundIsWritten : Type 0
SoundIsWritten = (d : Elaborated) (s : State) → IsSound d s → IsWritten d s
