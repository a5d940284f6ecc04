-- The laws of the machine of a design. Each is the contract of a function of `laws`.
use Rattle.std.specs.Prelude.{◌≡◌, true, List, ℕ}
use Rattle.vf_base.specs.declared.run.Limits.{Limits}
use Rattle.vf_machine.specs.Machine.{Sight}
use Rattle.vf_machine.specs.Laws.{IsStimulus, GoesOn}
use Rattle.vf_machine.specs.Run.{moment_at}
use Rattle.vf_design.specs.Program.{Program, IsWellFormed}
use Rattle.vf_design.specs.State.{State, IsSound}
use Rattle.vf_design.specs.Words.{words_of, machine_of}
use Rattle.vf_design.specs.Layout.{IsLaidOut}

-- every state of a run is sound
abbrev pub RunsAreSound : Type 0
RunsAreSound =
    (p : Program) (stim : List ℕ) (limits : Limits) (k : ℕ) → IsWellFormed p → IsStimulus stim → IsSound p (moment_at (machine_of p) stim limits k).state

-- sound states with equal words are equal
abbrev pub WordsTellTheState : Type 0
WordsTellTheState = (p : Program) (s t : State) → IsSound p s → IsSound p t → words_of p s ≡ words_of p t → s ≡ t

-- each word of a sound state stands at its address
abbrev pub WordsAreLaidOut : Type 0
WordsAreLaidOut = (p : Program) (s : State) → IsSound p s → IsLaidOut (words_of p s) s

-- a turn that reads the stimulus never ends the run by itself
abbrev pub ReadsGoOn : Type 0
ReadsGoOn = (p : Program) (s : State) (sight : Sight) → IsSound p s → (machine_of p).at_read sight.past_end s ≡ true → GoesOn (machine_of p) sight s
