-- Why a run of the farm stops, and where it stands then (docs/FARM.md, "Running").
use Rattle.std.specs.Prelude.{◌≡◌, ℕ, ◌+◌, Bool, true, false, List, ◌∷◌, Option, Some, None}
use Rattle.vf_base.specs.declared.names.Job.{Job}
use Rattle.vf_base.specs.declared.names.Job.TheVariants.{Reach, Finish}
use Rattle.vf_base.specs.declared.names.NodeNo.{NodeNo}
use Rattle.vf_machine.specs.Run.{reads_next}
use Rattle.vf_design.specs.declared.turn.Turn.{Turn}
use Rattle.vf_design.specs.Words.{machine_of}
use Rattle.vf_jobs.specs.Kinds.{save_at, is_passed}
use Rattle.vf_jobs.specs.Setup.{Conditions}
use Rattle.vf_frames.specs.declared.holder.Holder.{Holder}
use Rattle.vf_frames.specs.Calls.{capped, NotesGrow, SameRest}
use Rattle.vf_frames.specs.Holders.{Accounts}
use Rattle.vf_pages.specs.Calls.{IsShort, ShortAmong}
use Rattle.vf_image.specs.Calls.{Stayed}
use Rattle.vf_image.specs.Runs.{stimulus_of, limits_for, moment_in}
use Rattle.vf_image.specs.Simulators.{Simulator, IsNext}
use Rattle.vf_image.specs.Standing.{IsAtSave, IsPassing, IsEnding, Needs}
use Rattle.vf_run.specs.declared.stop.Stop.{Stop}
use Rattle.vf_run.specs.declared.stop.Stop.TheVariants.{AtSave, ReadPast, Ended, Short, Memory}

-- what a token has kept: its misses, its parts and its name; notes only grow
pub record HasKept (first now : Holder) : Type 0 where
  pub rest : SameRest first now
  pub notes : NotesGrow (λ _. Unit {0}) first.notes now.notes

-- A frame was wanted for the next turn of a simulator that is as it was, but for misses and notes, and whose misses rose in this call.
pub record FellShort (pages : ℕ) (numbers : Option (List ℕ)) (first : Holder) (s : Simulator) : Type 0 where
  pub before : Simulator
  pub kept : HasKept first before.pages.holder
  pub turn : Turn
  pub stayed : Stayed before s
  pub next : IsNext before turn
  pub needs : Needs s pages
  pub short : IsShort pages turn.writes.items before.pages s.pages
  pub is_short : s.short ≡ true
  pub among : (others : List Holder) → Accounts numbers (first ∷ others) → ShortAmong pages turn.writes.items before.pages others

-- The run stops there for that reason: at the save point of the node that it reaches, with that kind of checkpoint; where it would read
-- past the node's stimulus; at its ending; short of a frame, with so many pages; or out of memory.
abbrev pub Stops : Option (List ℕ) → Holder → Simulator → Stop → Type 0
Stops numbers first s (AtSave kind) = (node : NodeNo) × IsAtSave s node × (s.saved ≡ Some kind)
Stops numbers first s ReadPast = (node : NodeNo) × IsPassing s node
Stops numbers first s (Ended ending turns) = IsEnding s ending turns
Stops numbers first s (Short pages) = FellShort pages numbers first s
Stops numbers first s Memory = Unit {0}

-- the turns that the run has made when it stops: those of the simulator, and the ending turn where it counts
abbrev pub turns_made : Simulator → Stop → ℕ
turns_made s (AtSave kind) = s.header.turns
turns_made s ReadPast = s.header.turns
turns_made s (Ended ending turns) = turns
turns_made s (Short pages) = s.header.turns
turns_made s Memory = s.header.turns

-- the misses of the token when the run stops: one more where it fell short
abbrev pub misses_after : Stop → ℕ → ℕ
misses_after (AtSave kind) n = n
misses_after ReadPast n = n
misses_after (Ended ending turns) n = n
misses_after (Short pages) n = capped (n + 1)
misses_after Memory n = n

-- what the token of a simulator is when its run stops
pub record TokenAt (stop : Stop) (first now : Holder) : Type 0 where
  pub misses : now.misses ≡ misses_after stop first.misses
  pub parts : now.parts ≡ first.parts
  pub name : now.name ≡ first.name
  pub notes : NotesGrow (λ _. Unit {0}) first.notes now.notes

-- ---- what is asked before a turn

-- the run is at no save point
abbrev pub IsUnsaved : Conditions → Job → ℕ → Type 0
IsUnsaved c (Finish node) k = Unit {0}
IsUnsaved c (Reach node) k = save_at (machine_of c.design) (stimulus_of c (Reach node)) (limits_for c (Reach node)) k ≡ None

-- whether the next turn would read past the stimulus of the node that is reached
abbrev pub IsAnswer : Conditions → Job → ℕ → Bool → Type 0
IsAnswer c (Finish node) k answer = answer ≡ false
IsAnswer c (Reach node) k answer = answer ≡ is_passed (machine_of c.design) (stimulus_of c (Reach node)) (limits_for c (Reach node)) k

-- whether the next turn reads the stimulus
abbrev pub reads_in : Simulator → Bool
reads_in s = reads_next (machine_of s.setup.design) (stimulus_of s.setup s.job) (moment_in s.setup s.job s.header.turns)
