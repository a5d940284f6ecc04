-- One turn of an early design, and the design as a machine.
use Rattle.std.specs.Prelude.{ℕ, ◌+◌, ◌-◌, ◌%◌, ◌^◌, Bool, true, false, not, ◌==◌, List, [], ◌∷◌, Option, Some, None, slice_get, if◌then◌else◌}
use Rattle.vf_base.specs.declared.run.SaveKind.TheVariants.{Full, Incr}
use Rattle.vf_base.specs.declared.run.Ending.TheVariants as endings
use Rattle.vf_design.specs.declared.code.Instr.{Instr}
use Rattle.vf_design.specs.declared.code.Instr.TheVariants.{Getc, Jump, Unless, Show, Save, IncSave, Finish, Halt}
use Rattle.vf_design.specs.declared.code.Condition.{Condition}
use Rattle.vf_machine.specs.Machine.{Move, go, stop, Sight}
use Rattle.vf_design.specs.Program.{Program}
use Rattle.vf_design.specs.State.{State, Status, halted, active, running}

-- time zero: the process is at its first place and in the active list, and the integer is x (4.2.2)
abbrev pub start : State
start = record { place = 0; status = active; value = None }

-- the instruction at the process's place
abbrev pub instruction : Program → State → Option Instr
instruction p s = slice_get p.code s.place

-- `$fgetc` gives the next byte, or -1 where none is left
abbrev pub read_value : Option ℕ → ℕ
read_value None = 2 ^ 32 - 1
read_value (Some byte) = byte

-- whether `==` or `!=` is true; with an x neither is (5.1.8)
abbrev pub holds : Condition → Option ℕ → Bool
holds condition None = false
holds condition (Some n) = if condition.equal then n == condition.number else not (n == condition.number)

-- what `%c` writes: the low eight bits, an x as 0
abbrev pub shown : Option ℕ → List ℕ
shown None = 0 ∷ []
shown (Some n) = (n % 256) ∷ []

-- the process goes on to a place
abbrev pub at : State → ℕ → State
at s place = record s { place = place }

-- the turn of a running process: its instruction is done
abbrev pub perform : Sight → State → Option Instr → Move State
perform sight s (Some Getc) = go (record s { place = s.place + 1; value = Some (read_value sight.byte) }) [] None
perform sight s (Some (Jump to)) = go (at s to) [] None
perform sight s (Some (Unless condition to)) = go (at s (if holds condition s.value then s.place + 1 else to)) [] None
perform sight s (Some Show) = go (at s (s.place + 1)) (shown s.value) None
perform sight s (Some Save) = go (at s (s.place + 1)) [] (Some Full)
perform sight s (Some IncSave) = go (at s (s.place + 1)) [] (Some Incr)
perform sight s (Some (Finish n)) = stop (endings.Finish n)
perform sight s (Some Halt) = go (record s { status = halted }) [] None
-- a sound state has an instruction at its place
perform sight s None = stop endings.Drained

-- The turn by the process's status. An active process is taken from the active list and runs (11.4). A halted one
-- leaves no event, and its turn is never asked for.
abbrev pub move_from : Program → Sight → State → Status → Move State
move_from p sight s running = perform sight s (instruction p s)
move_from p sight s active = go (record s { status = running }) [] None
move_from p sight s halted = stop endings.Drained

abbrev pub is_drained : Status → Bool
is_drained halted = true
is_drained active = false
is_drained running = false

-- a process runs, and its instruction reads the stimulus
abbrev pub is_at_read : Status → Option Instr → Bool
is_at_read running (Some Getc) = true
is_at_read _ _ = false
