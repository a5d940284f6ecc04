-- The state of a run (docs/LANGUAGE.md, "The scheduler"; IEEE Std 1364-2005, 11.3).
use Rattle.std.specs.Prelude.{ℕ, Bool, List, [], Option, None, slice_get, slice_set, slice_index_or}
use Rattle.std.specs.Option.{option_and_then}
use Rattle.vf_fours.specs.declared.Bit.{Bit}
use Rattle.vf_fours.specs.Bits.{FourState}
use Rattle.vf_elaborated.specs.declared.design.Process.{Process}
use Rattle.vf_elaborated.specs.declared.code.Instr.{Instr}
use Rattle.vf_elaborated.specs.declared.expr.Expr.{Expr}
use Rattle.vf_elaborated.specs.Elaborated.{Elaborated}
use Rattle.vf_elaborated.specs.Values.{Elements, Scene, worth_of}

-- where a process stands: it has ended; it waits for a change of a value; it is an event of the active or inactive region, or of
-- the future at a time; or it runs
pub data Status : Type 0 where
  Halted : Status
  Waiting : Status
  Active : Status
  Inactive : Status
  Future : ℕ → Status
  Running : Status

-- a process: the place in its code, and where it stands
pub record Thread : Type 0 where
  pub place : ℕ
  pub status : Status

-- bits that a signal's element takes, from a bit on
pub record Update : Type 0 where
  pub sig : ℕ
  pub element : ℕ
  pub low : ℕ
  pub bits : List Bit

-- an event slot: free; an update at a time to come; an update of now; or a strobe of a show
pub data Slot : Type 0 where
  Free : Slot
  Later : ℕ → Update → Slot
  Due : Update → Slot
  Strobed : ℕ → Slot

-- an event is a process that goes on, or what an event slot holds
pub data Item : Type 0 where
  of_process : ℕ → Item
  of_slot : ℕ → Item

-- The time; the process that runs; the events by region, in order; the monitor's show and whether it is due; the processes, the
-- elements of the signals, the drivers' values and the event slots, each by number.
pub record State : Type 0 where
  pub time : ℕ
  pub running : Option ℕ
  pub active : List Item
  pub inactive : List Item
  pub nonblocking : List Item
  pub future : List Item
  pub strobes : List Item
  pub monitor : Option ℕ
  pub due : Bool
  pub threads : List Thread
  pub values : List Elements
  pub drivers : List (List Bit)
  pub slots : List Slot

-- ---- processes

-- where a process stands that is not there
abbrev pub no_thread : Thread
no_thread = record { place = 0; status = Halted }

abbrev pub thread_of : State → ℕ → Thread
thread_of s p = slice_index_or s.threads p no_thread

-- the instruction of a process at a place
abbrev pub instr_at : Elaborated → ℕ → ℕ → Option Instr
instr_at d p place = option_and_then (λ (process : Process). slice_get process.code place) (slice_get d.processes p)

abbrev pub put_thread : ℕ → Thread → State → State
put_thread p thread s = record s { threads = slice_set s.threads p thread }

-- the running process is at a place
abbrev pub goes_to : ℕ → ℕ → State → State
goes_to p place s = put_thread p (record { place = place; status = Running }) s

-- the running process runs no more, and stands there at a place
abbrev pub leaves : ℕ → ℕ → Status → State → State
leaves p place status s = record (put_thread p (record { place = place; status = status }) s) { running = None }

-- ---- values

abbrev pub elements_of : State → ℕ → Elements
elements_of s sig = slice_index_or s.values sig []

abbrev pub bits_of : State → ℕ → ℕ → List Bit
bits_of s sig element = slice_index_or (elements_of s sig) element []

-- what an expression may look at
abbrev pub scene_of : Bool → State → Scene
scene_of past_end s = record { values = s.values; time = s.time; past_end = past_end }

-- what an expression is worth now
abbrev pub worth : Elaborated → Bool → State → Expr → FourState
worth d past_end s e = worth_of d.signals e (scene_of past_end s)
