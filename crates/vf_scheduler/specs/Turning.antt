-- One turn: which event is next, and time zero (docs/LANGUAGE.md, "The scheduler"; IEEE Std 1364-2005, 11.3 and 11.4).
use Rattle.std.specs.Prelude.{ℕ, ◌+◌, ◌==◌, Bool, true, false, not, List, [], ◌∷◌, length, map, replicate, Option, Some, None, slice_index_or, if◌then◌else◌}
use Rattle.std.specs.List.{filter, range_with_len}
use Rattle.vf_base.specs.declared.run.Ending.TheVariants as endings
use Rattle.vf_fours.specs.declared.Bit.{Bit}
use Rattle.vf_fours.specs.Bits.{all_x}
use Rattle.vf_machine.specs.Machine.{Move, go, stop, Sight}
use Rattle.vf_elaborated.specs.declared.design.Signal.{Signal}
use Rattle.vf_elaborated.specs.Elaborated.{Elaborated}
use Rattle.vf_elaborated.specs.Values.{Elements}
use Rattle.vf_elaborated.specs.Drivers.{driver_widths}
use Rattle.vf_scheduler.specs.State.{State, Active, Running, Slot, Free, Later, Due, Strobed, Item, of_process, of_slot, thread_of, put_thread, instr_at}
use Rattle.vf_scheduler.specs.Updating.{updated}
use Rattle.vf_scheduler.specs.Driving.{net_bits}
use Rattle.vf_scheduler.specs.Posting.{put_slot, time_of}
use Rattle.vf_scheduler.specs.Printing.{shown}
use Rattle.vf_scheduler.specs.Performing.{perform}

-- ---- an event of the active region

-- a slot is freed, and its update is performed
abbrev pub take_slot : Elaborated → ℕ → Slot → State → State
take_slot d q (Due u) s = updated d u (put_slot q Free s)
take_slot d q _ s = s

-- a process runs, or an update is performed
abbrev pub take_item : Elaborated → Item → State → State
take_item d (of_process p) s =
    record (put_thread p (record { place = (thread_of s p).place; status = Running }) s) { running = Some p }
take_item d (of_slot q) s = take_slot d q (slice_index_or s.slots q Free) s

-- ---- a region becomes active

-- a process among the inactive events, or in the future, is active
abbrev pub activated : Item → State → State
activated (of_process p) s = put_thread p (record { place = (thread_of s p).place; status = Active }) s
activated (of_slot q) s = s

abbrev pub activated_all : List Item → State → State
activated_all [] s = s
activated_all (item ∷ rest) s = activated_all rest (activated item s)

-- ---- time goes on

-- an update of the future is one of now
abbrev pub is_now : Slot → Slot
is_now (Later at u) = Due u
is_now slot = slot

abbrev pub arrived : Item → State → State
arrived (of_process p) s = activated (of_process p) s
arrived (of_slot q) s = put_slot q (is_now (slice_index_or s.slots q Free)) s

abbrev pub arrived_all : List Item → State → State
arrived_all [] s = s
arrived_all (item ∷ rest) s = arrived_all rest (arrived item s)

abbrev pub is_process : Item → Bool
is_process (of_process p) = true
is_process (of_slot q) = false

abbrev pub is_slot : Item → Bool
is_slot (of_process p) = false
is_slot (of_slot q) = true

-- the events of the first time come, in order: processes are active, and updates join the nonblocking ones
abbrev pub advanced : ℕ → State → State
advanced at s =
    let coming = filter (λ item. time_of s item == at) s.future in
    record (arrived_all coming s) {
      time = at;
      active = filter is_process coming;
      nonblocking = filter is_slot coming;
      future = filter (λ item. not (time_of s item == at)) s.future;
    }

-- ---- strobes and the monitor

abbrev pub strobe_text : Elaborated → Bool → State → Slot → List ℕ
strobe_text d past_end s (Strobed show) = shown d past_end s show
strobe_text d past_end s _ = []

abbrev pub print_strobe : Elaborated → Bool → Item → List Item → State → Move State
print_strobe d past_end (of_slot q) rest s =
    go (record (put_slot q Free s) { strobes = rest }) (strobe_text d past_end s (slice_index_or s.slots q Free)) None
print_strobe d past_end (of_process p) rest s = go (record s { strobes = rest }) [] None

abbrev pub monitor_text : Elaborated → Bool → State → Option ℕ → List ℕ
monitor_text d past_end s None = []
monitor_text d past_end s (Some show) = shown d past_end s show

-- ---- the turn

-- Once no process runs: the active region; once it is empty, the inactive events and then the nonblocking updates become active; then
-- strobes and the monitor print; then time goes on.
abbrev pub next_turn : Elaborated → Sight → State → (active inactive nonblocking strobes : List Item) → Bool → List Item → Move State
next_turn d sight s (item ∷ rest) inactive nonblocking strobes due future = go (take_item d item (record s { active = rest })) [] None
next_turn d sight s [] (item ∷ rest) nonblocking strobes due future =
    go (record (activated_all (item ∷ rest) s) { active = item ∷ rest; inactive = [] }) [] None
next_turn d sight s [] [] (item ∷ rest) strobes due future = go (record s { active = item ∷ rest; nonblocking = [] }) [] None
next_turn d sight s [] [] [] (item ∷ rest) due future = print_strobe d sight.past_end item rest s
next_turn d sight s [] [] [] [] true future = go (record s { due = false }) (monitor_text d sight.past_end s s.monitor) None
next_turn d sight s [] [] [] [] false (item ∷ rest) = go (advanced (time_of s item) s) [] None
next_turn d sight s [] [] [] [] false [] = stop endings.Drained

-- A running process does its instruction.
abbrev pub turn_by : Elaborated → Sight → State → Option ℕ → Move State
turn_by d sight s (Some p) =
    let place = (thread_of s p).place in
    perform d sight p place s (instr_at d p place)
turn_by d sight s None = next_turn d sight s s.active s.inactive s.nonblocking s.strobes s.due s.future

unfoldable pub turn_of : Elaborated → Sight → State → Move State
turn_of d sight s = turn_by d sight s s.running

-- ---- time zero

-- each driver has x (own)
abbrev pub first_drivers : Elaborated → List (List Bit)
first_drivers d = map all_x (driver_widths d)

-- a variable is x, and a net is what its drivers make of it (4.2.2)
abbrev pub first_elements : Elaborated → ℕ → Signal → Elements
first_elements d sig signal =
    replicate signal.elements (if signal.net then net_bits d (first_drivers d) sig signal.width else all_x signal.width)

abbrev pub elements_from : Elaborated → ℕ → List Signal → List Elements
elements_from d sig [] = []
elements_from d sig (signal ∷ rest) = first_elements d sig signal ∷ elements_from d (sig + 1) rest

-- every process is at its first place, and active in number order
unfoldable pub start : Elaborated → State
start d = record {
  time = 0;
  running = None;
  active = map of_process (range_with_len 0 (length d.processes));
  inactive = [];
  nonblocking = [];
  future = [];
  strobes = [];
  monitor = None;
  due = false;
  threads = replicate (length d.processes) (record { place = 0; status = Active });
  values = elements_from d 0 d.signals;
  drivers = first_drivers d;
  slots = replicate d.slots Free;
}
