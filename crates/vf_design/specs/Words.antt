-- The layout of a state in 64-bit words, and the machine of a design.
use Rattle.std.specs.Prelude.{ℕ, ◌-◌, ◌^◌, List, [], ◌∷◌, ◌++◌, Option, Some, None, replicate}
use Rattle.vf_machine.specs.Machine.{Machine}
use Rattle.vf_design.specs.declared.layout.TheConstants.{SLOTS}
use Rattle.vf_design.specs.Program.{Program, word_count}
use Rattle.vf_design.specs.State.{State, Status, halted, active, running}
use Rattle.vf_design.specs.Step.{start, instruction, move_from, is_drained, is_at_read}

-- the running process + 1, or 0; the process is item 0
abbrev pub running_word : Status → ℕ
running_word halted = 0
running_word active = 0
running_word running = 1

-- the item at the head and the tail of the active list + 1, or 0
abbrev pub active_word : Status → ℕ
active_word halted = 0
active_word active = 1
active_word running = 0

abbrev pub status_word : Status → ℕ
status_word halted = 0
status_word active = 2
status_word running = 5

-- Time, the running process, then head and tail of the active, inactive and update lists, the head of the future list,
-- head and tail of the strobe list, the monitor's show + 1 and whether it is due, and three zeros. An empty list has 0.
abbrev pub queue_words : Status → List ℕ
queue_words status =
    0 ∷ running_word status ∷ active_word status ∷ active_word status ∷ 0 ∷ 0 ∷ 0 ∷ 0
    ∷ 0 ∷ 0 ∷ 0 ∷ 0 ∷ 0 ∷ 0 ∷ 0 ∷ 0 ∷ []

-- a process: its place, its status, its link in a list, and the time that it waits for
abbrev pub process_words : State → List ℕ
process_words s = s.place ∷ status_word s.status ∷ 0 ∷ 0 ∷ []

-- the bits of a value that are 1 or x
abbrev pub ones_word : Option ℕ → ℕ
ones_word None = 2 ^ 32 - 1
ones_word (Some n) = n

-- the bits of a value that are x or z
abbrev pub unknown_word : Option ℕ → ℕ
unknown_word None = 2 ^ 32 - 1
unknown_word (Some n) = 0

-- a value of up to 64 bits
abbrev pub value_words : Option ℕ → List ℕ
value_words value = ones_word value ∷ unknown_word value ∷ []

-- the words before the slots
abbrev pub front_words : State → List ℕ
front_words s = queue_words s.status ++ process_words s ++ value_words s.value

-- the event queue, the process, the variable, then the slots, all of them free, and zeros that fill the last page
abbrev pub words_of : Program → State → List ℕ
words_of p s = front_words s ++ replicate (word_count p - SLOTS) 0

-- the design as a machine
abbrev pub machine_of : Program → Machine State
machine_of p = record {
  start = start;
  drained = λ s. is_drained s.status;
  at_read = λ past_end s. is_at_read s.status (instruction p s);
  move = λ sight s. move_from p sight s s.status;
  words = words_of p;
}
