-- Which word stands at which address, by the names of the layout.
use Rattle.std.specs.Prelude.{◌≡◌, ℕ, ◌+◌, ◌≤◌, List, Option, slice_index}
use Rattle.vf_design.specs.declared.layout.TheConstants.{TIME, RUNNING, ACTIVE_HEAD, ACTIVE_TAIL, INACTIVE_HEAD, INACTIVE_TAIL, UPDATE_HEAD, UPDATE_TAIL, FUTURE_HEAD, STROBE_HEAD, STROBE_TAIL, MONITOR, MONITOR_DUE, PROCESSES, PLACE, STATUS, LINK, WAKE, VALUES, ONES, UNKNOWN, SLOTS}
use Rattle.vf_design.specs.State.{State}
use Rattle.vf_design.specs.Words.{running_word, active_word, status_word, ones_word, unknown_word}

-- a list's head and tail
abbrev pub HoldsList : List ℕ → ℕ → ℕ → ℕ → Type 0
HoldsList words head tail item = (slice_index words head ≡ item) × (slice_index words tail ≡ item)

-- the words of a process that is in a list with no other
pub record HoldsProcess (words : List ℕ) (at : ℕ) (s : State) : Type 0 where
  pub place : slice_index words (at + PLACE) ≡ s.place
  pub status : slice_index words (at + STATUS) ≡ status_word s.status
  pub link : slice_index words (at + LINK) ≡ 0
  pub wake : slice_index words (at + WAKE) ≡ 0

-- the words of a value of up to 64 bits
pub record HoldsValue (words : List ℕ) (at : ℕ) (value : Option ℕ) : Type 0 where
  pub ones : slice_index words (at + ONES) ≡ ones_word value
  pub unknown : slice_index words (at + UNKNOWN) ≡ unknown_word value

-- these words stand at their addresses
pub record IsLaidOut (words : List ℕ) (s : State) : Type 0 where
  pub time : slice_index words TIME ≡ 0
  pub running : slice_index words RUNNING ≡ running_word s.status
  pub active : HoldsList words ACTIVE_HEAD ACTIVE_TAIL (active_word s.status)
  pub inactive : HoldsList words INACTIVE_HEAD INACTIVE_TAIL 0
  pub update : HoldsList words UPDATE_HEAD UPDATE_TAIL 0
  pub future : slice_index words FUTURE_HEAD ≡ 0
  pub strobe : HoldsList words STROBE_HEAD STROBE_TAIL 0
  pub monitor : (slice_index words MONITOR ≡ 0) × (slice_index words MONITOR_DUE ≡ 0)
  pub process : HoldsProcess words PROCESSES s
  pub value : HoldsValue words VALUES s.value
  pub slots : (at : ℕ) → SLOTS ≤ at → slice_index words at ≡ 0
