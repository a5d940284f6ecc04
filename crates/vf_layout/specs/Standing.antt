-- What stands at each address of the words of a state (docs/LANGUAGE.md, "The words of a state").
use Rattle.std.specs.Prelude.{◌≡◌, ℕ, ◌+◌, ◌<◌, List, [], length, slice_index, slice_index_or}
use Rattle.vf_fours.specs.declared.Bit.{Bit}
use Rattle.vf_elaborated.specs.Elaborated.{Elaborated}
use Rattle.vf_elaborated.specs.Layout.{IsElement, address_of}
use Rattle.vf_elaborated.specs.Drivers.{driver_widths}
use Rattle.vf_elaborated.specs.Addresses.{is_wide, has_wide, TIME, RUNNING, ACTIVE, INACTIVE, NONBLOCKING, FUTURE, STROBES, MONITOR, DUE, thread_at, driver_at, slot_at, word_count}
use Rattle.vf_scheduler.specs.State.{State, thread_of, bits_of}
use Rattle.vf_scheduler.specs.Posting.{time_in}
use Rattle.vf_scheduler.specs.Sound.{slot_of}
use Rattle.vf_scheduler.specs.Words.{link, head, tail, flag, status_word, value_words, slot_words, numbers, link_of}
use Rattle.vf_layout.specs.Puts.{StandsAt}

-- the ends of a list of events, by their numbers: 0 where it is empty
pub record EndsStand (words : List ℕ) (at : ℕ) (list : List ℕ) : Type 0 where
  pub head_is : slice_index words at ≡ link (head list)
  pub tail_is : slice_index words (at + 1) ≡ link (tail list)

pub record FrontStands (d : Elaborated) (s : State) (words : List ℕ) : Type 0 where
  pub time : slice_index words TIME ≡ s.time
  pub running : slice_index words RUNNING ≡ link s.running
  pub active : EndsStand words ACTIVE (numbers d s s.active)
  pub inactive : EndsStand words INACTIVE (numbers d s s.inactive)
  pub nonblocking : EndsStand words NONBLOCKING (numbers d s s.nonblocking)
  pub future : slice_index words FUTURE ≡ link (head (numbers d s s.future))
  pub strobes : EndsStand words STROBES (numbers d s s.strobes)
  pub monitor : slice_index words MONITOR ≡ link s.monitor
  pub due : slice_index words DUE ≡ flag s.due

pub record ThreadStands (d : Elaborated) (s : State) (words : List ℕ) (p : ℕ) : Type 0 where
  pub place : slice_index words (thread_at p) ≡ (thread_of s p).place
  pub status : slice_index words (thread_at p + 1) ≡ status_word (thread_of s p).status
  pub link_is : slice_index words (thread_at p + 2) ≡ link_of d s p
  pub time : slice_index words (thread_at p + 3) ≡ time_in (thread_of s p).status

-- the words of a value, the low 64 bits first
abbrev pub ValueStands : List ℕ → ℕ → List Bit → Type 0
ValueStands words at bits = StandsAt words at (value_words (is_wide (length bits)) bits)

-- the whole of a state
pub record Stands (d : Elaborated) (s : State) (words : List ℕ) : Type 0 where
  pub long : length words ≡ word_count d
  pub front : FrontStands d s words
  pub threads : (p : ℕ) → p < length d.processes → ThreadStands d s words p
  pub values : (sig element : ℕ) → IsElement d sig element → ValueStands words (address_of d sig element) (bits_of s sig element)
  pub drivers : (driver : ℕ) → driver < length (driver_widths d) → ValueStands words (driver_at d driver) (slice_index_or s.drivers driver [])
  pub slots : (q : ℕ) → q < d.slots → StandsAt words (slot_at d q) (slot_words (has_wide d) (link_of d s) (length d.processes + q, slot_of s q))
