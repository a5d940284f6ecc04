-- What a change of one part of a state writes into its words (docs/LANGUAGE.md, "The words of a state").
use Rattle.std.specs.Prelude.{◌≡◌, ℕ, ◌+◌, ◌<◌, Bool, Option, List, length, slice_set, slice_index_or}
use Rattle.vf_fours.specs.declared.Bit.{Bit}
use Rattle.vf_elaborated.specs.Elaborated.{Elaborated}
use Rattle.vf_elaborated.specs.Layout.{IsElement, width_at, address_of}
use Rattle.vf_elaborated.specs.Drivers.{driver_widths}
use Rattle.vf_elaborated.specs.Addresses.{is_wide, has_wide, TIME, RUNNING, MONITOR, DUE, thread_at, driver_at, slot_at}
use Rattle.vf_scheduler.specs.State.{State, Thread, thread_of, put_thread, elements_of, Update, Slot, Later, Due}
use Rattle.vf_scheduler.specs.Posting.{put_slot, time_in}
use Rattle.vf_scheduler.specs.Sound.{slot_of}
use Rattle.vf_scheduler.specs.Words.{link, flag, status_word, value_words, slot_words, link_of, words_of}
use Rattle.vf_layout.specs.Puts.{put_all}

-- ---- the front

-- a word of the front by itself, in any state
pub record FrontChanges (d : Elaborated) (s : State) : Type 0 where
  pub time : (time : ℕ) → words_of d (record s { time = time }) ≡ slice_set (words_of d s) TIME time
  pub running : (running : Option ℕ) → words_of d (record s { running = running }) ≡ slice_set (words_of d s) RUNNING (link running)
  pub monitor : (monitor : Option ℕ) → words_of d (record s { monitor = monitor }) ≡ slice_set (words_of d s) MONITOR (link monitor)
  pub due : (due : Bool) → words_of d (record s { due = due }) ≡ slice_set (words_of d s) DUE (flag due)

-- ---- processes

-- place, status and time are written, and the link stays
abbrev pub written_thread : ℕ → Thread → List ℕ → List ℕ
written_thread p thread words =
    slice_set (slice_set (slice_set words (thread_at p) thread.place) (thread_at p + 1) (status_word thread.status)) (thread_at p + 3) (time_in thread.status)

-- a process of the design
pub record ThreadChanges (d : Elaborated) (s : State) (p : ℕ) : Type 0 where
  pub thread : (thread : Thread) → words_of d (put_thread p thread s) ≡ written_thread p thread (words_of d s)
  -- the place alone
  pub place : (place : ℕ) → words_of d (put_thread p (record { place = place; status = (thread_of s p).status }) s) ≡ slice_set (words_of d s) (thread_at p) place

-- ---- values

-- a value of the old width is written over the old one
abbrev pub written_value : ℕ → List Bit → List ℕ → List ℕ
written_value at bits words = put_all at (value_words (is_wide (length bits)) bits) words

abbrev pub ValueChanges : Elaborated → State → Type 0
ValueChanges d s =
    (sig element : ℕ) (bits : List Bit) → IsElement d sig element → length bits ≡ width_at d sig
    → words_of d (record s { values = slice_set s.values sig (slice_set (elements_of s sig) element bits) }) ≡ written_value (address_of d sig element) bits (words_of d s)

abbrev pub DriverChanges : Elaborated → State → Type 0
DriverChanges d s =
    (driver : ℕ) (bits : List Bit) → driver < length (driver_widths d) → length bits ≡ slice_index_or (driver_widths d) driver 0
    → words_of d (record s { drivers = slice_set s.drivers driver bits }) ≡ written_value (driver_at d driver) bits (words_of d s)

-- ---- slots

-- all words of a slot are written, among them its link as it is
abbrev pub SlotChanges : Elaborated → State → Type 0
SlotChanges d s =
    (q : ℕ) (slot : Slot) → q < d.slots
    → words_of d (put_slot q slot s) ≡ put_all (slot_at d q) (slot_words (has_wide d) (link_of d s) (length d.processes + q, slot)) (words_of d s)

-- an update of the future is one of now: its kind and time are written, and the rest stays
abbrev pub UpdateComes : Elaborated → State → Type 0
UpdateComes d s =
    (q at : ℕ) (u : Update) → q < d.slots → slot_of s q ≡ Later at u
    → words_of d (put_slot q (Due u) s) ≡ slice_set (slice_set (words_of d s) (slot_at d q) 2) (slot_at d q + 2) 0

-- ---- all of it

pub record Changes (d : Elaborated) (s : State) : Type 0 where
  pub threads : (p : ℕ) → p < length d.processes → ThreadChanges d s p
  pub values : ValueChanges d s
  pub drivers : DriverChanges d s
  pub slots : SlotChanges d s
  pub comes : UpdateComes d s
