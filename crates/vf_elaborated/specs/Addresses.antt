-- The address of each word of a state (docs/LANGUAGE.md, "The words of a state"). Addresses count words from 0.
use Rattle.std.specs.Prelude.{ℕ, ◌+◌, ◌-◌, ◌*◌, ◌/◌, Bool, length, take, nat_lt, if◌then◌else◌}
use Rattle.std.specs.List.{list_any, sum_by}
use Rattle.vf_base.specs.declared.write.TheConstants.{PAGE_WORDS}
use Rattle.vf_elaborated.specs.declared.layout.TheConstants.{FRONT_WORDS, PROCESS_WORDS}
use Rattle.vf_elaborated.specs.declared.design.Signal.{Signal}
use Rattle.vf_elaborated.specs.Elaborated.{Elaborated}
use Rattle.vf_elaborated.specs.Layout.{value_size, drivers_begin}
use Rattle.vf_elaborated.specs.Drivers.{driver_widths}

-- ---- the front

abbrev pub TIME : ℕ
TIME = 0

abbrev pub RUNNING : ℕ
RUNNING = 1

-- the head of each list; its tail stands in the word after it, but the future has none
abbrev pub ACTIVE : ℕ
ACTIVE = 2

abbrev pub INACTIVE : ℕ
INACTIVE = 4

abbrev pub NONBLOCKING : ℕ
NONBLOCKING = 6

abbrev pub FUTURE : ℕ
FUTURE = 8

abbrev pub STROBES : ℕ
STROBES = 9

abbrev pub MONITOR : ℕ
MONITOR = 11

abbrev pub DUE : ℕ
DUE = 12

-- ---- processes

-- the place of a process; its status, link and time stand in the next three words
abbrev pub thread_at : ℕ → ℕ
thread_at p = FRONT_WORDS + PROCESS_WORDS * p

-- ---- drivers

-- the first word of a driver
unfoldable pub driver_at : Elaborated → ℕ → ℕ
driver_at d driver = drivers_begin d + sum_by value_size (take driver (driver_widths d))

-- ---- slots

abbrev pub is_wide : ℕ → Bool
is_wide width = nat_lt 64 width

-- a slot is wide where some signal is
abbrev pub has_wide : Elaborated → Bool
has_wide d = list_any (λ (signal : Signal). is_wide signal.width) d.signals

abbrev pub slots_begin : Elaborated → ℕ
slots_begin d = drivers_begin d + sum_by value_size (driver_widths d)

abbrev pub slot_size : Elaborated → ℕ
slot_size d = if has_wide d then 10 else 8

-- The kind of a slot. Its link, time, signal or show, element, and low bit with the width stand in the next five words, and then the
-- value.
unfoldable pub slot_at : Elaborated → ℕ → ℕ
slot_at d q = slots_begin d + slot_size d * q

-- the link of an event by its number: the processes, then the slots
unfoldable pub link_at : Elaborated → ℕ → ℕ
link_at d n = if nat_lt n (length d.processes) then thread_at n + 2 else slot_at d (n - length d.processes) + 1

-- ---- all of it

-- whole pages
unfoldable pub word_count : Elaborated → ℕ
word_count d = PAGE_WORDS * ((slot_at d d.slots + (PAGE_WORDS - 1)) / PAGE_WORDS)
