-- What is put off: nonblocking assignments, delays and strobes (docs/LANGUAGE.md, "The scheduler"; IEEE Std 1364-2005, 9.2.2, 9.7.1
-- and 11.4).
use Rattle.std.specs.Prelude.{ℕ, ◌+◌, ◌^◌, Bool, true, false, ◌==◌, List, [], ◌∷◌, ◌++◌, length, None, slice_set, slice_index_or, nat_lt, nat_le, if◌then◌else◌}
use Rattle.std.specs.List.{count_by, position_or_len}
use Rattle.vf_base.specs.declared.run.Ending.TheVariants as endings
use Rattle.vf_machine.specs.Machine.{Move, go, stop}
use Rattle.vf_scheduler.specs.State.{State, Status, Inactive, Future, Update, Slot, Free, Later, Due, Strobed, Item, of_process, of_slot, thread_of, leaves}

-- ---- slots

abbrev pub is_free : Slot → Bool
is_free Free = true
is_free _ = false

abbrev pub free_slots : State → ℕ
free_slots s = count_by is_free s.slots

abbrev pub least_free : State → ℕ
least_free s = position_or_len is_free s.slots

abbrev pub put_slot : ℕ → Slot → State → State
put_slot q slot s = record s { slots = slice_set s.slots q slot }

-- ---- the future

-- the time of an event of the future
abbrev pub time_in : Status → ℕ
time_in (Future at) = at
time_in _ = 0

abbrev pub slot_time : Slot → ℕ
slot_time (Later at u) = at
slot_time _ = 0

abbrev pub time_of : State → Item → ℕ
time_of s (of_process p) = time_in (thread_of s p).status
time_of s (of_slot q) = slot_time (slice_index_or s.slots q Free)

-- after all events that are not later
abbrev pub put_by_time : (Item → ℕ) → ℕ → Item → List Item → List Item
put_by_time times at item [] = item ∷ []
put_by_time times at item (first ∷ rest) = if nat_lt at (times first) then item ∷ first ∷ rest else first ∷ put_by_time times at item rest

-- an event joins the future; it has its time already
abbrev pub joins_future : ℕ → Item → State → State
joins_future at item s = record s { future = put_by_time (time_of s) at item s.future }

-- the last time that a clock shows
abbrev pub is_too_late : ℕ → Bool
is_too_late at = nat_le (2 ^ 64) at

-- ---- nonblocking assignments

-- an update takes the least free slot, and joins the nonblocking updates of now, or the future
abbrev pub posted : ℕ → Update → State → State
posted delay u s =
    let q = least_free s in
    if delay == 0 then record (put_slot q (Due u) s) { nonblocking = s.nonblocking ++ of_slot q ∷ [] }
    else joins_future (s.time + delay) (of_slot q) (put_slot q (Later (s.time + delay) u) s)

abbrev pub posted_all : ℕ → List Update → State → State
posted_all delay [] s = s
posted_all delay (u ∷ rest) s = posted_all delay rest (posted delay u s)

-- Too few free slots end the run, and then a time that is too late.
unfoldable pub post : ℕ → List Update → State → State → Move State
post delay updates s after =
    if nat_lt (free_slots s) (length updates) then stop endings.Events
    else (if is_too_late (s.time + delay) then stop endings.Time else go (posted_all delay updates after) [] None)

-- ---- delays

-- A delay of 0 puts the process among the inactive events; any other, into the future.
unfoldable pub delayed : ℕ → ℕ → ℕ → State → Move State
delayed p place delay s =
    if delay == 0 then go (record (leaves p place Inactive s) { inactive = s.inactive ++ of_process p ∷ [] }) [] None
    else (if is_too_late (s.time + delay) then stop endings.Time
    else go (joins_future (s.time + delay) (of_process p) (leaves p place (Future (s.time + delay)) s)) [] None)

-- ---- strobes

unfoldable pub strobe : ℕ → State → State → Move State
strobe show s after =
    let q = least_free s in
    if free_slots s == 0 then stop endings.Events
    else go (record (put_slot q (Strobed show) after) { strobes = s.strobes ++ of_slot q ∷ [] }) [] None
