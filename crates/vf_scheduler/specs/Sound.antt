-- Which states are sound: those that a run may be in (docs/LANGUAGE.md, "The scheduler").
use Rattle.std.specs.Prelude.{◌≡◌, ℕ, ◌+◌, ◌^◌, ◌<◌, ◌≤◌, Bool, true, false, ◌==◌, List, [], ◌∷◌, ◌++◌, length, map, Option, Some, None, slice_get, slice_index_or, is_some, if◌then◌else◌, IfSome, IsSomeAnd, ⊤}
use Rattle.std.specs.List.{All, AllZip}
use Rattle.vf_elaborated.specs.declared.design.Signal.{Signal}
use Rattle.vf_elaborated.specs.declared.design.Process.{Process}
use Rattle.vf_elaborated.specs.Elaborated.{Elaborated}
use Rattle.vf_elaborated.specs.Shapes.{FitsSignal}
use Rattle.vf_elaborated.specs.Drivers.{driver_widths}
use Rattle.vf_scheduler.specs.State.{State, Status, Active, Inactive, Future, Running, Thread, Update, Slot, Free, Later, Due, Strobed, Item, of_process, of_slot, thread_of}
use Rattle.vf_scheduler.specs.Posting.{time_of}

-- ---- events and lists

abbrev pub same_item : Item → Item → Bool
same_item (of_process p) (of_process q) = p == q
same_item (of_process p) (of_slot q) = false
same_item (of_slot p) (of_process q) = false
same_item (of_slot p) (of_slot q) = p == q

-- how often an event stands in a list
abbrev pub times : Item → List Item → ℕ
times item [] = 0
times item (other ∷ rest) = (if same_item item other then 1 else 0) + times item rest

-- the events of all regions
abbrev pub events : State → List Item
events s = s.inactive ++ (s.nonblocking ++ (s.future ++ (s.strobes ++ s.active)))

-- the events of the regions that a process with a status, or a slot with its contents, may stand in
abbrev pub region_of : State → Status → List Item
region_of s Active = s.active
region_of s Inactive = s.inactive
region_of s (Future at) = s.future
region_of s _ = []

abbrev pub slot_region : State → Slot → List Item
slot_region s Free = []
slot_region s (Later at u) = s.future
slot_region s (Due u) = s.nonblocking ++ s.active
slot_region s (Strobed show) = s.strobes

-- how often it stands in a list: once, or not at all
abbrev pub listed : Status → ℕ
listed Active = 1
listed Inactive = 1
listed (Future at) = 1
listed _ = 0

abbrev pub slot_listed : Slot → ℕ
slot_listed Free = 0
slot_listed _ = 1

-- an event stands so often in a region, and nowhere else
pub record Stands (s : State) (item : Item) (region : List Item) (often : ℕ) : Type 0 where
  pub there : times item region ≡ often
  pub alone : times item (events s) ≡ often

abbrev pub slot_of : State → ℕ → Slot
slot_of s q = slice_index_or s.slots q Free

abbrev pub is_running : Status → Bool
is_running Running = true
is_running _ = false

abbrev pub names : Option ℕ → ℕ → Bool
names None p = false
names (Some q) p = q == p

-- times that rise, from a time on
abbrev pub Rises : ℕ → List ℕ → Type 0
Rises from [] = ⊤
Rises from (at ∷ rest) = (from ≤ at) × Rises at rest

-- ---- values

-- an update gives one bit or more to bits that are there
pub record FitsIn (u : Update) (signal : Signal) : Type 0 where
  pub element : u.element < signal.elements
  pub some : 1 ≤ length u.bits
  pub inside : u.low + length u.bits ≤ signal.width

abbrev pub IsUpdate : Elaborated → Update → Type 0
IsUpdate d u = IsSomeAnd (slice_get d.signals u.sig) (FitsIn u)

abbrev pub IsSlot : Elaborated → Slot → Type 0
IsSlot d Free = ⊤
IsSlot d (Later at u) = IsUpdate d u
IsSlot d (Due u) = IsUpdate d u
IsSlot d (Strobed show) = show < length d.shows

-- ---- states

pub record IsSound (d : Elaborated) (s : State) : Type 0 where
  -- the state has what the design names
  pub threads : AllZip (λ (process : Process) (thread : Thread). thread.place < length process.code) d.processes s.threads
  pub values : AllZip FitsSignal d.signals s.values
  pub drivers : map length s.drivers ≡ driver_widths d
  pub slot_count : length s.slots ≡ d.slots
  pub slots : All (IsSlot d) s.slots
  -- each process stands in the list that its status names, and each slot in one that fits what it holds
  pub processes_stand : (p : ℕ) → Stands s (of_process p) (region_of s (thread_of s p).status) (listed (thread_of s p).status)
  pub slots_stand : (q : ℕ) → Stands s (of_slot q) (slot_region s (slot_of s q)) (slot_listed (slot_of s q))
  -- the process that runs is the one with that status
  pub running : (p : ℕ) → is_running (thread_of s p).status ≡ names s.running p
  -- the future rises, and all of it is later than now
  pub future : Rises (s.time + 1) (map (time_of s) s.future)
  pub time : s.time < 2 ^ 64
  pub times : All (λ item. time_of s item < 2 ^ 64) s.future
  pub monitor : IfSome s.monitor (λ show. show < length d.shows)
  pub due : s.due ≡ true → is_some s.monitor ≡ true
