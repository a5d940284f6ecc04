-- The 64-bit words of a state (docs/LANGUAGE.md, "The words of a state").
use Rattle.std.specs.Prelude.{ℕ, ◌+◌, ◌-◌, ◌*◌, ◌/◌, ◌%◌, ◌^◌, Bool, true, false, ◌==◌, List, [], ◌∷◌, ◌++◌, length, map, replicate, Option, Some, None, if◌then◌else◌}
use Rattle.std.specs.List.{flat_map, enumerate_from}
use Rattle.std.specs.Option.{option_or}
use Rattle.vf_base.specs.declared.write.TheConstants.{PAGE_WORDS}
use Rattle.vf_fours.specs.declared.Bit.{Bit}
use Rattle.vf_fours.specs.Planes.{ones_of, unknown_of}
use Rattle.vf_elaborated.specs.Elaborated.{Elaborated}
use Rattle.vf_elaborated.specs.Values.{Elements}
use Rattle.vf_elaborated.specs.Addresses.{is_wide, has_wide}
use Rattle.vf_scheduler.specs.State.{State, Status, Halted, Waiting, Active, Inactive, Future, Running, Thread, Update, Slot, Free, Later, Due, Strobed, Item, of_process, of_slot}
use Rattle.vf_scheduler.specs.Posting.{time_in}

-- ---- lists

-- an event as a number: the processes, then the slots
abbrev pub item_number : ℕ → Item → ℕ
item_number processes (of_process p) = p
item_number processes (of_slot q) = processes + q

-- a number that may lack: itself + 1, or 0
abbrev pub link : Option ℕ → ℕ
link None = 0
link (Some n) = n + 1

abbrev pub head : List ℕ → Option ℕ
head [] = None
head (n ∷ rest) = Some n

abbrev pub tail : List ℕ → Option ℕ
tail [] = None
tail (n ∷ []) = Some n
tail (n ∷ next ∷ rest) = tail (next ∷ rest)

-- the number that follows a number in a list
abbrev pub next_in : ℕ → List ℕ → Option ℕ
next_in n [] = None
next_in n (m ∷ rest) = if m == n then head rest else next_in n rest

-- the number that follows a number in one of some lists
abbrev pub next_among : ℕ → List (List ℕ) → Option ℕ
next_among n [] = None
next_among n (list ∷ rest) = option_or (next_in n list) (next_among n rest)

-- ---- values

-- a value of up to 64 bits: its 1s and xs, then its xs and zs
abbrev pub narrow_words : List Bit → List ℕ
narrow_words bits = ones_of bits ∷ unknown_of bits ∷ []

-- above 64 bits the low 64 stand first
abbrev pub wide_words : List Bit → List ℕ
wide_words bits =
    ones_of bits % 2 ^ 64 ∷ unknown_of bits % 2 ^ 64 ∷ ones_of bits / 2 ^ 64 ∷ unknown_of bits / 2 ^ 64 ∷ []

abbrev pub value_words : Bool → List Bit → List ℕ
value_words wide bits = if wide then wide_words bits else narrow_words bits

abbrev pub element_words : Elements → List ℕ
element_words elements = flat_map (λ bits. value_words (is_wide (length bits)) bits) elements

-- ---- processes and slots

abbrev pub status_word : Status → ℕ
status_word Halted = 0
status_word Waiting = 1
status_word Active = 2
status_word Inactive = 3
status_word (Future at) = 4
status_word Running = 5

-- place, status, link and time of the processes from a number on
abbrev pub thread_words : (ℕ → ℕ) → ℕ × Thread → List ℕ
thread_words links (p, thread) = thread.place ∷ status_word thread.status ∷ links p ∷ time_in thread.status ∷ []

-- signal, element, low bit and width, and the value
abbrev pub update_words : Bool → Update → List ℕ
update_words wide u = u.sig ∷ u.element ∷ (u.low * 256 + length u.bits) ∷ value_words wide u.bits

abbrev pub value_size : Bool → ℕ
value_size wide = if wide then 4 else 2

-- kind, link, time, and what it holds
abbrev pub slot_words : Bool → (ℕ → ℕ) → ℕ × Slot → List ℕ
slot_words wide links (n, Free) = replicate (6 + value_size wide) 0
slot_words wide links (n, Later at u) = 1 ∷ links n ∷ at ∷ update_words wide u
slot_words wide links (n, Due u) = 2 ∷ links n ∷ 0 ∷ update_words wide u
slot_words wide links (n, Strobed show) = 3 ∷ links n ∷ 0 ∷ show ∷ replicate (2 + value_size wide) 0

-- ---- all of it

abbrev pub ends : List ℕ → List ℕ
ends list = link (head list) ∷ link (tail list) ∷ []

abbrev pub flag : Bool → ℕ
flag true = 1
flag false = 0

module _ (d : Elaborated) (s : State) where
  abbrev pub numbers : List Item → List ℕ
  numbers list = map (item_number (length d.processes)) list

  -- the link of an event
  abbrev pub link_of : ℕ → ℕ
  link_of n = link (next_among n (map numbers (s.active ∷ s.inactive ∷ s.nonblocking ∷ s.future ∷ s.strobes ∷ [])))

  -- time, the running process, the ends of the lists, the monitor, three zeros
  abbrev pub front_words : List ℕ
  front_words =
      s.time ∷ link s.running ∷ (ends (numbers s.active) ++ (ends (numbers s.inactive) ++ (ends (numbers s.nonblocking)
      ++ (link (head (numbers s.future)) ∷ (ends (numbers s.strobes) ++ (link s.monitor ∷ flag s.due ∷ 0 ∷ 0 ∷ 0 ∷ []))))))

  -- the front, the processes, the signals, the drivers, the slots
  abbrev pub used_words : List ℕ
  used_words =
      front_words ++ (flat_map (thread_words link_of) (enumerate_from 0 s.threads) ++ (flat_map element_words s.values
      ++ (flat_map (λ bits. value_words (is_wide (length bits)) bits) s.drivers
      ++ flat_map (slot_words (has_wide d) link_of) (enumerate_from (length d.processes) s.slots))))

-- zeros up to whole pages
abbrev pub filled : List ℕ → List ℕ
filled words = words ++ replicate (PAGE_WORDS * ((length words + (PAGE_WORDS - 1)) / PAGE_WORDS) - length words) 0

unfoldable pub words_of : Elaborated → State → List ℕ
words_of d s = filled (used_words d s)
