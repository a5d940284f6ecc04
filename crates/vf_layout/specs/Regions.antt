-- What the event lists of a state do in words: an event joins a list or is taken from it, and a list becomes the active one
-- (docs/LANGUAGE.md, "The words of a state").
use Rattle.std.specs.Prelude.{◌≡◌, ℕ, ◌+◌, ◌-◌, ◌<◌, ◌≤◌, Bool, true, false, ◌&&◌, ◌==◌, List, [], ◌∷◌, ◌++◌, length, slice_index, slice_set, if◌then◌else◌}
use Rattle.vf_elaborated.specs.Elaborated.{Elaborated}
use Rattle.vf_elaborated.specs.Addresses.{ACTIVE, INACTIVE, NONBLOCKING, FUTURE, STROBES, link_at}
use Rattle.vf_scheduler.specs.State.{State, Item, of_process, of_slot}
use Rattle.vf_scheduler.specs.Posting.{is_free}
use Rattle.vf_scheduler.specs.Sound.{times, events, slot_of}
use Rattle.vf_scheduler.specs.Words.{item_number, link, head, numbers, link_of, words_of}

-- ---- the lists

-- the regions of the scheduler, and the future
pub data Region : Type 0 where
  ActiveRegion : Region
  InactiveRegion : Region
  NonblockingRegion : Region
  FutureRegion : Region
  StrobeRegion : Region

abbrev pub list_in : Region → State → List Item
list_in ActiveRegion s = s.active
list_in InactiveRegion s = s.inactive
list_in NonblockingRegion s = s.nonblocking
list_in FutureRegion s = s.future
list_in StrobeRegion s = s.strobes

-- a state with another list there
abbrev pub with_list : Region → List Item → State → State
with_list ActiveRegion list s = record s { active = list }
with_list InactiveRegion list s = record s { inactive = list }
with_list NonblockingRegion list s = record s { nonblocking = list }
with_list FutureRegion list s = record s { future = list }
with_list StrobeRegion list s = record s { strobes = list }

-- the address of the head
abbrev pub head_at : Region → ℕ
head_at ActiveRegion = ACTIVE
head_at InactiveRegion = INACTIVE
head_at NonblockingRegion = NONBLOCKING
head_at FutureRegion = FUTURE
head_at StrobeRegion = STROBES

-- the tail stands in the word after the head; the future has none
abbrev pub has_tail : Region → Bool
has_tail FutureRegion = false
has_tail _ = true

-- ---- events that have a link

-- a process of the design, or a slot of it that holds something
abbrev pub HasLink : Elaborated → State → Item → Type 0
HasLink d s (of_process p) = p < length d.processes
HasLink d s (of_slot q) = (q < d.slots) × (is_free (slot_of s q) ≡ false)

abbrev pub number : Elaborated → Item → ℕ
number d item = item_number (length d.processes) item

-- No event stands twice in the lists, and each has a link. No more of soundness is asked for, since a state in the middle of a turn need not be
-- sound.
pub record IsQueued (d : Elaborated) (s : State) : Type 0 where
  pub once : (item : Item) → times item (events s) ≤ 1
  pub linked : (item : Item) → 1 ≤ times item (events s) → HasLink d s item

-- ---- in words

-- An event joins the end of a list, whose head stands at an address and whose tail after it. The link of the event is 0 already.
unfoldable pub joined : Elaborated → ℕ → ℕ → List ℕ → List ℕ
joined d at n words =
    let after = slice_set words (at + 1) (n + 1) in
    if slice_index words at == 0 then slice_set after at (n + 1) else slice_set after (link_at d (slice_index words (at + 1) - 1)) (n + 1)

-- The first event of a list leaves it: its link becomes the head, and 0 itself. The tail of an empty list is 0.
unfoldable pub taken : Elaborated → ℕ → Bool → List ℕ → List ℕ
taken d at tailed words =
    let place = link_at d (slice_index words at - 1) in
    let next = slice_index words place in
    let emptied = if tailed && next == 0 then slice_set words (at + 1) 0 else words in
    slice_set (slice_set emptied at next) place 0

-- an event becomes the first of the future
unfoldable pub put_first : Elaborated → ℕ → List ℕ → List ℕ
put_first d n words = slice_set (slice_set words FUTURE (n + 1)) (link_at d n) (slice_index words FUTURE)

-- an event follows another in the future
unfoldable pub put_after : Elaborated → ℕ → ℕ → List ℕ → List ℕ
put_after d m n words = slice_set (slice_set words (link_at d n) (slice_index words (link_at d m))) (link_at d m) (n + 1)

-- a list becomes the active one
unfoldable pub moved : ℕ → List ℕ → List ℕ
moved at words =
    slice_set (slice_set (slice_set (slice_set words ACTIVE (slice_index words at)) (ACTIVE + 1) (slice_index words (at + 1))) at 0) (at + 1) 0

-- ---- what a change of the lists writes

pub record RegionChanges (d : Elaborated) (s : State) : Type 0 where
  -- the link of an event in a list leads to the next one
  pub follows : (r : Region) (before : List Item) (item : Item) (rest : List Item) → list_in r s ≡ before ++ item ∷ rest
      → slice_index (words_of d s) (link_at d (number d item)) ≡ link (head (numbers d s rest))
  -- the link of a slot that stands in no list is 0
  pub unlinked : (q : ℕ) → times (of_slot q) (events s) ≡ 0 → link_of d s (length d.processes + q) ≡ 0
  -- an event joins the end of a region's list
  pub joins : (r : Region) (item : Item) → has_tail r ≡ true
      → words_of d (with_list r (list_in r s ++ item ∷ []) s) ≡ joined d (head_at r) (number d item) (words_of d s)
  -- the first event of a list is taken
  pub takes : (r : Region) (item : Item) (rest : List Item) → list_in r s ≡ item ∷ rest
      → words_of d (with_list r rest s) ≡ taken d (head_at r) (has_tail r) (words_of d s)
  -- an event that stands in no list is put before the future, or after an event of it
  pub first : (item : Item) → HasLink d s item → times item (events s) ≡ 0
      → words_of d (record s { future = item ∷ s.future }) ≡ put_first d (number d item) (words_of d s)
  pub after : (before : List Item) (other item : Item) (rest : List Item) → s.future ≡ before ++ other ∷ rest → HasLink d s item → times item (events s) ≡ 0
      → words_of d (record s { future = before ++ other ∷ item ∷ rest }) ≡ put_after d (number d other) (number d item) (words_of d s)

-- the active list is empty, and another becomes it
pub record RegionMoves (d : Elaborated) (s : State) : Type 0 where
  pub inactive : words_of d (record s { active = s.inactive; inactive = [] }) ≡ moved INACTIVE (words_of d s)
  pub nonblocking : s.inactive ≡ [] → words_of d (record s { active = s.nonblocking; nonblocking = [] }) ≡ moved NONBLOCKING (words_of d s)
