-- The words of a state with another list of events in one region.
use Rattle.std.proofs.Common.{◌≡◌, ℕ, ◌+◌, ◌≤◌, true, List, [], ◌∷◌, ◌++◌, length, Some, refl, sym, ◌∙◌, ap, arith, slice_index, slice_set}
use Rattle.std.proofs.lemmas.Bool.{false≢true}
use Rattle.vf_elaborated.specs.Elaborated.{Elaborated}
use Rattle.vf_scheduler.specs.State.{State, Item, of_slot}
use Rattle.vf_scheduler.specs.Sound.{times, events}
use Rattle.vf_scheduler.specs.Words.{link, head, tail, next_among, numbers, link_of, front_words, words_of}
use Rattle.vf_scheduler.proofs.CallerLemmas.{times_here}
use Rattle.vf_layout.specs.Regions.{Region, ActiveRegion, InactiveRegion, NonblockingRegion, FutureRegion, StrobeRegion, list_in, with_list, head_at, has_tail, HasLink, number, IsQueued}
use Rattle.vf_layout.proofs.Image.{image}
use Rattle.vf_layout.proofs.Chained.{count_in, total, total-append, none_among}
use Rattle.vf_layout.proofs.Counts.{lists, parts, total_is, slot_again, item_again}

-- ---- the last event of a list

abbrev pub last_item : Item → List Item → Item
last_item x [] = x
last_item x (y ∷ rest) = last_item y rest

pub last_counted : (x : Item) (rest : List Item) → 1 ≤ times (last_item x rest) (x ∷ rest)
last_counted x [] = omega (arith, times_here x [])
last_counted x (y ∷ rest) = omega (arith, last_counted y rest)

module _ (d : Elaborated) (s : State) where
  pub tail_last : (x : Item) (rest : List Item) → tail (numbers d s (x ∷ rest)) ≡ Some (number d (last_item x rest))
  tail_last x [] = refl
  tail_last x (y ∷ rest) = tail_last y rest

  pub numbers-append : (before after : List Item) → numbers d s (before ++ after) ≡ numbers d s before ++ numbers d s after
  numbers-append [] after = refl
  numbers-append (x ∷ before) after = ap (λ list. number d x ∷ list) (numbers-append before after)

  -- ---- the other lists

  abbrev pub earlier : Region → List (List ℕ)
  earlier ActiveRegion = []
  earlier InactiveRegion = numbers d s s.active ∷ []
  earlier NonblockingRegion = numbers d s s.active ∷ numbers d s s.inactive ∷ []
  earlier FutureRegion = numbers d s s.active ∷ numbers d s s.inactive ∷ numbers d s s.nonblocking ∷ []
  earlier StrobeRegion = numbers d s s.active ∷ numbers d s s.inactive ∷ numbers d s s.nonblocking ∷ numbers d s s.future ∷ []

  abbrev pub later : Region → List (List ℕ)
  later ActiveRegion = numbers d s s.inactive ∷ numbers d s s.nonblocking ∷ numbers d s s.future ∷ numbers d s s.strobes ∷ []
  later InactiveRegion = numbers d s s.nonblocking ∷ numbers d s s.future ∷ numbers d s s.strobes ∷ []
  later NonblockingRegion = numbers d s s.future ∷ numbers d s s.strobes ∷ []
  later FutureRegion = numbers d s s.strobes ∷ []
  later StrobeRegion = []

  -- the front and the links with a list in a region
  abbrev pub front_with : Region → List Item → List ℕ
  front_with r list = front_words d (with_list r list s)

  abbrev pub links_with : Region → List Item → ℕ → ℕ
  links_with r list n = link (next_among n (earlier r ++ numbers d s list ∷ later r))

  pub front_long : (r : Region) (list : List Item) → length (front_with r list) ≡ 16
  front_long ActiveRegion list = refl
  front_long InactiveRegion list = refl
  front_long NonblockingRegion list = refl
  front_long FutureRegion list = refl
  front_long StrobeRegion list = refl

  pub words_with : (r : Region) (list : List Item) → words_of d (with_list r list s) ≡ image d (front_with r list) (links_with r list) s
  unfolding words_of
  words_with ActiveRegion list = refl
  words_with InactiveRegion list = refl
  words_with NonblockingRegion list = refl
  words_with FutureRegion list = refl
  words_with StrobeRegion list = refl

  same_state : (r : Region) → with_list r (list_in r s) s ≡ s
  same_state ActiveRegion = refl
  same_state InactiveRegion = refl
  same_state NonblockingRegion = refl
  same_state FutureRegion = refl
  same_state StrobeRegion = refl

  -- the words of the state itself
  pub words_by : (r : Region) (list : List Item) → list_in r s ≡ list → words_of d s ≡ image d (front_with r list) (links_with r list) s
  words_by r list is =
      ap (words_of d) (sym (same_state r)) ∙ words_with r (list_in r s) ∙ ap (λ list. image d (front_with r list) (links_with r list) s) is

  -- ---- the front

  module _ (links : ℕ → ℕ) where
    pub head_read : (r : Region) (list : List Item) → slice_index (image d (front_with r list) links s) (head_at r) ≡ link (head (numbers d s list))
    head_read ActiveRegion list = refl
    head_read InactiveRegion list = refl
    head_read NonblockingRegion list = refl
    head_read FutureRegion list = refl
    head_read StrobeRegion list = refl

    pub tail_read : (r : Region) (list : List Item) → has_tail r ≡ true → slice_index (image d (front_with r list) links s) (head_at r + 1) ≡ link (tail (numbers d s list))
    tail_read ActiveRegion list tailed = refl
    tail_read InactiveRegion list tailed = refl
    tail_read NonblockingRegion list tailed = refl
    tail_read FutureRegion list tailed = absurd (false≢true tailed)
    tail_read StrobeRegion list tailed = refl

    -- an empty list gets one event
    pub front_one : (r : Region) (x : Item) → has_tail r ≡ true
        → image d (front_with r (x ∷ [])) links s ≡ slice_set (slice_set (image d (front_with r []) links s) (head_at r + 1) (number d x + 1)) (head_at r) (number d x + 1)
    front_one ActiveRegion x tailed = refl
    front_one InactiveRegion x tailed = refl
    front_one NonblockingRegion x tailed = refl
    front_one FutureRegion x tailed = absurd (false≢true tailed)
    front_one StrobeRegion x tailed = refl

    -- a list gets another end
    pub front_tail : (r : Region) (x : Item) (rest more : List Item) → has_tail r ≡ true
        → image d (front_with r (x ∷ more)) links s ≡ slice_set (image d (front_with r (x ∷ rest)) links s) (head_at r + 1) (link (tail (numbers d s (x ∷ more))))
    front_tail ActiveRegion x rest more tailed = refl
    front_tail InactiveRegion x rest more tailed = refl
    front_tail NonblockingRegion x rest more tailed = refl
    front_tail FutureRegion x rest more tailed = absurd (false≢true tailed)
    front_tail StrobeRegion x rest more tailed = refl

    -- a list loses its only event, or the first of some
    pub front_none : (r : Region) (x : Item) → has_tail r ≡ true
        → image d (front_with r []) links s ≡ slice_set (slice_set (image d (front_with r (x ∷ [])) links s) (head_at r + 1) 0) (head_at r) 0
    front_none ActiveRegion x tailed = refl
    front_none InactiveRegion x tailed = refl
    front_none NonblockingRegion x tailed = refl
    front_none FutureRegion x tailed = absurd (false≢true tailed)
    front_none StrobeRegion x tailed = refl

    pub front_rest : (r : Region) (x y : Item) (rest : List Item)
        → image d (front_with r (y ∷ rest)) links s ≡ slice_set (image d (front_with r (x ∷ y ∷ rest)) links s) (head_at r) (number d y + 1)
    front_rest ActiveRegion x y rest = refl
    front_rest InactiveRegion x y rest = refl
    front_rest NonblockingRegion x y rest = refl
    front_rest FutureRegion x y rest = refl
    front_rest StrobeRegion x y rest = refl

-- ---- how often numbers stand

module _ (d : Elaborated) (s : State) (queued : IsQueued d s) where
  parted : (r : Region) → lists d s queued ≡ earlier d s r ++ numbers d s (list_in r s) ∷ later d s r
  parted ActiveRegion = refl
  parted InactiveRegion = refl
  parted NonblockingRegion = refl
  parted FutureRegion = refl
  parted StrobeRegion = refl

  pub total_parted : (r : Region) (n : ℕ) (list : List Item) → list_in r s ≡ list
      → total n (lists d s queued) ≡ total n (earlier d s r) + (count_in n (numbers d s list) + total n (later d s r))
  total_parted r n list is =
      ap (total n) (parted r) ∙ ap (λ list. total n (earlier d s r ++ numbers d s list ∷ later d s r)) is
      ∙ total-append n (earlier d s r) (numbers d s list ∷ later d s r)

  in_events : (r : Region) (item : Item) → times item (list_in r s) ≤ times item (events s)
  in_events ActiveRegion item = omega (arith, parts d s queued item)
  in_events InactiveRegion item = omega (arith, parts d s queued item)
  in_events NonblockingRegion item = omega (arith, parts d s queued item)
  in_events FutureRegion item = omega (arith, parts d s queued item)
  in_events StrobeRegion item = omega (arith, parts d s queued item)

  -- an event that stands in a region has a link
  pub has_link : (r : Region) (item : Item) (list : List Item) → list_in r s ≡ list → 1 ≤ times item list → HasLink d s item
  has_link r item list is stands = queued.linked item (omega (arith, stands, in_events r item, ap (times item) is))

  -- one that stands nowhere has a number that stands nowhere
  pub nowhere : (item : Item) → HasLink d s item → times item (events s) ≡ 0 → total (number d item) (lists d s queued) ≡ 0
  nowhere item has none = total_is d s queued (number d item) ∙ ap (λ item. times item (events s)) (item_again d s item has) ∙ none

  -- a slot that stands nowhere has no link
  pub unlinked : (q : ℕ) → times (of_slot q) (events s) ≡ 0 → link_of d s (length d.processes + q) ≡ 0
  unlinked q none =
      let n = length d.processes + q in
      ap link (none_among n (lists d s queued) (total_is d s queued n ∙ ap (λ item. times item (events s)) (slot_again d q) ∙ none))
