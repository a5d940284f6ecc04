-- A sound state is told by its words.
use Rattle.std.proofs.Common.{◌≡◌, ◌≢◌, ℕ, ◌+◌, ◌<◌, ◌≤◌, Bool, true, false, List, [], ◌∷◌, ◌++◌, map, length, drop, Option, Some, None, refl, sym, ◌∙◌, ap, arith, slice_index_or, slice_get, IsSomeAnd, flat_map, replicate, ◌*◌, ◌/◌, ◌-◌}
use Rattle.std.specs.List.{All, enumerate_from}
use Rattle.vf_base.specs.declared.write.TheConstants.{PAGE_WORDS}
use Rattle.std.proofs.lemmas.List.{append_assoc}
use Rattle.std.proofs.lemmas.List.Elements.{All-weaker}
use Rattle.std.proofs.lemmas.Slice.Zip.{AllZip-long}
use Rattle.vf_elaborated.specs.declared.design.Signal.{Signal}
use Rattle.vf_elaborated.specs.Elaborated.{Elaborated}
use Rattle.vf_elaborated.specs.WellFormed.{IsWellFormed}
use Rattle.vf_elaborated.specs.Addresses.{has_wide}
use Rattle.vf_scheduler.specs.State.{State, Update, Slot, Free, Later, Due, Strobed, Item, of_process, of_slot}
use Rattle.vf_scheduler.specs.Posting.{is_free}
use Rattle.vf_scheduler.specs.Words.{item_number, link, head, next_among, flag, numbers, link_of, used_words, words_of, thread_words, element_words, slot_words}
use Rattle.vf_scheduler.specs.Sound.{times, slot_of, FitsIn, IsUpdate, IsSlot}
use Rattle.vf_scheduler.specs.Laws.{WordsTellTheState}
use Rattle.vf_scheduler.proofs.Marks.{Nowhere, few}
use Rattle.vf_scheduler.proofs.Held.{mark_in, slot_mark, HasPlace, Held, held}
use Rattle.vf_scheduler.proofs.Processes.{process_within}
use Rattle.vf_scheduler.proofs.Regions.{somewhere, slot_within}
use Rattle.vf_scheduler.proofs.Assigned.{sized}
use Rattle.vf_scheduler.proofs.Values.{Told, own_words, elements_told, values_told, values_match, drivers_match}
use Rattle.vf_scheduler.proofs.Entries.{IsNarrow, ThreadsTold, threads_told, SlotsTold, slots_told}
use Rattle.vf_scheduler.proofs.Chains.{AllNumbered, Follows, follows_same, one_chain, total, EachNumbered, list_numbered, list_follows}

-- ---- single words

link_told : (a b : Option ℕ) → link a ≡ link b → a ≡ b
link_told None None e = refl
link_told None (Some n) e = absurd (omega (arith, e))
link_told (Some n) None e = absurd (omega (arith, e))
link_told (Some n) (Some m) e = let same : n ≡ m = omega (arith, e) in ap Some same

flag_told : (a b : Bool) → flag a ≡ flag b → a ≡ b
flag_told true true e = refl
flag_told false false e = refl
flag_told true false e = absurd (omega (arith, e))
flag_told false true e = absurd (omega (arith, e))

-- ---- slots

pub update_narrow : (d : Elaborated) (u : Update) → IsWellFormed d → IsUpdate d u → length u.bits < 256
update_narrow d u wf is = by (slice_get d.signals u.sig) refl is
  where
    by : (o : Option Signal) → slice_get d.signals u.sig ≡ o → IsSomeAnd o (FitsIn u) → length u.bits < 256
    by None e h = absurd h
    by (Some signal) e h = omega (arith, h.inside, (sized d u.sig signal wf e).most)

slot_narrow : (d : Elaborated) (slot : Slot) → IsWellFormed d → IsSlot d slot → IsNarrow slot
slot_narrow d Free wf is = tt
slot_narrow d (Later at u) wf is = update_narrow d u wf is
slot_narrow d (Due u) wf is = update_narrow d u wf is
slot_narrow d (Strobed show) wf is = tt

not_free : (slot : Slot) → slot_mark slot ≢ Nowhere → is_free slot ≡ false
not_free Free h = absurd (h refl)
not_free (Later at u) h = refl
not_free (Due u) h = refl
not_free (Strobed show) h = refl

-- ---- the lists of a state

module _ (d : Elaborated) (s : State) (h : Held d s) where
  abbrev lists : List (List Item)
  lists = s.active ∷ s.inactive ∷ s.nonblocking ∷ s.future ∷ s.strobes ∷ []

  abbrev count : ℕ
  count = length d.processes

  -- what follows an event, by its number
  abbrev next : ℕ → Option ℕ
  next n = next_among n (map (numbers d s) lists)

  threads_long : length s.threads ≡ count
  threads_long = AllZip-long HasPlace d.processes s.threads h.shapes.places

  once : (x : Item) → total count x lists ≤ 1
  once x = let all = (h.queue.placed x).alone in let most = few (mark_in s.threads s.slots x) in omega (arith, all, most)

  stands : (x : Item) → 1 ≤ total count x lists → mark_in s.threads s.slots x ≢ Nowhere
  stands x some = let all = (h.queue.placed x).alone in somewhere (mark_in s.threads s.slots x) (omega (arith, all, some))

  each_numbered : EachNumbered count lists
  each_numbered (of_process p) some = omega (arith, process_within s p (stands (of_process p) some), threads_long)
  each_numbered (of_slot q) some = tt

  -- a list is numbered, has only what stands somewhere, and its links are those of the state
  record Region (list : List Item) : Type 0 where
    numbered : AllNumbered count list
    within : (x : Item) → 1 ≤ times x list → mark_in s.threads s.slots x ≢ Nowhere
    follow : Follows count next list

  active_region : Region s.active
  active_region = record {
    numbered = list_numbered count [] s.active (s.inactive ∷ s.nonblocking ∷ s.future ∷ s.strobes ∷ []) each_numbered once;
    within = λ x some. stands x (omega (arith, some));
    follow = list_follows count [] s.active (s.inactive ∷ s.nonblocking ∷ s.future ∷ s.strobes ∷ []) each_numbered once;
  }

  inactive_region : Region s.inactive
  inactive_region = record {
    numbered = list_numbered count (s.active ∷ []) s.inactive (s.nonblocking ∷ s.future ∷ s.strobes ∷ []) each_numbered once;
    within = λ x some. stands x (omega (arith, some));
    follow = list_follows count (s.active ∷ []) s.inactive (s.nonblocking ∷ s.future ∷ s.strobes ∷ []) each_numbered once;
  }

  nonblocking_region : Region s.nonblocking
  nonblocking_region = record {
    numbered = list_numbered count (s.active ∷ s.inactive ∷ []) s.nonblocking (s.future ∷ s.strobes ∷ []) each_numbered once;
    within = λ x some. stands x (omega (arith, some));
    follow = list_follows count (s.active ∷ s.inactive ∷ []) s.nonblocking (s.future ∷ s.strobes ∷ []) each_numbered once;
  }

  future_region : Region s.future
  future_region = record {
    numbered = list_numbered count (s.active ∷ s.inactive ∷ s.nonblocking ∷ []) s.future (s.strobes ∷ []) each_numbered once;
    within = λ x some. stands x (omega (arith, some));
    follow = list_follows count (s.active ∷ s.inactive ∷ s.nonblocking ∷ []) s.future (s.strobes ∷ []) each_numbered once;
  }

  strobes_region : Region s.strobes
  strobes_region = record {
    numbered = list_numbered count (s.active ∷ s.inactive ∷ s.nonblocking ∷ s.future ∷ []) s.strobes [] each_numbered once;
    within = λ x some. stands x (omega (arith, some));
    follow = list_follows count (s.active ∷ s.inactive ∷ s.nonblocking ∷ s.future ∷ []) s.strobes [] each_numbered once;
  }

-- ---- two states with equal words

module _ (d : Elaborated) (wf : IsWellFormed d) (s t : State) (hs : Held d s) (ht : Held d t) (e : words_of d s ≡ words_of d t) where
  -- the words of the processes, the signals, the drivers and the slots, and the zeros after them
  abbrev threads_of : State → List ℕ
  threads_of x = flat_map (thread_words (link_of d x)) (enumerate_from 0 x.threads)

  abbrev values_of : State → List ℕ
  values_of x = flat_map element_words x.values

  abbrev drivers_of : State → List ℕ
  drivers_of x = flat_map own_words x.drivers

  abbrev slots_of : State → List ℕ
  slots_of x = flat_map (slot_words (has_wide d) (link_of d x)) (enumerate_from (length d.processes) x.slots)

  abbrev zeros_of : State → List ℕ
  zeros_of x =
      let long = length (used_words d x) in replicate (PAGE_WORDS * ((long + (PAGE_WORDS - 1)) / PAGE_WORDS) - long) 0

  after_front : (threads_of s ++ (values_of s ++ (drivers_of s ++ slots_of s))) ++ zeros_of s ≡ (threads_of t ++ (values_of t ++ (drivers_of t ++ slots_of t))) ++ zeros_of t
  unfolding words_of
  after_front = ap (drop 16) e

  threads : ThreadsTold (link_of d s) (link_of d t) 0 s.threads t.threads ((values_of s ++ (drivers_of s ++ slots_of s)) ++ zeros_of s) ((values_of t ++ (drivers_of t ++ slots_of t)) ++ zeros_of t)
  threads =
      threads_told (link_of d s) (link_of d t) 0 s.threads t.threads _ _ (threads_long d s hs ∙ sym (threads_long d t ht))
      (sym (append_assoc (threads_of s) (values_of s ++ (drivers_of s ++ slots_of s)) (zeros_of s)) ∙ after_front
      ∙ append_assoc (threads_of t) (values_of t ++ (drivers_of t ++ slots_of t)) (zeros_of t))

  values : Told s.values t.values ((drivers_of s ++ slots_of s) ++ zeros_of s) ((drivers_of t ++ slots_of t) ++ zeros_of t)
  values =
      values_told s.values t.values _ _ (values_match d.signals s.values t.values hs.shapes.fits ht.shapes.fits)
      (sym (append_assoc (values_of s) (drivers_of s ++ slots_of s) (zeros_of s)) ∙ threads.rest ∙ append_assoc (values_of t) (drivers_of t ++ slots_of t) (zeros_of t))

  drivers : Told s.drivers t.drivers (slots_of s ++ zeros_of s) (slots_of t ++ zeros_of t)
  drivers =
      elements_told s.drivers t.drivers _ _ (drivers_match s.drivers t.drivers (hs.shapes.widths ∙ sym ht.shapes.widths))
      (sym (append_assoc (drivers_of s) (slots_of s) (zeros_of s)) ∙ values.rest ∙ append_assoc (drivers_of t) (slots_of t) (zeros_of t))

  all_narrow : (x : State) → Held d x → All IsNarrow x.slots
  all_narrow x h = All-weaker (IsSlot d) IsNarrow (λ slot is. slot_narrow d slot wf is) x.slots h.shapes.holds

  slots : SlotsTold (link_of d s) (link_of d t) (length d.processes) s.slots t.slots (zeros_of s) (zeros_of t)
  slots =
      slots_told (has_wide d) (link_of d s) (link_of d t) (length d.processes) s.slots t.slots (zeros_of s) (zeros_of t)
      (hs.shapes.slot_count ∙ sym ht.shapes.slot_count) (all_narrow s hs) (all_narrow t ht) drivers.rest

  -- ---- lists

  same_next : (x : Item) → mark_in s.threads s.slots x ≢ Nowhere → next d s hs (item_number (length d.processes) x) ≡ next d t ht (item_number (length d.processes) x)
  same_next (of_process p) some =
      let plain : 0 + p ≡ p = omega arith in
      link_told _ _ (ap (link_of d s) (sym plain) ∙ threads.links_same p (process_within s p some) ∙ ap (link_of d t) plain)
  same_next (of_slot q) some = link_told _ _ (slots.links_same q (slot_within s q some) (not_free (slot_of s q) some))

  same_list : (xs ys : List Item) → Region d s hs xs → Region d t ht ys → link (head (numbers d s xs)) ≡ link (head (numbers d t ys)) → xs ≡ ys
  same_list xs ys a b first =
      one_chain (length d.processes) (next d s hs) xs ys a.numbered b.numbered (link_told _ _ first) a.follow
      (follows_same (length d.processes) (next d s hs) (next d t ht) ys
      (λ x some. same_next x (λ none. b.within x some ((λ j. mark_in (sym threads.same j) (sym slots.same j) x) ∙ none))) b.follow)

  same_state : s ≡ t
  unfolding words_of
  same_state =
      let word : (n : ℕ) → slice_index_or (words_of d s) n 0 ≡ slice_index_or (words_of d t) n 0 = λ n. ap (λ list. slice_index_or list n 0) e in
      let time : s.time ≡ t.time = word 0 in
      let running = link_told s.running t.running (word 1) in
      let active = same_list s.active t.active (active_region d s hs) (active_region d t ht) (word 2) in
      let inactive = same_list s.inactive t.inactive (inactive_region d s hs) (inactive_region d t ht) (word 4) in
      let nonblocking = same_list s.nonblocking t.nonblocking (nonblocking_region d s hs) (nonblocking_region d t ht) (word 6) in
      let future = same_list s.future t.future (future_region d s hs) (future_region d t ht) (word 8) in
      let strobes = same_list s.strobes t.strobes (strobes_region d s hs) (strobes_region d t ht) (word 9) in
      let monitor = link_told s.monitor t.monitor (word 11) in
      let due = flag_told s.due t.due (word 12) in
      λ j. record {
        time = time j;
        running = running j;
        active = active j;
        inactive = inactive j;
        nonblocking = nonblocking j;
        future = future j;
        strobes = strobes j;
        monitor = monitor j;
        due = due j;
        threads = threads.same j;
        values = values.same j;
        drivers = drivers.same j;
        slots = slots.same j;
      }

pub words_tell : WordsTellTheState
words_tell d s t wf hs ht e = same_state d wf s t (held d s hs) (held d t ht) e
