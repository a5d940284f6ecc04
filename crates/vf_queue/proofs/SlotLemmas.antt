-- Which slots are free, in words.
use Rattle.std.proofs.Common.{◌≡◌, ◌≢◌, ℕ, zero, suc, ◌+◌, ◌<◌, ◌≤◌, Bool, true, false, cond, List, [], ◌∷◌, ◌++◌, length, take, drop, replicate, Some, None, refl, sym, ◌∙◌, ap, subst, arith, ⊎_elim, if◌then◌else◌, slice_index, slice_index_or, slice_set}
use Rattle.std.proofs.lemmas.Bool.{cases_eq, eq-eqb, ne_eqb, false≢true}
use Rattle.std.proofs.lemmas.List.{length-set, drop_more, drop_all, get_or-set_same, get_or-set_other}
use Rattle.std.specs.List.{count_by}
use Rattle.std.proofs.lemmas.List.Sums.{position_or_len_is, passes_at_first}
use Rattle.std.proofs.lemmas.List.Recursion.{is_count_by}
use Rattle.vf_base.specs.declared.run.Ending.TheVariants as endings
use Rattle.vf_machine.specs.Machine.{go, stop}
use Rattle.vf_elaborated.specs.Elaborated.{Elaborated}
use Rattle.vf_elaborated.specs.Addresses.{slot_at, slot_size, has_wide}
use Rattle.vf_scheduler.specs.State.{State, Slot, Free, Later, Due, Strobed, Item, of_process, of_slot}
use Rattle.vf_scheduler.specs.Posting.{is_free, least_free, free_slots, put_slot, strobe}
use Rattle.vf_scheduler.specs.Sound.{times, events, slot_of, slot_listed, IsSound}
use Rattle.vf_scheduler.specs.Words.{value_size, update_words, slot_words, link_of, words_of}
use Rattle.vf_layout.specs.Addresses.{HasShape}
use Rattle.vf_layout.specs.Puts.{put_all}
use Rattle.vf_layout.specs.Regions.{HasLink}
use Rattle.vf_layout.specs.Laws.{IsWritten}
use Rattle.vf_layout.proofs.CallerLemmas.{words_standing, changes_written, regions_written, sound_written}
use Rattle.vf_queue.specs.Slots.{IsLeastFree}

-- the kind of a slot
kind : Slot → ℕ
kind Free = 0
kind (Later at u) = 1
kind (Due u) = 2
kind (Strobed show) = 3

kind_first : (wide : Bool) (links : ℕ → ℕ) (n : ℕ) (slot : Slot) → slice_index (slot_words wide links (n, slot)) 0 ≡ kind slot
unfolding kind
kind_first true links n Free = refl
kind_first false links n Free = refl
kind_first wide links n (Later at u) = refl
kind_first wide links n (Due u) = refl
kind_first wide links n (Strobed show) = refl

some_words : (wide : Bool) (links : ℕ → ℕ) (n : ℕ) (slot : Slot) → 0 < length (slot_words wide links (n, slot))
some_words true links n Free = omega arith
some_words false links n Free = omega arith
some_words wide links n (Later at u) = omega arith
some_words wide links n (Due u) = omega arith
some_words wide links n (Strobed show) = omega arith

none_free : (slot : Slot) → kind slot ≡ 0 → is_free slot ≡ true
unfolding kind
none_free Free is = refl
none_free (Later at u) is = absurd (omega (arith, is))
none_free (Due u) is = absurd (omega (arith, is))
none_free (Strobed show) is = absurd (omega (arith, is))

some_held : (slot : Slot) → kind slot ≢ 0 → is_free slot ≡ false
unfolding kind
some_held Free is = absurd (is refl)
some_held (Later at u) is = refl
some_held (Due u) is = refl
some_held (Strobed show) is = refl

module _ (d : Elaborated) (s : State) (shape : HasShape d s) (q : ℕ) (below : q < d.slots) where
  stands : slice_index (words_of d s) (slot_at d q) ≡ kind (slot_of s q)
  stands =
      let n = length d.processes + q in
      let same : slot_at d q ≡ slot_at d q + 0 = omega arith in
      ap (slice_index (words_of d s)) same
      ∙ ((words_standing d s shape).slots q below 0 (some_words (has_wide d) (link_of d s) n (slot_of s q)) ∙ kind_first (has_wide d) (link_of d s) n (slot_of s q))

  pub reads_free : (word : ℕ) → word ≡ slice_index (words_of d s) (slot_at d q) → word ≡ 0 → is_free (slot_of s q) ≡ true
  reads_free word reads none = none_free (slot_of s q) (sym (reads ∙ stands) ∙ none)

  pub reads_held : (word : ℕ) → word ≡ slice_index (words_of d s) (slot_at d q) → word ≢ 0 → is_free (slot_of s q) ≡ false
  reads_held word reads some = some_held (slot_of s q) (λ none. some ((reads ∙ stands) ∙ none))

-- no slot below a number is free
abbrev pub NoneFree : State → ℕ → Type 0
NoneFree s q = (k : ℕ) → k < q → is_free (slot_of s k) ≡ false

pub none_yet : (s : State) → NoneFree s 0
none_yet s k below = absurd (omega (arith, below))

pub one_more_held : (s : State) (q : ℕ) → NoneFree s q → is_free (slot_of s q) ≡ false → NoneFree s (q + 1)
one_more_held s q none held k below =
    ⊎_elim (λ same. subst (λ q. is_free (slot_of s q) ≡ false) (sym same) held) (λ other. none k (omega (arith, below, other))) (cases_eq k q)

pub least_is : (s : State) (q : ℕ) → NoneFree s q → q < length s.slots → is_free (slot_of s q) ≡ true → IsLeastFree s (Some q)
least_is s q none below free =
    (sym (position_or_len_is is_free s.slots q Free (omega (arith, below)) none (λ there. free)), below)

abbrev pub counted : List Slot → ℕ
counted [] = 0
counted (slot ∷ slots) = cond (is_free slot) (1 + counted slots) (counted slots)

count_none : (slots : List Slot) → ((k : ℕ) → k < length slots → is_free (slice_index_or slots k Free) ≡ false) → count_by is_free slots ≡ 0
count_none slots all = sym (is_count_by counted is_free refl (λ x xs. refl) slots) ∙ none slots all
  where
    none : (slots : List Slot) → ((k : ℕ) → k < length slots → is_free (slice_index_or slots k Free) ≡ false) → counted slots ≡ 0
    none [] all = refl
    none (slot ∷ slots) all =
        ap (λ b. cond b (1 + counted slots) (counted slots)) (all 0 (omega arith)) ∙ none slots (λ k below. all (suc k) (omega (arith, below)))

pub none_is : (s : State) → NoneFree s (length s.slots) → IsLeastFree s None
none_is s none = count_none s.slots none

-- a slot has words
pub slot_some : (d : Elaborated) → 8 ≤ slot_size d
slot_some d = by (has_wide d)
  where
    by : (wide : Bool) → 8 ≤ (if wide then 10 else 8)
    by true = omega arith
    by false = omega arith

-- ---- a free slot takes something

no_slot : (slot : Slot) → is_free slot ≡ true → slot ≡ Free
no_slot Free is = refl
no_slot (Later at u) is = absurd (false≢true is)
no_slot (Due u) is = absurd (false≢true is)
no_slot (Strobed show) is = absurd (false≢true is)

-- its link is 0
unlinked_words : (wide : Bool) (links : ℕ → ℕ) (n : ℕ) (slot : Slot) → links n ≡ 0 → slot_words wide links (n, slot) ≡ slot_words wide (λ m. 0) (n, slot)
unlinked_words wide links n Free none = refl
unlinked_words wide links n (Later at u) none = ap (λ link. 1 ∷ link ∷ at ∷ update_words wide u) none
unlinked_words wide links n (Due u) none = ap (λ link. 2 ∷ link ∷ 0 ∷ update_words wide u) none
unlinked_words wide links n (Strobed show) none = ap (λ link. 3 ∷ link ∷ 0 ∷ show ∷ replicate (2 + value_size wide) 0) none

module _ (d : Elaborated) (s : State) (sound : IsSound d s) (q : ℕ) (least : q ≡ least_free s) (below : q < length s.slots) where
  is_none : slot_of s q ≡ Free
  is_none =
      no_slot (slot_of s q)
      (ap (λ q. is_free (slot_of s q)) least ∙ passes_at_first is_free s.slots Free (subst (λ q. q < length s.slots) least below))

  -- it stands in no list
  pub nowhere : times (of_slot q) (events s) ≡ 0
  nowhere = (sound.slots_stand q).alone ∙ ap slot_listed is_none

  pub within : q < d.slots
  within = omega (arith, below, sound.slot_count)

  pub fills : (slot : Slot) (list : List ℕ) → list ≡ slot_words (has_wide d) (λ m. 0) (length d.processes + q, slot)
      → words_of d (put_slot q slot s) ≡ put_all (slot_at d q) list (words_of d s)
  fills slot list is =
      let has = sound_written d s sound in
      (changes_written d s has.shape).slots q slot within
      ∙ ap (λ list. put_all (slot_at d q) list (words_of d s))
      (unlinked_words (has_wide d) (link_of d s) (length d.processes + q) slot ((regions_written d s has.shape has.queued).unlinked q nowhere) ∙ sym is)

  other_linked : (slot : Slot) → is_free slot ≡ false → (item : Item) → HasLink d s item → HasLink d (put_slot q slot s) item
  other_linked slot held (of_process p) has = has
  other_linked slot held (of_slot r) has = (
    has.0,
    ⊎_elim (λ same. ap (λ r. is_free (slice_index_or (slice_set s.slots q slot) r Free)) (sym same) ∙ (ap is_free (get_or-set_same s.slots q slot Free below) ∙ held))
        (λ other. ap is_free (get_or-set_other s.slots q r slot Free (λ same. other (sym same))) ∙ has.1) (cases_eq q r),
  )

  pub filled_written : (slot : Slot) → is_free slot ≡ false → IsWritten d (put_slot q slot s)
  filled_written slot held =
      let has = sound_written d s sound in
      record {
        shape = record {
          threads = has.shape.threads;
          values = has.shape.values;
          drivers = has.shape.drivers;
          slots = length-set s.slots q slot ∙ has.shape.slots;
        };
        queued = record { once = has.queued.once; linked = λ item stands. other_linked slot held item (has.queued.linked item stands) };
      }

-- the words of a strobe
pub strobe_words : (d : Elaborated) (n show : ℕ) → take (slot_size d) (3 ∷ 0 ∷ 0 ∷ show ∷ 0 ∷ 0 ∷ 0 ∷ 0 ∷ 0 ∷ 0 ∷ []) ≡ slot_words (has_wide d) (λ m. 0) (n, Strobed show)
strobe_words d n show = by (has_wide d)
  where
    by : (wide : Bool) → take (if wide then 10 else 8) (3 ∷ 0 ∷ 0 ∷ show ∷ 0 ∷ 0 ∷ 0 ∷ 0 ∷ 0 ∷ 0 ∷ []) ≡ slot_words wide (λ m. 0) (n, Strobed show)
    by true = refl
    by false = refl

pub take_short : (n : ℕ) (list : List ℕ) → length (take n list) ≤ n
take_short zero list = omega arith
take_short (suc n) [] = omega arith
take_short (suc n) (x ∷ list) = omega (arith, take_short n list)

-- ---- a strobe, by whether a slot is free

some_counted : (slots : List Slot) (k : ℕ) → k < length slots → is_free (slice_index_or slots k Free) ≡ true → 1 ≤ counted slots
some_counted [] k below free = absurd (omega (arith, below))
some_counted (slot ∷ slots) zero below free = subst (λ b. 1 ≤ cond b (1 + counted slots) (counted slots)) (sym free) (omega arith)
some_counted (slot ∷ slots) (suc k) below free = by (is_free slot) (some_counted slots k (omega (arith, below)) free)
  where
    by : (b : Bool) → 1 ≤ counted slots → 1 ≤ cond b (1 + counted slots) (counted slots)
    by true some = omega arith
    by false some = some

pub some_free : (s : State) → least_free s < length s.slots → 1 ≤ free_slots s
some_free s below =
    subst (λ n. 1 ≤ n) (is_count_by counted is_free refl (λ x xs. refl) s.slots)
    (some_counted s.slots (least_free s) below (passes_at_first is_free s.slots Free below))

module _ (show : ℕ) (s : State) where
  abbrev strobed : State
  strobed = record (put_slot (least_free s) (Strobed show) s) { strobes = s.strobes ++ of_slot (least_free s) ∷ [] }

  pub none_strobed : free_slots s ≡ 0 → strobe show s s ≡ stop endings.Events
  unfolding strobe
  none_strobed none = ap (λ b. if b then stop endings.Events else go strobed [] None) (eq-eqb (free_slots s) 0 none)

  pub some_strobed : least_free s < length s.slots → strobe show s s ≡ go strobed [] None
  unfolding strobe
  some_strobed below =
      ap (λ b. if b then stop endings.Events else go strobed [] None) (ne_eqb (free_slots s) 0 (λ none. omega (arith, none, some_free s below)))

-- ---- how many slots are free

pub counted_is : (s : State) → counted s.slots ≡ free_slots s
counted_is s = is_count_by counted is_free refl (λ x xs. refl) s.slots

pub next_counted : (s : State) (q count one : ℕ) → q < length s.slots → one ≡ cond (is_free (slot_of s q)) 1 0 → count + counted (drop q s.slots) ≡ counted s.slots
    → count + one + counted (drop (q + 1) s.slots) ≡ counted s.slots
next_counted s q count one below is so_far =
    omega (arith, so_far, ap counted (drop_more s.slots q Free below), by (is_free (slot_of s q)) (counted (drop (q + 1) s.slots)), is)
  where
    by : (b : Bool) (rest : ℕ) → cond b (1 + rest) rest ≡ cond b 1 0 + rest
    by true rest = refl
    by false rest = omega arith

pub all_counted : (s : State) (q count : ℕ) → length s.slots ≤ q → count + counted (drop q s.slots) ≡ counted s.slots → count ≡ free_slots s
all_counted s q count past so_far = let none = ap counted (drop_all q s.slots past) in omega (arith, so_far, none, counted_is s)

pub few_counted : (slots : List Slot) → counted slots ≤ length slots
few_counted [] = omega arith
few_counted (slot ∷ slots) = by (is_free slot) (few_counted slots)
  where
    by : (b : Bool) → counted slots ≤ length slots → cond b (1 + counted slots) (counted slots) ≤ suc (length slots)
    by true few = omega (arith, few)
    by false few = omega (arith, few)
