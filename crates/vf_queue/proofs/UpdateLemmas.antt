-- The words of an update in a slot.
use Rattle.std.proofs.Common.{◌≡◌, ℕ, suc, zero, ◌+◌, ◌*◌, ◌/◌, ◌%◌, ◌^◌, ◌<◌, ◌≤◌, Bool, true, false, ◌||◌, List, [], ◌∷◌, ◌++◌, length, take, Option, Some, None, refl, sym, ◌∙◌, ap, ap₂, arith, if◌then◌else◌, slice_get, IsSomeAnd}
use Rattle.std.proofs.Math.Nat.{mod-eq_of_lt}
use Rattle.std.proofs.Math.Pow.{pow_mono}
use Rattle.std.proofs.lemmas.Bool.{false≢true, ltb-false, eq-eqb, ne_eqb}
use Rattle.std.proofs.lemmas.List.{get_or-set_same, get_or-set_other}
use Rattle.std.specs.List.{list_any}
use Rattle.vf_fours.specs.declared.Bit.{Bit}
use Rattle.vf_fours.specs.Planes.{ones_of, unknown_of}
use Rattle.vf_elaborated.specs.declared.design.Signal.{Signal}
use Rattle.vf_elaborated.specs.Elaborated.{Elaborated}
use Rattle.vf_elaborated.specs.Addresses.{NONBLOCKING, is_wide, slot_at, slot_size, has_wide}
use Rattle.vf_scheduler.specs.State.{State, Update, Slot, Free, Later, Due, Item, of_process, of_slot}
use Rattle.vf_scheduler.specs.Posting.{is_free, least_free, put_slot, time_of, slot_time, put_by_time, joins_future, posted}
use Rattle.vf_scheduler.specs.Sound.{FitsIn, times, events, IsUpdate, IsSound}
use Rattle.vf_scheduler.specs.Words.{update_words, words_of}
use Rattle.vf_scheduler.proofs.CallerLemmas.{times-append}
use Rattle.vf_layout.specs.Puts.{put_all}
use Rattle.vf_layout.specs.Regions.{NonblockingRegion, HasLink, joined, put_after, RegionChanges}
use Rattle.vf_layout.specs.Laws.{IsWritten}
use Rattle.vf_layout.proofs.CallerLemmas.{ones_below, unknown_below, regions_written}
use Rattle.vf_queue.specs.Future.{IsLastUntil, put_in}
use Rattle.vf_queue.specs.Slots.{IsFreeIn}
use Rattle.vf_queue.proofs.KeptLemmas.{put_same}
use Rattle.vf_queue.proofs.SlotLemmas.{nowhere, within, fills, filled_written}

-- where no signal is wide, an update has 64 bits at most
narrow_signal : (signals : List Signal) (sig : ℕ) (u : Update) → list_any (λ (signal : Signal). is_wide signal.width) signals ≡ false
    → IsSomeAnd (slice_get signals sig) (FitsIn u) → length u.bits ≤ 64
narrow_signal [] sig u none fits = absurd fits
narrow_signal (signal ∷ rest) zero u none fits =
    let narrow = first (is_wide signal.width) (list_any (λ (signal : Signal). is_wide signal.width) rest) none in
    omega (arith, ltb-false 64 signal.width narrow, fits.inside)
  where
    first : (a b : Bool) → (a || b) ≡ false → a ≡ false
    first true b is = absurd (false≢true (sym is))
    first false b is = refl
narrow_signal (signal ∷ rest) (suc sig) u none fits =
    narrow_signal rest sig u (others (is_wide signal.width) (list_any (λ (signal : Signal). is_wide signal.width) rest) none) fits
  where
    others : (a b : Bool) → (a || b) ≡ false → b ≡ false
    others true b is = absurd (false≢true (sym is))
    others false b is = is

small : (bits : List Bit) (n : ℕ) → length bits ≤ 64 → n < 2 ^ length bits → n % 2 ^ 64 ≡ n
small bits n few below =
    let most : 2 ^ length bits ≤ 2 ^ 64 = pow_mono few in
    mod-eq_of_lt (omega (arith, below, most))

cons : {x y : ℕ} {xs ys : List ℕ} → x ≡ y → xs ≡ ys → x ∷ xs ≡ y ∷ ys
cons first rest = ap₂ (λ x xs. x ∷ xs) first rest

module _ (d : Elaborated) (u : Update) (kind time sig element place low_ones low_unknown high_ones high_unknown : ℕ) where
  abbrev all : List ℕ
  all = kind ∷ 0 ∷ time ∷ sig ∷ element ∷ place ∷ low_ones ∷ low_unknown ∷ high_ones ∷ high_unknown ∷ []

  pub update_taken : IsUpdate d u → sig ≡ u.sig → element ≡ u.element → place ≡ u.low * 256 + length u.bits → low_ones ≡ ones_of u.bits % 2 ^ 64
      → low_unknown ≡ unknown_of u.bits % 2 ^ 64 → high_ones ≡ ones_of u.bits / 2 ^ 64 → high_unknown ≡ unknown_of u.bits / 2 ^ 64
      → take (slot_size d) all ≡ kind ∷ 0 ∷ time ∷ update_words (has_wide d) u
  update_taken fits sig_is element_is place_is ones_is unknown_is high_is above_is = by (has_wide d) refl
    where
      by : (wide : Bool) → has_wide d ≡ wide → take (if wide then 10 else 8) all ≡ kind ∷ 0 ∷ time ∷ update_words wide u
      by true is =
          ap (λ list. kind ∷ 0 ∷ time ∷ list)
          (cons sig_is (cons element_is (cons place_is (cons ones_is (cons unknown_is (cons high_is (cons above_is refl)))))))
      by false is =
          let few = narrow_signal d.signals u.sig u is fits in
          let ones = ones_is ∙ small u.bits (ones_of u.bits) few (ones_below u.bits) in
          let unknown = unknown_is ∙ small u.bits (unknown_of u.bits) few (unknown_below u.bits) in
          ap (λ list. kind ∷ 0 ∷ time ∷ list) (cons sig_is (cons element_is (cons place_is (cons ones (cons unknown refl)))))

-- ---- what a posted update leaves

module _ (d : Elaborated) (s : State) (sound : IsSound d s) (q : ℕ) (free : IsFreeIn s q) (u : Update) where
  abbrev pub with_slot : Slot → State
  with_slot slot = put_slot q slot s

  pub posted_written : (slot : Slot) → is_free slot ≡ false → IsWritten d (with_slot slot)
  posted_written slot held = filled_written d s sound q free.least free.below slot held

  -- the words of its slot
  pub due_words : words_of d (with_slot (Due u)) ≡ put_all (slot_at d q) (2 ∷ 0 ∷ 0 ∷ update_words (has_wide d) u) (words_of d s)
  due_words = fills d s sound q free.least free.below (Due u) (2 ∷ 0 ∷ 0 ∷ update_words (has_wide d) u) refl

  pub later_words : (at : ℕ) → words_of d (with_slot (Later at u)) ≡ put_all (slot_at d q) (1 ∷ 0 ∷ at ∷ update_words (has_wide d) u) (words_of d s)
  later_words at = fills d s sound q free.least free.below (Later at u) (1 ∷ 0 ∷ at ∷ update_words (has_wide d) u) refl

  pub joins_nonblocking : words_of d (record (with_slot (Due u)) { nonblocking = s.nonblocking ++ of_slot q ∷ [] })
      ≡ joined d NONBLOCKING (length d.processes + q) (words_of d (with_slot (Due u)))
  joins_nonblocking =
      let has = posted_written (Due u) refl in
      (regions_written d (with_slot (Due u)) has.shape has.queued).joins NonblockingRegion (of_slot q) refl

  other_than : (x : Item) → 1 ≤ times x s.future → x ≡ of_slot q → ⊥
  other_than x stands same =
      let none = ap (λ x. times x (events s)) same ∙ nowhere d s sound q free.least free.below in
      let active = s.strobes ++ s.active in
      let first = times-append x s.inactive (s.nonblocking ++ (s.future ++ active)) in
      let second = times-append x s.nonblocking (s.future ++ active) in
      omega (arith, stands, none, first, second, times-append x s.future active)

  -- the time of every other event stays
  other_times : (slot : Slot) (item : Item) → (item ≡ of_slot q → ⊥) → time_of (with_slot slot) item ≡ time_of s item
  other_times slot (of_process p) other = refl
  other_times slot (of_slot r) other = ap slot_time (get_or-set_other s.slots q r slot Free (λ same. other (ap of_slot same)))

  pub joins_later : (at : ℕ) (last : Option ℕ) → IsLastUntil d s at last
      → words_of d (joins_future at (of_slot q) (with_slot (Later at u))) ≡ put_in d last (length d.processes + q) (words_of d (with_slot (Later at u)))
  joins_later at last is = by last is
    where
      next : State
      next = with_slot (Later at u)

      laws : RegionChanges d next
      laws = let has = posted_written (Later at u) refl in regions_written d next has.shape has.queued

      linked : HasLink d next (of_slot q)
      linked = (within d s sound q free.least free.below, ap is_free (get_or-set_same s.slots q (Later at u) Free free.below))

      absent : times (of_slot q) (events next) ≡ 0
      absent = nowhere d s sound q free.least free.below

      same : put_by_time (time_of next) at (of_slot q) s.future ≡ put_by_time (time_of s) at (of_slot q) s.future
      same = put_same (time_of next) (time_of s) at (of_slot q) s.future (λ x stands. other_times (Later at u) x (other_than x stands))

      by : (last : Option ℕ) → IsLastUntil d s at last → words_of d (joins_future at (of_slot q) next) ≡ put_in d last (length d.processes + q) (words_of d next)
      by None is = ap (λ list. words_of d (record next { future = list })) (same ∙ is (of_slot q)) ∙ laws.first (of_slot q) linked absent
      by (Some m) is =
          ap (λ list. words_of d (record next { future = list })) (same ∙ is.put (of_slot q))
          ∙ (laws.after is.before is.other (of_slot q) is.rest is.is linked absent ∙ ap (λ m. put_after d m (length d.processes + q) (words_of d next)) is.numbered)

-- ---- an update that is posted, by its delay

module _ (s : State) (u : Update) (delay : ℕ) where
  pub posted_now : (q : ℕ) → q ≡ least_free s → delay ≡ 0 → record (put_slot q (Due u) s) { nonblocking = s.nonblocking ++ of_slot q ∷ [] } ≡ posted delay u s
  posted_now q least none =
      ap (λ q. record (put_slot q (Due u) s) { nonblocking = s.nonblocking ++ of_slot q ∷ [] }) least
      ∙ ap
      (λ b. if b then record (put_slot (least_free s) (Due u) s) { nonblocking = s.nonblocking ++ of_slot (least_free s) ∷ [] }
      else joins_future (s.time + delay) (of_slot (least_free s)) (put_slot (least_free s) (Later (s.time + delay) u) s)) (sym (eq-eqb delay 0 none))

  pub posted_later : (q at : ℕ) → q ≡ least_free s → (delay ≡ 0 → ⊥) → s.time + delay ≡ at → joins_future at (of_slot q) (put_slot q (Later at u) s) ≡ posted delay u s
  posted_later q at least some is =
      ap₂ (λ q at. joins_future at (of_slot q) (put_slot q (Later at u) s)) least (sym is)
      ∙ ap
      (λ b. if b then record (put_slot (least_free s) (Due u) s) { nonblocking = s.nonblocking ++ of_slot (least_free s) ∷ [] }
      else joins_future (s.time + delay) (of_slot (least_free s)) (put_slot (least_free s) (Later (s.time + delay) u) s)) (sym (ne_eqb delay 0 some))
