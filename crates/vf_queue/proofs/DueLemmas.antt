-- The update that a slot holds is what its words say, and a slot that is freed.
use Rattle.std.proofs.Common.{◌≡◌, ℕ, suc, ◌+◌, ◌*◌, ◌/◌, ◌%◌, ◌^◌, ◌<◌, ◌≤◌, Bool, true, false, List, [], ◌∷◌, ◌++◌, length, take, Option, Some, None, refl, sym, ◌∙◌, ap, ap₂, subst, arith, if◌then◌else◌, nat_lt, slice_get, slice_index, IsSomeAnd}
use Rattle.std.proofs.lemmas.Option.{slice_get_within}
use Rattle.std.proofs.lemmas.List.Elements.{All-get_or}
use Rattle.vf_fours.specs.Planes.{bits_of, ones_of, unknown_of}
use Rattle.vf_elaborated.specs.declared.design.Signal.{Signal}
use Rattle.vf_elaborated.specs.Elaborated.{Elaborated}
use Rattle.vf_elaborated.specs.WellFormed.{IsWellFormed}
use Rattle.vf_elaborated.specs.Addresses.{STROBES, slot_at, slot_size, has_wide}
use Rattle.vf_elaborated.specs.Layout.{count_in, width_at, IsElement, address_of, value_size}
use Rattle.vf_elaborated.proofs.CallerLemmas.{words_small, address_inside}
use Rattle.vf_scheduler.specs.State.{State, Update, Slot, Free, Later, Due, Strobed, Status, Halted, Waiting, Active, Inactive, Future, Running, Item, of_process, of_slot, thread_of}
use Rattle.vf_scheduler.specs.Posting.{put_slot}
use Rattle.vf_scheduler.specs.Sound.{FitsIn, IsUpdate, IsSlot, IsSound, Stands, times, events, region_of, listed, slot_of, slot_region, slot_listed}
use Rattle.vf_scheduler.specs.Words.{link, head, numbers, update_words, slot_words, link_of, words_of}
use Rattle.vf_scheduler.proofs.CallerLemmas.{times-append, times_here, sized}
use Rattle.vf_layout.specs.Addresses.{HasShape}
use Rattle.vf_layout.specs.Puts.{StandsAt, put_all}
use Rattle.vf_layout.proofs.CallerLemmas.{words_standing, changes_written, sound_written, regions_written, has_link, bits_again}
use Rattle.vf_layout.specs.Regions.{ActiveRegion, StrobeRegion, taken}
use Rattle.vf_queue.specs.Due.{plane_in, UpdateStands}

-- ---- the words of an update

pub slot_room : (d : Elaborated) (at : ℕ) → at < 2 → 8 + at < 10
slot_room d at below = omega (arith, below)

pub six : (d : Elaborated) (at : ℕ) → at < 2 → 6 + at < slot_size d
six d at below = by (has_wide d)
  where
    by : (wide : Bool) → 6 + at < (if wide then 10 else 8)
    by true = omega (arith, below)
    by false = omega (arith, below)

pub eight : (d : Elaborated) (at : ℕ) → at < 2 → has_wide d ≡ true → 8 + at < slot_size d
eight d at below wide = subst (λ wide. 8 + at < (if wide then 10 else 8)) (sym wide) (omega (arith, below))

module _ (d : Elaborated) (words : List ℕ) (q : ℕ) (u : Update) (stands : UpdateStands d words q u) where
  some_words : (wide : Bool) → 4 < length (update_words wide u)
  some_words true = omega arith
  some_words false = omega arith

  word : (wide : Bool) → has_wide d ≡ wide → (k : ℕ) → k < length (update_words wide u) → slice_index words (slot_at d q + (3 + k)) ≡ slice_index (update_words wide u) k
  word wide is k below =
      ap (slice_index words) (omega arith) ∙ subst (λ wide. StandsAt words (slot_at d q + 3) (update_words wide u)) is stands k below

  pub sig_word : slice_index words (slot_at d q + 3) ≡ u.sig
  sig_word = by (has_wide d) refl
    where
      by : (wide : Bool) → has_wide d ≡ wide → slice_index words (slot_at d q + 3) ≡ u.sig
      by true is = word true is 0 (omega arith)
      by false is = word false is 0 (omega arith)

  pub element_word : slice_index words (slot_at d q + 4) ≡ u.element
  element_word = by (has_wide d) refl
    where
      by : (wide : Bool) → has_wide d ≡ wide → slice_index words (slot_at d q + 4) ≡ u.element
      by true is = word true is 1 (omega arith)
      by false is = word false is 1 (omega arith)

  pub place_word : slice_index words (slot_at d q + 5) ≡ u.low * 256 + length u.bits
  place_word = by (has_wide d) refl
    where
      by : (wide : Bool) → has_wide d ≡ wide → slice_index words (slot_at d q + 5) ≡ u.low * 256 + length u.bits
      by true is = word true is 2 (omega arith)
      by false is = word false is 2 (omega arith)

  pub ones_plane : plane_in (has_wide d) words (slot_at d q + (6 + 0)) ≡ ones_of u.bits
  ones_plane = by (has_wide d) refl
    where
      by : (wide : Bool) → has_wide d ≡ wide → plane_in wide words (slot_at d q + (6 + 0)) ≡ ones_of u.bits
      by true is =
          let low : slice_index words (slot_at d q + (6 + 0)) ≡ ones_of u.bits % 2 ^ 64 = word true is 3 (omega arith) in
          let high : slice_index words (slot_at d q + (6 + 0) + 2) ≡ ones_of u.bits / 2 ^ 64 = ap (slice_index words) (omega arith) ∙ word true is 5 (omega arith) in
          omega (arith, low, high)
      by false is = word false is 3 (omega arith)

  pub unknown_plane : plane_in (has_wide d) words (slot_at d q + (6 + 1)) ≡ unknown_of u.bits
  unknown_plane = by (has_wide d) refl
    where
      by : (wide : Bool) → has_wide d ≡ wide → plane_in wide words (slot_at d q + (6 + 1)) ≡ unknown_of u.bits
      by true is =
          let low : slice_index words (slot_at d q + (6 + 1)) ≡ unknown_of u.bits % 2 ^ 64 = word true is 4 (omega arith) in
          let high : slice_index words (slot_at d q + (6 + 1) + 2) ≡ unknown_of u.bits / 2 ^ 64 = ap (slice_index words) (omega arith) ∙ word true is 6 (omega arith) in
          omega (arith, low, high)
      by false is = word false is 4 (omega arith)

-- ---- the numbers of an update are small

pub record IsSmall (d : Elaborated) (u : Update) : Type 0 where
  pub sig : u.sig < 2 ^ 32
  pub element : u.element < 2 ^ 32
  pub low : u.low < 128
  pub some : 1 ≤ length u.bits
  pub most : length u.bits ≤ 128

pub update_small : (d : Elaborated) (u : Update) → IsWellFormed d → IsUpdate d u → IsSmall d u
unfolding address_of
update_small d u formed fits = by (slice_get d.signals u.sig) refl fits
  where
    least : (n size : ℕ) → 1 ≤ size → n ≤ n * size
    least n size some = grind (arith, some)

    some_words_in : (width : ℕ) → 1 ≤ value_size width
    some_words_in width = by (nat_lt 64 width)
      where
        by : (wide : Bool) → 1 ≤ (if wide then 4 else 2)
        by true = omega arith
        by false = omega arith

    by : (o : Option Signal) → slice_get d.signals u.sig ≡ o → IsSomeAnd o (FitsIn u) → IsSmall d u
    by None is fits = absurd fits
    by (Some signal) is fits =
        let size = sized d u.sig signal formed is in
        let element : IsElement d u.sig u.element = subst (λ o. u.element < count_in o) (sym is) fits.element in
        let inside = address_inside d u.sig u.element element in
        let words = words_small d formed in
        let far = least u.element (value_size (width_at d u.sig)) (some_words_in (width_at d u.sig)) in
        let sigs = slice_get_within d.signals u.sig signal is in
        record {
          sig = omega (arith, sigs, formed.few_signals);
          element = omega (arith, inside, words, far);
          low = omega (arith, fits.inside, fits.some, size.most);
          some = fits.some;
          most = omega (arith, fits.inside, size.most);
        }

-- the width stands below the low bit
pub width_in : (place low width : ℕ) → place ≡ low * 256 + width → width ≤ 128 → width ≡ place % 256
width_in place low width is few = omega (arith, is, few)

pub fits_in : (width other plane ones : ℕ) → width ≡ other → plane ≡ ones → ones < 2 ^ width → plane < 2 ^ other
fits_in width other plane ones long is below = subst (λ n. plane < 2 ^ n) long (subst (λ n. n < 2 ^ width) (sym is) below)

-- it is the update that its words say
module _ (u v : Update) where
  pub same_update : u.sig ≡ v.sig → u.element ≡ v.element → u.low ≡ v.low → u.bits ≡ v.bits → u ≡ v
  same_update sig element low bits = λ j. record { sig = sig j; element = element j; low = low j; bits = bits j }

pub bits_in : (u : Update) (width ones unknown : ℕ) → length u.bits ≡ width → ones ≡ ones_of u.bits → unknown ≡ unknown_of u.bits → bits_of width ones unknown ≡ u.bits
bits_in u width ones unknown long one two = ap₂ (bits_of width) one two ∙ bits_again u.bits width long

-- ---- what stands in which list

module _ (d : Elaborated) (s : State) (sound : IsSound d s) where
  abbrev pub counted : Item → ℕ
  counted x = times x s.inactive + (times x s.nonblocking + (times x s.future + (times x s.strobes + times x s.active)))

  pub all_of : (x : Item) → times x (events s) ≡ counted x
  all_of x =
      let late = s.strobes ++ s.active in
      omega (
        arith,
        times-append x s.inactive (s.nonblocking ++ (s.future ++ late)),
        times-append x s.nonblocking (s.future ++ late),
        times-append x s.future late,
        times-append x s.strobes s.active,
      )

  -- an active slot holds an update of now
  pub record IsDue (slot : Slot) : Type 0 where
    pub update : Update
    pub is : slot ≡ Due update

  pub active_due : (q : ℕ) → 1 ≤ times (of_slot q) s.active → IsDue (slot_of s q)
  active_due q stands = by (slot_of s q) (sound.slots_stand q)
    where
      by : (slot : Slot) → Stands s (of_slot q) (slot_region s slot) (slot_listed slot) → IsDue slot
      by Free h = absurd (omega (arith, stands, h.alone, all_of (of_slot q)))
      by (Later at u) h = absurd (omega (arith, stands, h.there, h.alone, all_of (of_slot q)))
      by (Due u) h = record { update = u; is = refl }
      by (Strobed show) h = absurd (omega (arith, stands, h.there, h.alone, all_of (of_slot q)))

  -- a strobe is a slot that holds a show
  pub record IsStrobe (x : Item) : Type 0 where
    pub slot : ℕ
    pub show : ℕ
    pub is : x ≡ of_slot slot
    pub holds : slot_of s slot ≡ Strobed show

  pub strobe_slot : (x : Item) → 1 ≤ times x s.strobes → IsStrobe x
  strobe_slot (of_slot q) stands = by (slot_of s q) refl (sound.slots_stand q)
    where
      by : (slot : Slot) → slot_of s q ≡ slot → Stands s (of_slot q) (slot_region s slot) (slot_listed slot) → IsStrobe (of_slot q)
      by Free is h = absurd (omega (arith, stands, h.alone, all_of (of_slot q)))
      by (Later at u) is h = absurd (omega (arith, stands, h.there, h.alone, all_of (of_slot q)))
      by (Due u) is h = absurd (omega (arith, stands, h.there, h.alone, all_of (of_slot q), times-append (of_slot q) s.nonblocking s.active))
      by (Strobed show) is h = record { slot = q; show = show; is = refl; holds = is }
  strobe_slot (of_process p) stands = by (thread_of s p).status (sound.processes_stand p)
    where
      by : (status : Status) → Stands s (of_process p) (region_of s status) (listed status) → IsStrobe (of_process p)
      by Halted h = absurd (omega (arith, stands, h.alone, all_of (of_process p)))
      by Waiting h = absurd (omega (arith, stands, h.alone, all_of (of_process p)))
      by Active h = absurd (omega (arith, stands, h.there, h.alone, all_of (of_process p)))
      by Inactive h = absurd (omega (arith, stands, h.there, h.alone, all_of (of_process p)))
      by Running h = absurd (omega (arith, stands, h.alone, all_of (of_process p)))
      by (Future at) h = absurd (omega (arith, stands, h.there, h.alone, all_of (of_process p)))

-- ---- in words

module _ (d : Elaborated) (t : State) (shape : HasShape d t) (q : ℕ) (below : q < d.slots) where
  abbrev words : List ℕ
  words = words_of d t

  pub due_stands : (u : Update) → slot_of t q ≡ Due u → UpdateStands d words q u
  due_stands u is k there =
      let all = subst (λ slot. StandsAt words (slot_at d q) (slot_words (has_wide d) (link_of d t) (length d.processes + q, slot))) is ((words_standing d t shape).slots q below) in
      ap (slice_index words) (omega arith) ∙ all (suc (suc (suc k))) (omega (arith, there))

  pub show_word : (show : ℕ) → slot_of t q ≡ Strobed show → slice_index words (slot_at d q + 3) ≡ show
  show_word show is =
      subst (λ slot. StandsAt words (slot_at d q) (slot_words (has_wide d) (link_of d t) (length d.processes + q, slot))) is ((words_standing d t shape).slots q below) 3 (omega arith)

  -- the words of a free slot are 0
  pub freed_words : words_of d (put_slot q Free t) ≡ put_all (slot_at d q) (take (slot_size d) (0 ∷ 0 ∷ 0 ∷ 0 ∷ 0 ∷ 0 ∷ 0 ∷ 0 ∷ 0 ∷ 0 ∷ [])) words
  freed_words = (changes_written d t shape).slots q Free below ∙ ap (λ list. put_all (slot_at d q) list words) (by (has_wide d))
    where
      by : (wide : Bool) → slot_words wide (link_of d t) (length d.processes + q, Free) ≡ take (if wide then 10 else 8) (0 ∷ 0 ∷ 0 ∷ 0 ∷ 0 ∷ 0 ∷ 0 ∷ 0 ∷ 0 ∷ 0 ∷ [])
      by true = refl
      by false = refl

-- ---- a slot that has left the active region

pub record Taken (d : Elaborated) (s : State) (q : ℕ) (rest : List Item) : Type 0 where
  pub update : Update
  pub is : slot_of s q ≡ Due update
  pub fits : IsUpdate d update
  pub below : q < d.slots
  pub shape : HasShape d (record s { active = rest })
  pub stands : UpdateStands d (words_of d (record s { active = rest })) q update

pub taken_due : (d : Elaborated) (s : State) → IsSound d s → (q : ℕ) (rest : List Item) → s.active ≡ of_slot q ∷ rest → Taken d s q rest
taken_due d s sound q rest active =
    let here : 1 ≤ times (of_slot q) s.active = omega (arith, ap (times (of_slot q)) active, times_here (of_slot q) rest) in
    let due = active_due d s sound q here in
    let has = (sound_written d s sound) in
    let linked = has_link d s has.queued ActiveRegion (of_slot q) s.active refl here in
    let shape : HasShape d (record s { active = rest }) = record { threads = has.shape.threads; values = has.shape.values; drivers = has.shape.drivers; slots = has.shape.slots } in
    record {
      update = due.update;
      is = due.is;
      fits = subst (IsSlot d) due.is (All-get_or (IsSlot d) s.slots q Free (omega (arith, linked.0, sound.slot_count)) sound.slots);
      below = linked.0;
      shape = shape;
      stands = due_stands d (record s { active = rest }) shape q linked.0 due.update due.is;
    }

-- ---- a strobe that leaves its list

pub record Struck (d : Elaborated) (s : State) (slot : ℕ) (rest : List Item) : Type 0 where
  pub below : slot < d.slots
  pub leads : slice_index (words_of d s) STROBES ≡ length d.processes + slot + 1
  pub words : words_of d (record s { strobes = rest }) ≡ taken d STROBES true (words_of d s)
  pub shape : HasShape d (record s { strobes = rest })

pub struck : (d : Elaborated) (s : State) → IsSound d s → (slot : ℕ) (rest : List Item) → s.strobes ≡ of_slot slot ∷ rest → Struck d s slot rest
struck d s sound slot rest strobes =
    let has = sound_written d s sound in
    let linked = has_link d s has.queued StrobeRegion (of_slot slot) s.strobes refl (omega (arith, ap (times (of_slot slot)) strobes, times_here (of_slot slot) rest)) in
    record {
      below = linked.0;
      leads = (words_standing d s has.shape).front.strobes.head_is ∙ ap (λ list. link (head (numbers d s list))) strobes;
      words = (regions_written d s has.shape has.queued).takes StrobeRegion (of_slot slot) rest strobes;
      shape = record { threads = has.shape.threads; values = has.shape.values; drivers = has.shape.drivers; slots = has.shape.slots };
    }

pub first_strobe : (d : Elaborated) (s : State) (sound : IsSound d s) → (first : Item) (rest : List Item) → s.strobes ≡ first ∷ rest → IsStrobe d s sound first
first_strobe d s sound first rest strobes = strobe_slot d s sound first (omega (arith, ap (times first) strobes, times_here first rest))

pub slot_is : (p q : ℕ) → of_slot p ≡ of_slot q → q ≡ p
slot_is p q same = ap number_of (sym same)
  where
    number_of : Item → ℕ
    number_of (of_slot q) = q
    number_of (of_process p) = 0
