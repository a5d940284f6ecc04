-- Where an event of a time joins the future.
use Rattle.std.proofs.Common.{◌≡◌, ◌≢◌, ℕ, ◌+◌, ◌-◌, ◌<◌, ◌≤◌, Bool, true, false, List, [], ◌∷◌, ◌++◌, length, Option, Some, None, refl, sym, ◌∙◌, ap, subst, arith, ⊎_elim, if◌then◌else◌, slice_index}
use Rattle.std.proofs.lemmas.Bool.{cases_lt, lt-ltb, le-ltb}
use Rattle.std.proofs.lemmas.List.{append_assoc, length-append}
use Rattle.std.proofs.lemmas.List.Elements.{All-nil, All-cons, All-head, All-tail, All-append}
use Rattle.std.specs.List.{All}
use Rattle.vf_elaborated.specs.Elaborated.{Elaborated}
use Rattle.vf_elaborated.specs.Addresses.{FUTURE, thread_at, slot_at, link_at, has_wide, word_count}
use Rattle.vf_elaborated.proofs.CallerLemmas.{thread_inside, slot_inside, link_of_process, link_beyond, link_of_slot}
use Rattle.vf_scheduler.specs.State.{State, Slot, Free, Later, Due, Strobed, Item, of_process, of_slot}
use Rattle.vf_scheduler.specs.Posting.{time_of, slot_time, put_by_time}
use Rattle.vf_scheduler.specs.Sound.{times, slot_of, IsSound}
use Rattle.vf_scheduler.specs.Words.{link, head, tail, numbers, slot_words, link_of, words_of}
use Rattle.vf_layout.specs.Addresses.{HasShape}
use Rattle.vf_layout.specs.Regions.{FutureRegion, HasLink, number}
use Rattle.vf_scheduler.proofs.CallerLemmas.{times-append, times_here}
use Rattle.vf_layout.proofs.CallerLemmas.{words_standing, regions_written, sound_written, has_link, numbered_below, few_events}
use Rattle.vf_queue.specs.Writing.{item_count, Leads}
use Rattle.vf_queue.specs.Future.{IsLastUntil}

-- ---- the time of an event

pub time_inside : (d : Elaborated) (n : ℕ) → n < item_count d → link_at d n + 1 < word_count d
time_inside d n below =
    ⊎_elim (λ process. let place = link_of_process d n process in let inside = thread_inside d n process in omega (arith, place, inside))
    (λ slot.
    let place = link_beyond d n slot in
    let inside = slot_inside d (n - length d.processes) (omega (arith, below, slot)) in
    omega (arith, place, inside, size d (has_wide d)))
    (cases_lt n (length d.processes))
  where
    size : (d : Elaborated) (wide : Bool) → 8 ≤ (if wide then 10 else 8)
    size d true = omega arith
    size d false = omega arith

slot_word : (wide : Bool) (links : ℕ → ℕ) (n : ℕ) (slot : Slot) → slice_index (slot_words wide links (n, slot)) 2 ≡ slot_time slot
slot_word true links n Free = refl
slot_word false links n Free = refl
slot_word wide links n (Later at u) = refl
slot_word wide links n (Due u) = refl
slot_word wide links n (Strobed show) = refl

slot_long : (wide : Bool) (links : ℕ → ℕ) (n : ℕ) (slot : Slot) → 2 < length (slot_words wide links (n, slot))
slot_long true links n Free = omega arith
slot_long false links n Free = omega arith
slot_long wide links n (Later at u) = omega arith
slot_long wide links n (Due u) = omega arith
slot_long wide links n (Strobed show) = omega arith

-- the time of an event stands after its link
pub time_stands : (d : Elaborated) (s : State) → HasShape d s → (item : Item) → HasLink d s item
    → slice_index (words_of d s) (link_at d (number d item) + 1) ≡ time_of s item
time_stands d s shape (of_process p) has =
    let at : link_at d p + 1 ≡ thread_at p + 3 = omega (arith, link_of_process d p has) in
    ap (slice_index (words_of d s)) at ∙ ((words_standing d s shape).threads p has).time
time_stands d s shape (of_slot q) has =
    let at : link_at d (length d.processes + q) + 1 ≡ slot_at d q + 2 = omega (arith, link_of_slot d q) in
    let n = length d.processes + q in
    ap (slice_index (words_of d s)) at ∙ ((words_standing d s shape).slots q has.0 2 (slot_long (has_wide d) (link_of d s) n (slot_of s q)) ∙ slot_word (has_wide d) (link_of d s) n (slot_of s q))

-- ---- the way along the future

module _ (d : Elaborated) (s : State) (at : ℕ) where
  -- so many events are passed, none of them later; the link to the next one, and the number of the last
  pub record Passed (last : Option ℕ) (next count : ℕ) : Type 0 where
    pub passed : List Item
    pub rest : List Item
    pub is : s.future ≡ passed ++ rest
    pub next_is : next ≡ link (head (numbers d s rest))
    pub last_is : last ≡ tail (numbers d s passed)
    pub early : All (λ item. time_of s item ≤ at) passed
    pub many : length passed ≡ count

  -- none is later: a new event comes after all that are passed
  put_after_all : (passed rest : List Item) (item : Item) → All (λ item. time_of s item ≤ at) passed
      → put_by_time (time_of s) at item (passed ++ rest) ≡ passed ++ put_by_time (time_of s) at item rest
  put_after_all [] rest item early = refl
  put_after_all (x ∷ passed) rest item early =
      ap (λ b. if b then item ∷ x ∷ passed ++ rest else x ∷ put_by_time (time_of s) at item (passed ++ rest)) (le-ltb at (time_of s x) (All-head (λ item. time_of s item ≤ at) x passed early))
      ∙ ap (λ list. x ∷ list) (put_after_all passed rest item (All-tail (λ item. time_of s item ≤ at) x passed early))

  -- the last event that is passed
  pub record Last (x : Item) (passed : List Item) : Type 0 where
    pub before : List Item
    pub other : Item
    pub is : x ∷ passed ≡ before ++ other ∷ []
    pub numbered : tail (numbers d s (x ∷ passed)) ≡ Some (number d other)

  pub last_of : (x : Item) (passed : List Item) → Last x passed
  last_of x [] = record { before = []; other = x; is = refl; numbered = refl }
  last_of x (y ∷ passed) =
      let later = last_of y passed in
      record { before = x ∷ later.before; other = later.other; is = ap (λ list. x ∷ list) later.is; numbered = later.numbered }

  -- the rest has only later events
  pub found : (last : Option ℕ) (next count : ℕ) (way : Passed last next count) → ((item : Item) → put_by_time (time_of s) at item way.rest ≡ item ∷ way.rest)
      → IsLastUntil d s at last
  found last next count way later = subst (IsLastUntil d s at) (sym way.last_is) (by way.passed way.rest way.is way.early later)
    where
      by : (passed rest : List Item) → s.future ≡ passed ++ rest → All (λ item. time_of s item ≤ at) passed
          → ((item : Item) → put_by_time (time_of s) at item rest ≡ item ∷ rest) → IsLastUntil d s at (tail (numbers d s passed))
      by [] rest is early later = λ item. ap (put_by_time (time_of s) at item) is ∙ (later item ∙ ap (λ list. item ∷ list) (sym is))
      by (x ∷ passed) rest is early later =
          let end = last_of x passed in
          let whole = is ∙ (ap (λ list. list ++ rest) end.is ∙ append_assoc end.before (end.other ∷ []) rest) in
          subst (IsLastUntil d s at) (sym end.numbered)
          (record {
            before = end.before;
            other = end.other;
            rest = rest;
            is = whole;
            numbered = refl;
            put = λ item.
                ap (put_by_time (time_of s) at item) is
                ∙ (put_after_all (x ∷ passed) rest item early
                ∙ (ap (λ list. (x ∷ passed) ++ list) (later item)
                ∙ (ap (λ list. list ++ item ∷ rest) end.is ∙ append_assoc end.before (end.other ∷ []) (item ∷ rest))));
          })

  -- nothing is left
  pub none_left : (rest : List Item) → rest ≡ [] → (item : Item) → put_by_time (time_of s) at item rest ≡ item ∷ rest
  none_left rest none item = ap (put_by_time (time_of s) at item) none ∙ ap (λ list. item ∷ list) (sym none)

  no_link : (rest : List Item) → link (head (numbers d s rest)) ≡ 0 → rest ≡ []
  no_link [] none = refl
  no_link (x ∷ rest) none = absurd (omega (arith, none))

  -- an event is left
  pub record Next (next : ℕ) (rest : List Item) : Type 0 where
    pub first : Item
    pub more : List Item
    pub is : rest ≡ first ∷ more
    pub leads : next ≡ number d first + 1

  next_of : (next : ℕ) (rest : List Item) → next ≡ link (head (numbers d s rest)) → next ≢ 0 → Next next rest
  next_of next [] is some = absurd (some is)
  next_of next (x ∷ rest) is some = record { first = x; more = rest; is = refl; leads = is }

module _ (d : Elaborated) (s : State) (at : ℕ) (sound : IsSound d s) where
  shape : HasShape d s
  shape = (sound_written d s sound).shape

  -- at the first event
  pub begun : (next : ℕ) → next ≡ slice_index (words_of d s) FUTURE → Passed d s at None next 0
  begun next is = record {
    passed = [];
    rest = s.future;
    is = refl;
    next_is = is ∙ (words_standing d s shape).front.future;
    last_is = refl;
    early = All-nil (λ item. time_of s item ≤ at);
    many = refl;
  }

  -- no event is left
  pub at_end : (last : Option ℕ) (next count : ℕ) → Passed d s at last next count → next ≡ 0 → IsLastUntil d s at last
  at_end last next count way none =
      found d s at last next count way (none_left d s at way.rest (no_link d s at way.rest (sym way.next_is ∙ none)))

  -- all are passed
  pub exhausted : (last : Option ℕ) (next count : ℕ) → Passed d s at last next count → item_count d ≤ count → IsLastUntil d s at last
  exhausted last next count way all = found d s at last next count way (none_left d s at way.rest (nothing way.rest long))
    where
      few : length s.future ≤ item_count d
      few = few_events d s (sound_written d s sound).queued FutureRegion

      long : length way.rest ≡ 0
      long = omega (arith, few, ap length way.is, length-append way.passed way.rest, way.many, all)

      nothing : (rest : List Item) → length rest ≡ 0 → rest ≡ []
      nothing [] none = refl
      nothing (x ∷ rest) none = absurd (omega (arith, none))

  -- the event that comes next has a link
  first_linked : (passed : List Item) (x : Item) (more : List Item) → s.future ≡ passed ++ x ∷ more → HasLink d s x
  first_linked passed x more is =
      has_link d s (sound_written d s sound).queued FutureRegion x s.future refl
      (omega (arith, ap (times x) is, times-append x passed (x ∷ more), times_here x more))

  tail_end : (passed : List Item) (x : Item) → tail (numbers d s (passed ++ x ∷ [])) ≡ Some (number d x)
  tail_end [] x = refl
  tail_end (y ∷ []) x = refl
  tail_end (y ∷ z ∷ passed) x = tail_end (z ∷ passed) x

  -- the next event is later
  pub at_later : (last : Option ℕ) (next count : ℕ) → Passed d s at last next count → (n time : ℕ) → next ≡ n + 1
      → time ≡ slice_index (words_of d s) (link_at d n + 1) → at < time → IsLastUntil d s at last
  at_later last next count way n time leads reads later =
      let step = next_of d s at next way.rest way.next_is (λ none. omega (arith, none, leads)) in
      let has = first_linked way.passed step.first step.more (way.is ∙ ap (λ rest. way.passed ++ rest) step.is) in
      let same : n ≡ number d step.first = omega (arith, leads, step.leads) in
      let is : time ≡ time_of s step.first = reads ∙ (ap (λ n. slice_index (words_of d s) (link_at d n + 1)) same ∙ time_stands d s shape step.first has) in
      found d s at last next count way
      (λ item.
      ap (put_by_time (time_of s) at item) step.is
      ∙ (ap (λ b. if b then item ∷ step.first ∷ step.more else step.first ∷ put_by_time (time_of s) at item step.more)
      (lt-ltb at (time_of s step.first) (omega (arith, later, is)))
      ∙ ap (λ list. item ∷ list) (sym step.is)))

  -- the next event is passed too
  pub one_passed : (last : Option ℕ) (next count : ℕ) → Passed d s at last next count → (n time follows : ℕ) → next ≡ n + 1
      → time ≡ slice_index (words_of d s) (link_at d n + 1) → time ≤ at → follows ≡ slice_index (words_of d s) (link_at d n) → Passed d s at (Some n) follows (count + 1)
  one_passed last next count way n time follows leads reads early next_reads =
      let step = next_of d s at next way.rest way.next_is (λ none. omega (arith, none, leads)) in
      let is : s.future ≡ way.passed ++ step.first ∷ step.more = way.is ∙ ap (λ rest. way.passed ++ rest) step.is in
      let has = first_linked way.passed step.first step.more is in
      let same : n ≡ number d step.first = omega (arith, leads, step.leads) in
      let at_first : time ≡ time_of s step.first = reads ∙ (ap (λ n. slice_index (words_of d s) (link_at d n + 1)) same ∙ time_stands d s shape step.first has) in
      record {
        passed = way.passed ++ step.first ∷ [];
        rest = step.more;
        is = is ∙ sym (append_assoc way.passed (step.first ∷ []) step.more);
        next_is =
            next_reads
            ∙ (ap (λ n. slice_index (words_of d s) (link_at d n)) same
            ∙ (regions_written d s shape (sound_written d s sound).queued).follows FutureRegion way.passed step.first step.more is);
        last_is = ap Some same ∙ sym (tail_end way.passed step.first);
        early = All-append (λ item. time_of s item ≤ at) way.passed (step.first ∷ []) way.early
            (All-cons (λ item. time_of s item ≤ at) step.first [] (omega (arith, early, at_first)) (All-nil (λ item. time_of s item ≤ at)));
        many = omega (arith, length-append way.passed (step.first ∷ []), way.many);
      }

  -- an event is left, and the link leads to it
  pub leads_on : (last : Option ℕ) (next count : ℕ) → Passed d s at last next count → next ≢ 0 → Leads d next
  leads_on last next count way some =
      let step = next_of d s at next way.rest way.next_is some in
      let has = first_linked way.passed step.first step.more (way.is ∙ ap (λ rest. way.passed ++ rest) step.is) in
      record { to = number d step.first; below = numbered_below d s (sound_written d s sound).queued FutureRegion step.first has; is = step.leads }
