-- Events that become active one after the other.
use Rattle.std.proofs.Common.{◌≡◌, ◌≢◌, ℕ, ◌+◌, ◌-◌, ◌^◌, ◌<◌, ◌≤◌, ◌==◌, not, cond, true, false, List, [], ◌∷◌, ◌++◌, length, drop, map, filter, refl, sym, ◌∙◌, ap, ap₂, subst, arith, ⊎_elim, slice_index, slice_index_or, slice_set}
use Rattle.std.specs.List.{All}
use Rattle.std.proofs.lemmas.Bool.{cases_eq, cases_lt, eq-eqb, false≢true}
use Rattle.std.proofs.lemmas.List.{append-nil, append_assoc, length-set, set-get_or, get_or-set_same, get_or-set_other, get_or_past}
use Rattle.vf_base.specs.declared.write.Write.{Write}
use Rattle.vf_elaborated.specs.Elaborated.{Elaborated}
use Rattle.vf_elaborated.specs.Addresses.{INACTIVE, FUTURE, thread_at, slot_at, link_at}
use Rattle.vf_scheduler.specs.State.{State, Active, Thread, Slot, Free, Later, Due, Strobed, Update, Item, of_process, of_slot, thread_of}
use Rattle.vf_scheduler.specs.Posting.{is_free, put_slot, time_of}
use Rattle.vf_scheduler.specs.Turning.{activated, activated_all, is_now, arrived, arrived_all, is_process, is_slot, advanced}
use Rattle.vf_scheduler.specs.Sound.{IsSound, Rises, Stands, times, events, slot_of, slot_region, slot_listed}
use Rattle.vf_scheduler.specs.Words.{link, head, numbers, words_of}
use Rattle.vf_scheduler.proofs.CallerLemmas.{times-append, times_here, Held, held, sound, activate_held, Arrives, arrive_held, all_later, between, time_is}
use Rattle.vf_layout.specs.Addresses.{HasShape}
use Rattle.vf_layout.specs.Regions.{InactiveRegion, FutureRegion, HasLink, number, taken}
use Rattle.vf_layout.specs.Laws.{IsWritten}
use Rattle.vf_layout.proofs.CallerLemmas.{words_standing, changes_written, sound_written, regions_written, has_link, numbered_below, few_events}
use Rattle.vf_queue.specs.Holding.{Holds}
use Rattle.vf_queue.specs.Promotions.{promoted, promoted_all, came, coming, came_all}
use Rattle.vf_queue.proofs.FutureLemmas.{time_stands}
use Rattle.vf_queue.proofs.DueLemmas.{all_of}

-- ---- an event leaves a list

module _ (d : Elaborated) (s : State) (has : IsWritten d s) where
  -- where no event stands oftener, and each has its link
  pub still_written : (t : State) → HasShape d t → ((x : Item) → times x (events t) ≤ times x (events s)) → ((x : Item) → HasLink d s x → HasLink d t x) → IsWritten d t
  still_written t shape fewer keeps = record {
    shape = shape;
    queued = record {
      once = λ x. omega (arith, fewer x, has.queued.once x);
      linked = λ x stands. keeps x (has.queued.linked x (omega (arith, stands, fewer x)));
    };
  }

  same_links : (t : State) → t.slots ≡ s.slots → (x : Item) → HasLink d s x → HasLink d t x
  same_links t same (of_process p) has = has
  same_links t same (of_slot q) has = (has.0, ap (λ slots. is_free (slice_index_or slots q Free)) same ∙ has.1)

  pub less_inactive : (x : Item) (rest : List Item) → s.inactive ≡ x ∷ rest → IsWritten d (record s { inactive = rest })
  less_inactive x rest is =
      let t : State = record s { inactive = rest } in
      still_written t (record { threads = has.shape.threads; values = has.shape.values; drivers = has.shape.drivers; slots = has.shape.slots })
      (λ y. omega (arith, times-append y s.inactive (s.nonblocking ++ (s.future ++ (s.strobes ++ s.active))), times-append y rest (s.nonblocking ++ (s.future ++ (s.strobes ++ s.active))), ap (times y) is))
      (same_links t refl)

  pub less_future : (x : Item) (rest : List Item) → s.future ≡ x ∷ rest → IsWritten d (record s { future = rest })
  less_future x rest is =
      let t : State = record s { future = rest } in
      let late = s.strobes ++ s.active in
      still_written t (record { threads = has.shape.threads; values = has.shape.values; drivers = has.shape.drivers; slots = has.shape.slots })
      (λ y.
      omega (
        arith,
        times-append y s.inactive (s.nonblocking ++ (s.future ++ late)),
        times-append y s.inactive (s.nonblocking ++ (rest ++ late)),
        times-append y s.nonblocking (s.future ++ late),
        times-append y s.nonblocking (rest ++ late),
        times-append y s.future late,
        times-append y rest late,
        ap (times y) is,
      ))
      (same_links t refl)

  -- ---- a process becomes active

  pub activated_written : (p : ℕ) → IsWritten d (activated (of_process p) s)
  activated_written p =
      let t = activated (of_process p) s in
      let thread : Thread = record { place = (thread_of s p).place; status = Active } in
      still_written t (record { threads = length-set s.threads p thread ∙ has.shape.threads; values = has.shape.values; drivers = has.shape.drivers; slots = has.shape.slots })
      (λ y. omega arith) (same_links t refl)

  pub activated_words : (p at : ℕ) → p < length d.processes → at ≡ thread_at p → words_of d (activated (of_process p) s) ≡ slice_set (slice_set (words_of d s) (at + 1) 2) (at + 3) 0
  activated_words p at below is =
      let words = words_of d s in
      let place = (thread_of s p).place in
      ((changes_written d s has.shape).threads p below).thread (record { place = place; status = Active })
      ∙ (ap (λ words. slice_set (slice_set words (thread_at p + 1) 2) (thread_at p + 3) 0)
      (ap (λ word. slice_set words (thread_at p) word) (sym ((words_standing d s has.shape).threads p below).place) ∙ set-get_or words (thread_at p) 0)
      ∙ ap (λ at. slice_set (slice_set words (at + 1) 2) (at + 3) 0) (sym is))

  -- ---- an update is one of now

  pub due_written : (q at : ℕ) (u : Update) → slot_of s q ≡ Later at u → IsWritten d (put_slot q (Due u) s)
  due_written q at u is =
      let t = put_slot q (Due u) s in
      still_written t (record { threads = has.shape.threads; values = has.shape.values; drivers = has.shape.drivers; slots = length-set s.slots q (Due u) ∙ has.shape.slots })
      (λ y. omega arith) keeps
    where
      held : (r : ℕ) → is_free (slot_of s r) ≡ false → is_free (slice_index_or (slice_set s.slots q (Due u)) r Free) ≡ false
      held r some =
          ⊎_elim (λ same. by_same r (sym same) some)
          (λ other. ap is_free (get_or-set_other s.slots q r (Due u) Free (λ same. other (sym same))) ∙ some)
          (cases_eq q r)
        where
          by_same : (r : ℕ) → r ≡ q → is_free (slot_of s r) ≡ false → is_free (slice_index_or (slice_set s.slots q (Due u)) r Free) ≡ false
          by_same r same some =
              ⊎_elim (λ below. ap (λ r. is_free (slice_index_or (slice_set s.slots q (Due u)) r Free)) same ∙ ap is_free (get_or-set_same s.slots q (Due u) Free (omega (arith, below, same))))
              (λ past. absurd (false≢true (sym some ∙ ap is_free (get_or_past s.slots r Free past))))
              (cases_lt r (length s.slots))

      keeps : (x : Item) → HasLink d s x → HasLink d (put_slot q (Due u) s) x
      keeps (of_process p) has = has
      keeps (of_slot r) has = (has.0, held r has.1)

  pub due_set : (q at place : ℕ) (u : Update) → q < d.slots → slot_of s q ≡ Later at u → place ≡ slot_at d q
      → words_of d (put_slot q (Due u) s) ≡ slice_set (slice_set (words_of d s) place 2) (place + 2) 0
  due_set q at place u below is place_is =
      (changes_written d s has.shape).comes q at u below is ∙ ap (λ place. slice_set (slice_set (words_of d s) place 2) (place + 2) 0) (sym place_is)

-- ---- the first event of a list

-- the number of an event tells whether it is a process
pub process_by : (d : Elaborated) (s : State) (x : Item) (n : ℕ) → HasLink d s x → n ≡ number d x → n < length d.processes → x ≡ of_process n
process_by d s (of_process p) n has is below = ap of_process (sym is)
process_by d s (of_slot q) n has is below = absurd (omega (arith, is, below))

pub slot_by : (d : Elaborated) (s : State) (x : Item) (n q : ℕ) → HasLink d s x → n ≡ number d x → length d.processes ≤ n → q ≡ n - length d.processes → x ≡ of_slot q
slot_by d s (of_process p) n q has is beyond from = absurd (omega (arith, is, beyond, has))
slot_by d s (of_slot r) n q has is beyond from = let same : r ≡ q = omega (arith, is, from) in ap of_slot same

module _ (d : Elaborated) (s : State) (sound : IsSound d s) where
  has : IsWritten d s
  has = sound_written d s sound

  -- an inactive event is a process
  pub record IsProcess (x : Item) : Type 0 where
    pub process : ℕ
    pub is : x ≡ of_process process

  inactive_process : (x : Item) → 1 ≤ times x s.inactive → IsProcess x
  inactive_process (of_process p) stands = record { process = p; is = refl }
  inactive_process (of_slot q) stands = by (slot_of s q) (sound.slots_stand q)
    where
      by : (slot : Slot) → Stands s (of_slot q) (slot_region s slot) (slot_listed slot) → IsProcess (of_slot q)
      by Free h = absurd (omega (arith, stands, h.alone, all_of d s sound (of_slot q)))
      by (Later at u) h = absurd (omega (arith, stands, h.there, h.alone, all_of d s sound (of_slot q)))
      by (Due u) h = absurd (omega (arith, stands, h.there, h.alone, all_of d s sound (of_slot q), times-append (of_slot q) s.nonblocking s.active))
      by (Strobed show) h = absurd (omega (arith, stands, h.there, h.alone, all_of d s sound (of_slot q)))

  pub record FirstInactive (x : Item) (rest : List Item) : Type 0 where
    pub process : ℕ
    pub is : x ≡ of_process process
    pub below : process < length d.processes
    pub leads : slice_index (words_of d s) INACTIVE ≡ process + 1
    pub words : words_of d (record s { inactive = rest }) ≡ taken d INACTIVE true (words_of d s)
    pub stands : IsWritten d (record s { inactive = rest })

  pub first_inactive : (x : Item) (rest : List Item) → s.inactive ≡ x ∷ rest → FirstInactive x rest
  first_inactive x rest inactive =
      let here : 1 ≤ times x s.inactive = omega (arith, ap (times x) inactive, times_here x rest) in
      let one = inactive_process x here in
      let linked = has_link d s has.queued InactiveRegion x s.inactive refl here in
      record {
        process = one.process;
        is = one.is;
        below = subst (HasLink d s) one.is linked;
        leads = (words_standing d s has.shape).front.inactive.head_is ∙ (ap (λ list. link (head (numbers d s list))) inactive ∙ ap (λ x. number d x + 1) one.is);
        words = (regions_written d s has.shape has.queued).takes InactiveRegion x rest inactive;
        stands = less_inactive d s has x rest inactive;
      }

  -- a slot of the future holds an update of a time to come
  pub record IsLater (slot : Slot) : Type 0 where
    pub at : ℕ
    pub update : Update
    pub is : slot ≡ Later at update

  pub future_later : (q : ℕ) → 1 ≤ times (of_slot q) s.future → IsLater (slot_of s q)
  future_later q stands = by (slot_of s q) (sound.slots_stand q)
    where
      by : (slot : Slot) → Stands s (of_slot q) (slot_region s slot) (slot_listed slot) → IsLater slot
      by Free h = absurd (omega (arith, stands, h.alone, all_of d s sound (of_slot q)))
      by (Later at u) h = record { at = at; update = u; is = refl }
      by (Due u) h = absurd (omega (arith, stands, h.there, h.alone, all_of d s sound (of_slot q), times-append (of_slot q) s.nonblocking s.active))
      by (Strobed show) h = absurd (omega (arith, stands, h.there, h.alone, all_of d s sound (of_slot q)))

  pub record FirstFuture (x : Item) (rest : List Item) : Type 0 where
    pub here : 1 ≤ times x s.future
    pub linked : HasLink d s x
    pub below : number d x < length d.processes + d.slots
    pub leads : slice_index (words_of d s) FUTURE ≡ number d x + 1
    pub words : words_of d (record s { future = rest }) ≡ taken d FUTURE false (words_of d s)
    pub stands : IsWritten d (record s { future = rest })

  pub first_future : (x : Item) (rest : List Item) → s.future ≡ x ∷ rest → FirstFuture x rest
  first_future x rest future =
      let here : 1 ≤ times x s.future = omega (arith, ap (times x) future, times_here x rest) in
      let linked = has_link d s has.queued FutureRegion x s.future refl here in
      record {
        here = here;
        linked = linked;
        below = numbered_below d s has.queued FutureRegion x linked;
        leads = (words_standing d s has.shape).front.future ∙ ap (λ list. link (head (numbers d s list))) future;
        words = (regions_written d s has.shape has.queued).takes FutureRegion x rest future;
        stands = less_future d s has x rest future;
      }

-- ---- the inactive events become active one after the other

-- what the lists are does not matter
activated_lists : (items : List Item) (s : State) (a i active inactive : List Item)
    → record (activated_all items (record s { active = a; inactive = i })) { active = active; inactive = inactive } ≡ record (activated_all items s) { active = active; inactive = inactive }
activated_lists [] s a i active inactive = refl
activated_lists (of_process p ∷ items) s a i active inactive = activated_lists items (activated (of_process p) s) a i active inactive
activated_lists (of_slot q ∷ items) s a i active inactive = activated_lists items s a i active inactive

module _ (d : Elaborated) (base : List ℕ) (s : State) where
  -- so many have become active
  pub record Promoting (count : ℕ) (patch : List Write) : Type 0 where
    pub state : State
    pub sound_is : IsSound d state
    pub holds : Holds d base patch state
    pub is : promoted_all state ≡ promoted_all s
    pub left : length state.inactive + count ≡ length s.inactive

  pub none_promoted : (patch : List Write) → IsSound d s → Holds d base patch s → Promoting 0 patch
  none_promoted patch is holds = record { state = s; sound_is = is; holds = holds; is = refl; left = omega arith }

  pub one_promoted : (count : ℕ) (old new : List Write) (way : Promoting count old) (x : Item) (rest : List Item) → way.state.inactive ≡ x ∷ rest
      → Holds d base new (promoted x rest way.state) → Promoting (count + 1) new
  one_promoted count old new way x rest inactive holds =
      let t = way.state in
      let held_now = subst (λ list. Held d (record t { inactive = list })) inactive (held d t way.sound_is) in
      record {
        state = promoted x rest t;
        sound_is = sound d (promoted x rest t) (activate_held d t x t.active rest held_now);
        holds = holds;
        is =
            activated_lists rest (activated x t) (t.active ++ x ∷ []) rest ((t.active ++ x ∷ []) ++ rest) []
            ∙ (ap (λ active. record (activated_all rest (activated x t)) { active = active; inactive = [] }) (append_assoc t.active (x ∷ []) rest)
            ∙ (ap (λ list. record (activated_all list t) { active = t.active ++ list; inactive = [] }) (sym inactive) ∙ way.is));
        left = omega (arith, way.left, ap length inactive);
      }

  -- none is left
  pub all_promoted : (count : ℕ) (patch : List Write) (way : Promoting count patch) → way.state.inactive ≡ [] → Holds d base patch (promoted_all s)
  all_promoted count patch way none =
      let t = way.state in
      subst (Holds d base patch)
      (sym
      (sym way.is
      ∙ (ap (λ list. record (activated_all list t) { active = t.active ++ list; inactive = [] }) none
      ∙ ap₂ (λ active inactive. record t { active = active; inactive = inactive }) (append-nil t.active) (sym none))))
      way.holds

-- whether an inactive event is left
pub record SomeInactive (s : State) : Type 0 where
  pub first : Item
  pub rest : List Item
  pub is : s.inactive ≡ first ∷ rest

pub some_inactive : (d : Elaborated) (s : State) → IsSound d s → (word : ℕ) → word ≡ slice_index (words_of d s) INACTIVE → word ≢ 0 → SomeInactive s
some_inactive d s sound word reads some = by s.inactive refl
  where
    by : (list : List Item) → s.inactive ≡ list → SomeInactive s
    by [] is = absurd (some (reads ∙ ((words_standing d s (sound_written d s sound).shape).front.inactive.head_is ∙ ap (λ list. link (head (numbers d s list))) is)))
    by (x ∷ rest) is = record { first = x; rest = rest; is = is }

pub no_inactive : (d : Elaborated) (s : State) → IsSound d s → (word : ℕ) → word ≡ slice_index (words_of d s) INACTIVE → word ≡ 0 → s.inactive ≡ []
no_inactive d s sound word reads none = by s.inactive refl
  where
    by : (list : List Item) → s.inactive ≡ list → s.inactive ≡ []
    by [] is = is
    by (x ∷ rest) is =
        let leads = (words_standing d s (sound_written d s sound).shape).front.inactive.head_is ∙ ap (λ list. link (head (numbers d s list))) is in
        absurd (omega (arith, leads, reads, none))

-- no more are inactive than have numbers
pub inactive_gone : (d : Elaborated) (base : List ℕ) (s : State) → IsSound d s → (count : ℕ) (patch : List Write) (way : Promoting d base s count patch)
    → length d.processes + d.slots ≤ count → way.state.inactive ≡ []
inactive_gone d base s sound count patch way all = nothing way.state.inactive (omega (arith, way.left, all, few_events d s (sound_written d s sound).queued InactiveRegion))
  where
    nothing : (list : List Item) → length list ≡ 0 → list ≡ []
    nothing [] none = refl
    nothing (x ∷ rest) none = absurd (omega (arith, none))

-- ---- the events of a time come one after the other

pub later_came : (d : Elaborated) (base : List ℕ) (patch : List Write) (s : State) (x : Item) (rest : List Item) (q at : ℕ) (u : Update) → x ≡ of_slot q → slot_of s q ≡ Later at u
    → Holds d base patch (record (put_slot q (Due u) s) { nonblocking = s.nonblocking ++ of_slot q ∷ []; future = rest }) → Holds d base patch (came x rest s)
later_came d base patch s x rest q at u is later holds =
    subst (λ x. Holds d base patch (came x rest s)) (sym is)
    (subst (λ slot. Holds d base patch (record (put_slot q slot s) { nonblocking = s.nonblocking ++ of_slot q ∷ []; future = rest })) (ap is_now (sym later)) holds)

-- what the lists are does not matter
arrived_lists : (items : List Item) (s : State) (a n f active nonblocking future : List Item)
    → record (arrived_all items (record s { active = a; nonblocking = n; future = f })) { active = active; nonblocking = nonblocking; future = future }
    ≡ record (arrived_all items s) { active = active; nonblocking = nonblocking; future = future }
arrived_lists [] s a n f active nonblocking future = refl
arrived_lists (of_process p ∷ items) s a n f active nonblocking future = arrived_lists items (activated (of_process p) s) a n f active nonblocking future
arrived_lists (of_slot q ∷ items) s a n f active nonblocking future = arrived_lists items (put_slot q (is_now (slot_of s q)) s) a n f active nonblocking future

-- some events come, and others stay
abbrev came_by : List Item → List Item → State → State
came_by come stay s = record (arrived_all come s) { active = s.active ++ filter is_process come; nonblocking = s.nonblocking ++ filter is_slot come; future = stay }

one_came : (x : Item) (come stay rest : List Item) (s : State) → came_by come stay (came x rest s) ≡ came_by (x ∷ come) stay s
one_came (of_process p) come stay rest s =
    let x = of_process p in
    arrived_lists come (activated x s) (s.active ++ x ∷ []) s.nonblocking rest ((s.active ++ x ∷ []) ++ filter is_process come) (s.nonblocking ++ filter is_slot come) stay
    ∙ ap (λ active. record (arrived_all come (activated x s)) { active = active; nonblocking = s.nonblocking ++ filter is_slot come; future = stay })
    (append_assoc s.active (x ∷ []) (filter is_process come))
one_came (of_slot q) come stay rest s =
    let x = of_slot q in
    let next = put_slot q (is_now (slot_of s q)) s in
    arrived_lists come next s.active (s.nonblocking ++ x ∷ []) rest (s.active ++ filter is_process come) ((s.nonblocking ++ x ∷ []) ++ filter is_slot come) stay
    ∙ ap (λ nonblocking. record (arrived_all come next) { active = s.active ++ filter is_process come; nonblocking = nonblocking; future = stay })
    (append_assoc s.nonblocking (x ∷ []) (filter is_slot come))

-- one event that comes keeps a state sound
came_is : (x : Item) (rest : List Item) (s : State)
    → record (arrived x s) { active = s.active ++ filter is_process (x ∷ []); nonblocking = s.nonblocking ++ filter is_slot (x ∷ []); future = rest } ≡ came x rest s
came_is (of_process p) rest s =
    ap (λ list. record (activated (of_process p) s) { active = s.active ++ of_process p ∷ []; nonblocking = list; future = rest }) (append-nil s.nonblocking)
came_is (of_slot q) rest s =
    ap (λ list. record (put_slot q (is_now (slot_of s q)) s) { active = list; nonblocking = s.nonblocking ++ of_slot q ∷ []; future = rest }) (append-nil s.active)

record Coming (d : Elaborated) (s next : State) (rest : List Item) : Type 0 where
  is_sound : IsSound d next
  same : map (time_of next) rest ≡ map (time_of s) rest

came_sound : (d : Elaborated) (s : State) → IsSound d s → (x : Item) (rest : List Item) → s.future ≡ x ∷ rest → Coming d s (came x rest s) rest
came_sound d s is x rest future =
    let held_now = subst (λ list. Held d (record s { future = list })) future (held d s is) in
    let one = arrive_held d s x s.active s.nonblocking [] rest held_now in
    let all = subst (λ next. Arrives d s next rest) (came_is x rest s) one in
    record {
      is_sound = sound d (came x rest s) all.keeps;
      same = ap (λ f. map f rest) (time_is (came x rest s)) ∙ (all.same ∙ ap (λ f. map f rest) (sym (time_is s)));
    }

module _ (at : ℕ) where
  abbrev comes : (Item → ℕ) → List Item → List Item
  comes f list = filter (λ x. f x == at) list

  abbrev stays : (Item → ℕ) → List Item → List Item
  stays f list = filter (λ x. not (f x == at)) list

  -- the same times tell the same events
  same_comes : (f g : Item → ℕ) (list : List Item) → map f list ≡ map g list → comes f list ≡ comes g list
  same_comes f g [] same = refl
  same_comes f g (x ∷ list) same =
      let rest = same_comes f g list (ap (drop 1) same) in
      let first = ap (λ l. slice_index l 0) same in
      ap₂ (λ n rest. cond (n == at) (x ∷ rest) rest) first rest

  same_stays : (f g : Item → ℕ) (list : List Item) → map f list ≡ map g list → stays f list ≡ stays g list
  same_stays f g [] same = refl
  same_stays f g (x ∷ list) same =
      let rest = same_stays f g list (ap (drop 1) same) in
      let first = ap (λ l. slice_index l 0) same in
      ap₂ (λ n rest. cond (not (n == at)) (x ∷ rest) rest) first rest

module _ (d : Elaborated) (base : List ℕ) (at : ℕ) (s : State) where
  -- so many have come
  pub record Arriving (count : ℕ) (patch : List Write) : Type 0 where
    pub state : State
    pub sound_is : IsSound d state
    pub holds : Holds d base patch state
    pub is : came_all at state ≡ came_all at s
    pub rises : Rises at (map (time_of state) state.future)
    pub left : length state.future + count ≡ length s.future

  pub none_came : (patch : List Write) → IsSound d s → Rises at (map (time_of s) s.future) → Holds d base patch s → Arriving 0 patch
  none_came patch is rises holds = record { state = s; sound_is = is; holds = holds; is = refl; rises = rises; left = omega arith }

  pub next_came : (count : ℕ) (old new : List Write) (way : Arriving count old) (x : Item) (rest : List Item) → way.state.future ≡ x ∷ rest → time_of way.state x ≡ at
      → Holds d base new (came x rest way.state) → Arriving (count + 1) new
  next_came count old new way x rest future now holds =
      let t = way.state in
      let next = came x rest t in
      let one = came_sound d t way.sound_is x rest future in
      let rises = subst (λ list. Rises at (map (time_of t) list)) future way.rises in
      let f = time_of t in
      let g = time_of next in
      record {
        state = next;
        sound_is = one.is_sound;
        holds = holds;
        is =
            ap₂ (λ come stay. came_by come stay next) (same_comes at g f rest one.same) (same_stays at g f rest one.same)
            ∙ (one_came x (comes at f rest) (stays at f rest) rest t
            ∙ (ap (λ b. came_by (cond b (x ∷ comes at f rest) (comes at f rest)) (cond (not b) (x ∷ stays at f rest) (stays at f rest)) t) (sym (eq-eqb (f x) at now))
            ∙ (ap (λ list. came_by (comes at f list) (stays at f list) t) (sym future) ∙ way.is)));
        rises = subst (Rises at) (sym one.same) (subst (λ n. Rises n (map f rest)) now rises.1);
        left = omega (arith, way.left, ap length future);
      }

  -- no other comes
  all_came : (count : ℕ) (patch : List Write) (way : Arriving count patch) → comes at (time_of way.state) way.state.future ≡ []
      → stays at (time_of way.state) way.state.future ≡ way.state.future → Holds d base patch (came_all at s)
  all_came count patch way none all =
      let t = way.state in
      subst (Holds d base patch)
      (sym
      (sym way.is
      ∙ (ap₂ (λ come stay. came_by come stay t) none all
      ∙ ap₂ (λ active nonblocking. record t { active = active; nonblocking = nonblocking }) (append-nil t.active) (append-nil t.nonblocking))))
      way.holds

  pub none_later : (count : ℕ) (patch : List Write) (way : Arriving count patch) → way.state.future ≡ [] → Holds d base patch (came_all at s)
  none_later count patch way none =
      let f = time_of way.state in
      all_came count patch way (ap (comes at f) none) (ap (stays at f) none ∙ sym none)

  pub next_later : (count : ℕ) (patch : List Write) (way : Arriving count patch) (x : Item) (rest : List Item) → way.state.future ≡ x ∷ rest
      → (time_of way.state x ≡ at → ⊥) → Holds d base patch (came_all at s)
  next_later count patch way x rest future other =
      let t = way.state in
      let f = time_of t in
      let rises = subst (λ list. Rises at (map f list)) future way.rises in
      let above : at < f x = lower (f x) rises.0 other in
      let times = subst (All (λ item. time_of t item < 2 ^ 64)) future way.sound_is.times in
      let later = all_later f at (f x) (x ∷ rest) above (between f (f x) (x ∷ rest) (omega arith, rises.1) times) in
      all_came count patch way (ap (comes at f) future ∙ later.none) (ap (stays at f) future ∙ (later.all ∙ sym future))
    where
      lower : (n : ℕ) → at ≤ n → (n ≡ at → ⊥) → at < n
      lower n most other = ⊎_elim (λ lt. lt) (λ ge. absurd (other (omega (arith, ge, most)))) (cases_lt at n)

pub record SomeFuture (d : Elaborated) (s : State) (word : ℕ) : Type 0 where
  pub first : Item
  pub rest : List Item
  pub is : s.future ≡ first ∷ rest
  pub leads : word ≡ number d first + 1
  pub linked : HasLink d s first
  pub below : number d first < length d.processes + d.slots

pub some_future : (d : Elaborated) (s : State) → IsSound d s → (word : ℕ) → word ≡ slice_index (words_of d s) FUTURE → word ≢ 0 → SomeFuture d s word
some_future d s sound word reads some = by s.future refl
  where
    by : (list : List Item) → s.future ≡ list → SomeFuture d s word
    by [] is = absurd (some (reads ∙ ((words_standing d s (sound_written d s sound).shape).front.future ∙ ap (λ list. link (head (numbers d s list))) is)))
    by (x ∷ rest) is =
        let first = first_future d s sound x rest is in
        record { first = x; rest = rest; is = is; leads = reads ∙ first.leads; linked = first.linked; below = first.below }

pub no_future : (d : Elaborated) (s : State) → IsSound d s → (word : ℕ) → word ≡ slice_index (words_of d s) FUTURE → word ≡ 0 → s.future ≡ []
no_future d s sound word reads none = by s.future refl
  where
    by : (list : List Item) → s.future ≡ list → s.future ≡ []
    by [] is = is
    by (x ∷ rest) is = let leads = (first_future d s sound x rest is).leads in absurd (omega (arith, leads, reads, none))

pub future_gone : (d : Elaborated) (base : List ℕ) (at : ℕ) (s : State) → IsSound d s → (count : ℕ) (patch : List Write) (way : Arriving d base at s count patch)
    → length d.processes + d.slots ≤ count → way.state.future ≡ []
future_gone d base at s sound count patch way all = nothing way.state.future (omega (arith, way.left, all, few_events d s (sound_written d s sound).queued FutureRegion))
  where
    nothing : (list : List Item) → length list ≡ 0 → list ≡ []
    nothing [] none = refl
    nothing (x ∷ rest) none = absurd (omega (arith, none))

-- the time of the first event
pub first_time : (d : Elaborated) (s : State) → IsSound d s → (x : Item) → HasLink d s x → (n time : ℕ) → n ≡ number d x → time ≡ slice_index (words_of d s) (link_at d n + 1)
    → time ≡ time_of s x
first_time d s sound x linked n time same reads =
    reads ∙ (ap (λ n. slice_index (words_of d s) (link_at d n + 1)) same ∙ time_stands d s (sound_written d s sound).shape x linked)

-- where nothing else is active, time goes on
pub goes_on_at : (s : State) (at : ℕ) → s.active ≡ [] → s.nonblocking ≡ [] → record (came_all at s) { time = at } ≡ advanced at s
goes_on_at s at active nonblocking =
    let come = coming at s in
    ap₂ (λ a n. record (arrived_all come s) {
      time = at;
      active = a ++ filter is_process come;
      nonblocking = n ++ filter is_slot come;
      future = filter (λ item. not (time_of s item == at)) s.future;
    }) active nonblocking

-- no event comes before the first
pub rises_from : (d : Elaborated) (s : State) → IsSound d s → (x : Item) (rest : List Item) → s.future ≡ x ∷ rest → Rises (time_of s x) (map (time_of s) s.future)
rises_from d s sound x rest future =
    let all = subst (λ list. Rises (s.time + 1) (map (time_of s) list)) future sound.future in
    subst (λ list. Rises (time_of s x) (map (time_of s) list)) (sym future) (omega arith, all.1)

-- and the event that a word leads to is the first
pub numbered : (d : Elaborated) (n other word : ℕ) → word ≡ n + 1 → word ≡ other + 1 → n ≡ other
numbered d n other word one two = omega (arith, one, two)
