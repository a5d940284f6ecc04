-- A turn in which no process runs keeps a state sound.
use Rattle.std.proofs.Common.{◌≡◌, ◌≢◌, ℕ, ◌<◌, ◌≤◌, Bool, true, false, cond, List, [], ◌∷◌, ◌++◌, filter, length, None, refl, sym, ◌∙◌, ap, subst, arith, ⊎_elim, slice_index_or, slice_set}
use Rattle.std.proofs.lemmas.Bool.{cases_lt}
use Rattle.std.proofs.lemmas.List.{append-nil, append_assoc, get_or_past}
use Rattle.vf_elaborated.specs.Elaborated.{Elaborated}
use Rattle.vf_elaborated.specs.WellFormed.{IsWellFormed}
use Rattle.vf_scheduler.specs.State.{State, Status, Halted, Waiting, Active, Inactive, Future, Running, Thread, Update, Slot, Free, Later, Due, Strobed, Item, of_process, of_slot, no_thread, thread_of, put_thread}
use Rattle.vf_scheduler.specs.Posting.{put_slot}
use Rattle.vf_scheduler.specs.Turning.{take_item, take_slot, activated as activate, activated_all, is_now, arrived, arrived_all, is_process, is_slot}
use Rattle.vf_scheduler.specs.Sound.{IsSlot, IsUpdate}
use Rattle.vf_scheduler.proofs.Marks.{times-append, Mark, Nowhere, often, Placed, times_here, few}
use Rattle.vf_scheduler.proofs.Queues.{IsQueue, times_by, times_kept}
use Rattle.vf_scheduler.proofs.Moves.{begins, taken, printed, activated, arrives_active, arrives_due}
use Rattle.vf_scheduler.proofs.Held.{mark_in, status_mark, slot_mark, HasPlace, Shapes, Held, thread_put, slot_put}
use Rattle.vf_scheduler.proofs.Processes.{all_zip_at, IsPlace, shapes_put, process_within}
use Rattle.vf_scheduler.proofs.Slots.{slot_shapes}
use Rattle.vf_scheduler.proofs.Waking.{updated_held}

-- ---- what stands where

pub somewhere : (m : Mark) → 1 ≤ often m → m ≢ Nowhere
somewhere m some e = omega (arith, some, ap often e)

record IsDueUpdate (slot : Slot) : Type 0 where
  update : Update
  is : slot ≡ Due update

due_slot : (slot : Slot) (a i n f t : ℕ) → Placed (slot_mark slot) a i n f t → 1 ≤ a → IsDueUpdate slot
due_slot Free a i n f t h some = absurd (omega (arith, h.alone, some))
due_slot (Later at u) a i n f t h some = absurd (omega (arith, h.there, h.alone, some))
due_slot (Due u) a i n f t h some = record { update = u; is = refl }
due_slot (Strobed show) a i n f t h some = absurd (omega (arith, h.there, h.alone, some))

record IsLaterUpdate (slot : Slot) : Type 0 where
  at : ℕ
  update : Update
  is : slot ≡ Later at update

later_slot : (slot : Slot) (a i n f t : ℕ) → Placed (slot_mark slot) a i n f t → 1 ≤ f → IsLaterUpdate slot
later_slot Free a i n f t h some = absurd (omega (arith, h.alone, some))
later_slot (Later at u) a i n f t h some = record { at = at; update = u; is = refl }
later_slot (Due u) a i n f t h some = absurd (omega (arith, h.there, h.alone, some))
later_slot (Strobed show) a i n f t h some = absurd (omega (arith, h.there, h.alone, some))

no_inactive_slot : (slot : Slot) (a i n f t : ℕ) → Placed (slot_mark slot) a i n f t → 1 ≤ i → ⊥
no_inactive_slot Free a i n f t h some = omega (arith, h.alone, some)
no_inactive_slot (Later at u) a i n f t h some = omega (arith, h.there, h.alone, some)
no_inactive_slot (Due u) a i n f t h some = omega (arith, h.there, h.alone, some)
no_inactive_slot (Strobed show) a i n f t h some = omega (arith, h.there, h.alone, some)

no_strobed_process : (status : Status) (a i n f t : ℕ) → Placed (status_mark status) a i n f t → 1 ≤ t → ⊥
no_strobed_process Halted a i n f t h some = omega (arith, h.alone, some)
no_strobed_process Waiting a i n f t h some = omega (arith, h.alone, some)
no_strobed_process Active a i n f t h some = omega (arith, h.there, h.alone, some)
no_strobed_process Inactive a i n f t h some = omega (arith, h.there, h.alone, some)
no_strobed_process (Future at) a i n f t h some = omega (arith, h.there, h.alone, some)
no_strobed_process Running a i n f t h some = omega (arith, h.alone, some)

pub slot_within : (s : State) (q : ℕ) → mark_in s.threads s.slots (of_slot q) ≢ Nowhere → q < length s.slots
slot_within s q somewhere = ⊎_elim (λ lt. lt) (λ ge. absurd (somewhere (ap slot_mark (get_or_past s.slots q Free ge)))) (cases_lt q (length s.slots))

same_place : (d : Elaborated) (s : State) (p : ℕ) → Shapes d s → IsPlace d p (thread_of s p).place
same_place d s p h process at = all_zip_at HasPlace d.processes s.threads p process no_thread h.places at

module _ (d : Elaborated) where
  -- a process is put at its place, with another status
  status_shapes : (s : State) (p : ℕ) (status : Status) → Shapes d s → Shapes d (put_thread p (record { place = (thread_of s p).place; status = status }) s)
  status_shapes s p status h = record {
    places = shapes_put d s p (record { place = (thread_of s p).place; status = status }) h (same_place d s p h);
    fits = h.fits;
    widths = h.widths;
    slot_count = h.slot_count;
    holds = h.holds;
    shows = h.shows;
    is_due = h.is_due;
  }

  -- ---- an active event is taken

  take_process : (s : State) (p : ℕ) (rest : List Item) → s.running ≡ None → Held d (record s { active = of_process p ∷ rest })
      → Held d (take_item d (of_process p) (record s { active = rest }))
  take_process s p rest none h =
      let x = of_process p in
      let here = times_here x rest in
      let within = process_within s p (somewhere _ (omega (arith, (h.queue.placed x).alone, here))) in
      let thread : Thread = record { place = (thread_of s p).place; status = Running } in
      record {
        shapes = status_shapes (record s { active = rest }) p Running h.shapes;
        queue =
            begins (mark_in s.threads s.slots) (mark_in (slice_set s.threads p thread) s.slots) s.time rest s.inactive s.nonblocking s.future s.strobes p
            (subst (λ o. IsQueue (mark_in s.threads s.slots) s.time o (x ∷ rest) s.inactive s.nonblocking s.future s.strobes) none h.queue)
            (thread_put s.threads s.slots p thread within);
      }

  pub freed : (s : State) (q : ℕ) (rest : List Item) → Held d (record s { active = of_slot q ∷ rest }) → Held d (put_slot q Free (record s { active = rest }))
  freed s q rest h =
      let x = of_slot q in
      let here = times_here x rest in
      let within = slot_within s q (somewhere _ (omega (arith, (h.queue.placed x).alone, here))) in
      record {
        shapes = slot_shapes d (record s { active = rest }) q Free h.shapes tt;
        queue =
            taken (mark_in s.threads s.slots) (mark_in s.threads (slice_set s.slots q Free)) s.time rest s.inactive s.nonblocking s.future s.strobes s.running x h.queue
            (slot_put s.threads s.slots q Free within);
      }

  pub take_held : IsWellFormed d → (s : State) (x : Item) (rest : List Item) → s.running ≡ None → Held d (record s { active = x ∷ rest })
      → Held d (take_item d x (record s { active = rest }))
  take_held wf s (of_process p) rest none h = take_process s p rest none h
  take_held wf s (of_slot q) rest none h =
      let x = of_slot q in
      let here = times_here x rest in
      let due = due_slot (slice_index_or s.slots q Free) _ _ _ _ _ (h.queue.placed x) (omega (arith, here)) in
      let within = slot_within s q (somewhere _ (omega (arith, (h.queue.placed x).alone, here))) in
      subst (λ slot. Held d (take_slot d q slot (record s { active = rest }))) (sym due.is)
      (updated_held d wf due.update (put_slot q Free (record s { active = rest })) (subst (IsSlot d) due.is (h.shapes.holds q Free within)) (freed s q rest h))

  -- ---- the inactive events become active

  pub activate_held : (s : State) (x : Item) (a i : List Item) → Held d (record s { active = a; inactive = x ∷ i })
      → Held d (record (activate x s) { active = a ++ x ∷ []; inactive = i })
  activate_held s (of_process p) a i h =
      let x = of_process p in
      let here = times_here x i in
      let within = process_within s p (somewhere _ (omega (arith, (h.queue.placed x).alone, here))) in
      let thread : Thread = record { place = (thread_of s p).place; status = Active } in
      record {
        shapes = status_shapes s p Active h.shapes;
        queue =
            activated (mark_in s.threads s.slots) (mark_in (slice_set s.threads p thread) s.slots) s.time a i s.nonblocking s.future s.strobes s.running x h.queue
            (thread_put s.threads s.slots p thread within);
      }
  activate_held s (of_slot q) a i h =
      let here = times_here (of_slot q) i in
      absurd (no_inactive_slot (slice_index_or s.slots q Free) _ _ _ _ _ (h.queue.placed (of_slot q)) (omega (arith, here)))

  pub activate_all_held : (items : List Item) (s : State) (a : List Item) → Held d (record s { active = a; inactive = items })
      → Held d (record (activated_all items s) { active = a ++ items; inactive = [] })
  activate_all_held [] s a h = subst (λ list. Held d (record s { active = list; inactive = [] })) (sym (append-nil a)) h
  activate_all_held (x ∷ rest) s a h =
      subst (λ list. Held d (record (activated_all rest (activate x s)) { active = list; inactive = [] })) (append_assoc a (x ∷ []) rest)
      (activate_all_held rest (activate x s) (a ++ x ∷ []) (activate_held s x a rest h))

  -- ---- a strobe is printed

  pub strobe_printed : (s : State) (q : ℕ) (rest : List Item) → Held d (record s { strobes = of_slot q ∷ rest }) → Held d (record (put_slot q Free s) { strobes = rest })
  strobe_printed s q rest h =
      let x = of_slot q in
      let here = times_here x rest in
      let within = slot_within s q (somewhere _ (omega (arith, (h.queue.placed x).alone, here))) in
      record {
        shapes = slot_shapes d s q Free h.shapes tt;
        queue =
            printed (mark_in s.threads s.slots) (mark_in s.threads (slice_set s.slots q Free)) s.time s.active s.inactive s.nonblocking s.future rest s.running x h.queue
            (slot_put s.threads s.slots q Free within);
      }

  pub no_process_printed : (s : State) (p : ℕ) (rest : List Item) → Held d (record s { strobes = of_process p ∷ rest }) → ⊥
  no_process_printed s p rest h =
      let here = times_here (of_process p) rest in
      no_strobed_process (thread_of s p).status _ _ _ _ _ (h.queue.placed (of_process p)) (omega (arith, here))

  -- ---- the events of a time come

  -- one event comes, and the others of the future stay
  pub record Arrives (s next : State) (later : List Item) : Type 0 where
    pub keeps : Held d next
    pub same : times_by (mark_in next.threads next.slots) later ≡ times_by (mark_in s.threads s.slots) later

  pub arrive_held : (s : State) (x : Item) (a n rest later : List Item) → Held d (record s { active = a; nonblocking = n; future = x ∷ rest ++ later })
      → Arrives s (record (arrived x s) { active = a ++ filter is_process (x ∷ []); nonblocking = n ++ filter is_slot (x ∷ []); future = rest ++ later }) later
  arrive_held s (of_process p) a n rest later h =
      let x = of_process p in
      let f = rest ++ later in
      let parts = times-append x rest later in
      let here = times_here x f in
      let before = (h.queue.placed x).alone in
      let once = few (mark_in s.threads s.slots x) in
      let within = process_within s p (somewhere _ (omega (arith, before, here))) in
      let thread : Thread = record { place = (thread_of s p).place; status = Active } in
      let change = thread_put s.threads s.slots p thread within in
      record {
        keeps =
            subst (λ list. Held d (record (arrived x s) { active = a ++ x ∷ []; nonblocking = list; future = f })) (sym (append-nil n))
            (record {
              shapes = status_shapes s p Active h.shapes;
              queue = arrives_active (mark_in s.threads s.slots) (mark_in (slice_set s.threads p thread) s.slots) s.time a s.inactive n f s.strobes s.running x h.queue change;
            });
        same = times_kept (mark_in s.threads s.slots) (mark_in (slice_set s.threads p thread) s.slots) x _ change later (omega (arith, before, once, here, parts));
      }
  arrive_held s (of_slot q) a n rest later h =
      let x = of_slot q in
      let f = rest ++ later in
      let parts = times-append x rest later in
      let here = times_here x f in
      let before = (h.queue.placed x).alone in
      let once = few (mark_in s.threads s.slots x) in
      let within = slot_within s q (somewhere _ (omega (arith, before, here))) in
      let old = later_slot (slice_index_or s.slots q Free) _ _ _ _ _ (h.queue.placed x) (omega (arith, here)) in
      let change = slot_put s.threads s.slots q (Due old.update) within in
      let is : IsUpdate d old.update = subst (IsSlot d) old.is (h.shapes.holds q Free within) in
      subst (λ slot. Arrives s (record (put_slot q (is_now slot) s) { active = a ++ []; nonblocking = n ++ x ∷ []; future = f }) later) {x = Later old.at old.update} (sym old.is)
      (record {
        keeps =
            subst (λ list. Held d (record (put_slot q (Due old.update) s) { active = list; nonblocking = n ++ x ∷ []; future = f })) (sym (append-nil a))
            (record {
              shapes = slot_shapes d s q (Due old.update) h.shapes is;
              queue = arrives_due (mark_in s.threads s.slots) (mark_in s.threads (slice_set s.slots q (Due old.update))) s.time a s.inactive n f s.strobes s.running x h.queue change;
            });
        same = times_kept (mark_in s.threads s.slots) (mark_in s.threads (slice_set s.slots q (Due old.update))) x _ change later (omega (arith, before, once, here, parts));
      })

  filter_first : (test : Item → Bool) (a : List Item) (x : Item) (rest : List Item) → (a ++ filter test (x ∷ [])) ++ filter test rest ≡ a ++ filter test (x ∷ rest)
  filter_first test a x rest = append_assoc a (filter test (x ∷ [])) (filter test rest) ∙ ap (λ list. a ++ list) (by (test x))
    where
      by : (b : Bool) → cond b (x ∷ []) [] ++ filter test rest ≡ cond b (x ∷ filter test rest) (filter test rest)
      by true = refl
      by false = refl

  pub arrive_all_held : (coming later : List Item) (s : State) (a n : List Item) → Held d (record s { active = a; nonblocking = n; future = coming ++ later })
      → Arrives s (record (arrived_all coming s) { active = a ++ filter is_process coming; nonblocking = n ++ filter is_slot coming; future = later }) later
  arrive_all_held [] later s a n h =
      subst (λ list. Arrives s (record s { active = list; nonblocking = n ++ []; future = later }) later) (sym (append-nil a))
      (subst (λ list. Arrives s (record s { active = a; nonblocking = list; future = later }) later) (sym (append-nil n)) (record { keeps = h; same = refl }))
  arrive_all_held (x ∷ rest) later s a n h =
      let one = arrive_held s x a n rest later h in
      let all = arrive_all_held rest later (arrived x s) (a ++ filter is_process (x ∷ [])) (n ++ filter is_slot (x ∷ [])) one.keeps in
      subst (λ list. Arrives s (record (arrived_all rest (arrived x s)) { active = list; nonblocking = n ++ filter is_slot (x ∷ rest); future = later }) later)
      (filter_first is_process a x rest)
      (subst (λ list.
      Arrives s (record (arrived_all rest (arrived x s)) { active = (a ++ filter is_process (x ∷ [])) ++ filter is_process rest; nonblocking = list; future = later }) later)
      (filter_first is_slot n x rest) (record { keeps = all.keeps; same = all.same ∙ one.same }))
