-- A turn keeps a state sound.
use Rattle.std.proofs.Common.{◌≡◌, ℕ, ◌+◌, ◌<◌, ◌≤◌, Bool, true, false, cond, not, List, [], ◌∷◌, ◌++◌, map, filter, Option, Some, None, refl, sym, ◌∙◌, ap, subst, arith, ◌==◌, ⊎_elim}
use Rattle.std.proofs.lemmas.Bool.{false≢true, eqb-false, ne_eqb, cases_lt}
use Rattle.vf_fours.specs.declared.Bit.{Bit}
use Rattle.vf_machine.specs.Machine.{Move, go, stop, Sight}
use Rattle.vf_machine.proofs.CallerLemmas.{KeptBy}
use Rattle.vf_elaborated.specs.Elaborated.{Elaborated}
use Rattle.vf_elaborated.specs.Values.{Elements}
use Rattle.vf_elaborated.specs.WellFormed.{IsWellFormed}
use Rattle.vf_scheduler.specs.State.{State, Thread, Slot, Item, of_process, of_slot, thread_of}
use Rattle.vf_scheduler.specs.Posting.{time_of}
use Rattle.vf_scheduler.specs.Turning.{next_turn, turn_by, turn_of, advanced}
use Rattle.vf_scheduler.specs.Laws.{LeadsToSound, StepIsSound}
use Rattle.vf_scheduler.proofs.Queues.{Between}
use Rattle.vf_scheduler.proofs.Moves.{promoted, goes_on}
use Rattle.vf_scheduler.proofs.Held.{mark_in, Held, held, sound, time_is}
use Rattle.vf_scheduler.proofs.Performed.{performed_held}
use Rattle.vf_scheduler.proofs.Regions.{take_held, activate_all_held, strobe_printed, no_process_printed, arrive_all_held}

-- ---- the events of the first time stand first

module _ (g : Item → ℕ) (at : ℕ) where
  abbrev coming : List Item → List Item
  coming f = filter (λ x. g x == at) f

  abbrev staying : List Item → List Item
  staying f = filter (λ x. not (g x == at)) f

  pub record Split (f : List Item) : Type 0 where
    pub whole : coming f ++ staying f ≡ f
    pub later : Between (at + 1) (map g (staying f))

  -- all are later
  pub record Later (f : List Item) : Type 0 where
    pub none : coming f ≡ []
    pub all : staying f ≡ f

  pub all_later : (from : ℕ) (f : List Item) → at < from → Between from (map g f) → Later f
  all_later from [] low h = record { none = refl; all = refl }
  all_later from (x ∷ rest) low h =
      let other = ne_eqb (g x) at (λ e. omega (arith, e, low, h.0)) in
      let after = all_later (g x) rest (omega (arith, low, h.0)) h.2 in
      record {
        none = ap (λ b. cond b (x ∷ coming rest) (coming rest)) other ∙ after.none;
        all = ap (λ b. cond (not b) (x ∷ staying rest) (staying rest)) other ∙ ap (λ list. x ∷ list) after.all;
      }

  pub split : (from : ℕ) (f : List Item) → at ≤ from → Between from (map g f) → Split f
  split from [] low h = record { whole = refl; later = tt }
  split from (x ∷ rest) low h = by (g x == at) refl (split (g x) rest (omega (arith, low, h.0)) h.2)
    where
      by : (b : Bool) → (g x == at) ≡ b → Split rest → Split (x ∷ rest)
      by true e after =
          record {
            whole =
                ap (λ b. cond b (x ∷ coming rest) (coming rest) ++ cond (not b) (x ∷ staying rest) (staying rest)) e ∙ ap (λ list. x ∷ list) after.whole;
            later = subst (λ b. Between (at + 1) (map g (cond (not b) (x ∷ staying rest) (staying rest)))) (sym e) after.later;
          }
      by false e after =
          let above : at < g x = below (eqb-false (g x) at e) in
          let rests = all_later (g x) rest above h.2 in
          record {
            whole =
                ap (λ b. cond b (x ∷ coming rest) (coming rest) ++ cond (not b) (x ∷ staying rest) (staying rest)) e
                ∙ (λ j. rests.none j ++ x ∷ rests.all j);
            later =
                subst (λ b. Between (at + 1) (map g (cond (not b) (x ∷ staying rest) (staying rest)))) (sym e)
                (subst (λ list. Between (at + 1) (map g (x ∷ list))) (sym rests.all) (omega (arith, above), h.1, h.2));
          }
        where
          below : (g x ≡ at → ⊥) → at < g x
          below other = ⊎_elim (λ lt. lt) (λ ge. absurd (other (omega (arith, ge, low, h.0)))) (cases_lt at (g x))

-- time goes on
advanced_held : (d : Elaborated) (s : State) (x : Item) (rest : List Item) → s.future ≡ x ∷ rest → Held d (record s { active = []; nonblocking = [] })
    → Held d (advanced (time_of s x) s)
advanced_held d s x rest e h =
    let at = time_of s x in
    let g = time_of s in
    let timed : Between (s.time + 1) (map g (x ∷ rest)) =
    subst (λ list. Between (s.time + 1) (map g list)) e (subst (λ f. Between (s.time + 1) (map f s.future)) (sym (time_is s)) h.queue.timed) in
    let rises : Between at (map g s.future) = subst (λ list. Between at (map g list)) (sym e) (omega arith, timed.1, timed.2) in
    let parts = split g at at s.future (omega arith) rises in
    let all =
    arrive_all_held d (coming g at s.future) (staying g at s.future) s [] []
    (subst (λ list. Held d (record s { active = []; nonblocking = []; future = list })) (sym parts.whole) h) in
    record {
      shapes = all.keeps.shapes;
      queue =
          goes_on _ _ at _ _ _ _ _ _ all.keeps.queue timed.1
          (subst (Between (at + 1)) (sym all.same) (subst (λ f. Between (at + 1) (map f (staying g at s.future))) (time_is s) parts.later));
    }

-- ---- the turn

module _ (d : Elaborated) (wf : IsWellFormed d) (sight : Sight) (time : ℕ) (running monitor : Option ℕ) (threads : List Thread) (values : List Elements)
    (drivers : List (List Bit)) (slots : List Slot) (none : running ≡ None) where
  abbrev state : (a i n t : List Item) → Bool → List Item → State
  state a i n t due f = record {
    time = time;
    running = running;
    active = a;
    inactive = i;
    nonblocking = n;
    future = f;
    strobes = t;
    monitor = monitor;
    due = due;
    threads = threads;
    values = values;
    drivers = drivers;
    slots = slots;
  }

  next_held : (a i n t : List Item) (due : Bool) (f : List Item) → Held d (state a i n t due f)
      → KeptBy (Held d) (next_turn d sight (state a i n t due f) a i n t due f)
  next_held (x ∷ rest) i n t due f h = take_held d wf (state (x ∷ rest) i n t due f) x rest none h
  next_held [] (x ∷ rest) n t due f h = activate_all_held d (x ∷ rest) (state [] (x ∷ rest) n t due f) [] h
  next_held [] [] (x ∷ rest) t due f h = record { shapes = h.shapes; queue = promoted (mark_in threads slots) time running (x ∷ rest) f t h.queue }
  next_held [] [] [] (of_slot q ∷ rest) due f h = strobe_printed d (state [] [] [] (of_slot q ∷ rest) due f) q rest h
  next_held [] [] [] (of_process p ∷ rest) due f h = absurd (no_process_printed d (state [] [] [] (of_process p ∷ rest) due f) p rest h)
  next_held [] [] [] [] true f h = record {
    shapes = record {
      places = h.shapes.places;
      fits = h.shapes.fits;
      widths = h.shapes.widths;
      slot_count = h.shapes.slot_count;
      holds = h.shapes.holds;
      shows = h.shapes.shows;
      is_due = λ due. absurd (false≢true due);
    };
    queue = h.queue;
  }
  next_held [] [] [] [] false (x ∷ rest) h = advanced_held d (state [] [] [] [] false (x ∷ rest)) x rest refl h
  next_held [] [] [] [] false [] h = tt

pub turn_held : (d : Elaborated) → IsWellFormed d → (sight : Sight) (s : State) → Held d s → KeptBy (Held d) (turn_of d sight s)
unfolding turn_of
turn_held d wf sight s h = by s.running refl
  where
    by : (running : Option ℕ) → s.running ≡ running → KeptBy (Held d) (turn_by d sight s running)
    by (Some p) e = performed_held d wf sight p (thread_of s p).place s h e
    by None e =
        next_held d wf sight s.time s.running s.monitor s.threads s.values s.drivers s.slots e s.active s.inactive s.nonblocking s.strobes s.due s.future h

leads : (d : Elaborated) (move : Move State) → KeptBy (Held d) move → LeadsToSound d move
leads d (go next text save) h = sound d next h
leads d (stop ending) h = tt

pub step_sound : StepIsSound
step_sound d s sight wf h = leads d (turn_of d sight s) (turn_held d wf sight s (held d s h))
