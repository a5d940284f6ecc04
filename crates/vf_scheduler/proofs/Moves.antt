-- What each move of one event makes of the events of a state.
use Rattle.std.proofs.Common.{◌≡◌, ℕ, ◌+◌, ◌^◌, ◌<◌, ◌≤◌, Bool, true, false, List, [], ◌∷◌, ◌++◌, map, Option, Some, None, refl, sym, ◌∙◌, ap, subst, arith, nat_lt, if◌then◌else◌}
use Rattle.std.proofs.lemmas.Bool.{ltb-true, ltb-false}
use Rattle.vf_scheduler.specs.State.{Item, of_process}
use Rattle.vf_scheduler.specs.Posting.{put_by_time}
use Rattle.vf_scheduler.specs.Sound.{times, names}
use Rattle.std.proofs.Math.Path.{fun_ext}
use Rattle.vf_scheduler.proofs.Marks.{own, times-append, Placed, placed_same, times_here, times_last, times_put, others_itself, others_first, others_last, others_put, Mark, Nowhere, Runs, InActive, InInactive, InFuture, IsDue, InStrobes, mark_time, runs, often, few, none_runs}
use Rattle.vf_scheduler.proofs.Queues.{Between, times_by, IsQueue, Changes, times_kept, placed_kept, runs_kept, runs_first}

-- the nonblocking updates become active
pub promoted : (m : Item → Mark) (time : ℕ) (running : Option ℕ) (n f t : List Item) → IsQueue m time running [] [] n f t → IsQueue m time running n [] [] f t
promoted m time running n f t q = record {
  placed = λ y. record { there = by (m y) _ _ _ (q.placed y).there (q.placed y).alone; alone = omega (arith, (q.placed y).alone) };
  running_is = q.running_is;
  timed = q.timed;
  early = q.early;
}
  where
    by : (k : Mark) (x y z : ℕ) → own k 0 0 x y z ≡ often k → 0 + (x + (y + (z + 0))) ≡ often k → own k x 0 0 y z ≡ often k
    by Nowhere x y z e all = refl
    by Runs x y z e all = refl
    by InActive x y z e all = absurd (omega (arith, e))
    by InInactive x y z e all = e
    by (InFuture at) x y z e all = e
    by IsDue x y z e all = omega (arith, e)
    by InStrobes x y z e all = e

module _ (m m' : Item → Mark) (time : ℕ) (a i n f t : List Item) where
  -- ---- an event leaves a list

  -- a process begins to run
  pub begins : (p : ℕ) → IsQueue m time None (of_process p ∷ a) i n f t → Changes m m' (of_process p) Runs → IsQueue m' time (Some p) a i n f t
  begins p q change =
      let x = of_process p in
      let before = q.placed x in
      let once = few (m x) in
      let here = times_here x a in
      record {
        placed =
            placed_kept m m' x Runs change (others_first x a) (others_itself x i) (others_itself x n) (others_itself x f) (others_itself x t) q.placed
            (record { there = refl; alone = omega (arith, before.alone, once, here) });
        running_is = runs_first m m' x Runs change p refl refl q.running_is;
        timed = subst (Between (time + 1)) (sym (times_kept m m' x Runs change f (omega (arith, before.alone, once, here)))) q.timed;
        early = q.early;
      }

  -- the first active event is taken, and stands nowhere
  pub taken : (running : Option ℕ) (x : Item) → IsQueue m time running (x ∷ a) i n f t → Changes m m' x Nowhere → IsQueue m' time running a i n f t
  taken running x q change =
      let before = q.placed x in
      let once = few (m x) in
      let here = times_here x a in
      record {
        placed =
            placed_kept m m' x Nowhere change (others_first x a) (others_itself x i) (others_itself x n) (others_itself x f) (others_itself x t) q.placed
            (record { there = refl; alone = omega (arith, before.alone, once, here) });
        running_is = runs_kept m m' x Nowhere change running (sym (none_runs (m x) (omega (arith, before.alone, here)))) q.running_is;
        timed = subst (Between (time + 1)) (sym (times_kept m m' x Nowhere change f (omega (arith, before.alone, once, here)))) q.timed;
        early = q.early;
      }

  -- the first strobe is taken, and stands nowhere
  pub printed : (running : Option ℕ) (x : Item) → IsQueue m time running a i n f (x ∷ t) → Changes m m' x Nowhere → IsQueue m' time running a i n f t
  printed running x q change =
      let before = q.placed x in
      let once = few (m x) in
      let here = times_here x t in
      record {
        placed =
            placed_kept m m' x Nowhere change (others_itself x a) (others_itself x i) (others_itself x n) (others_itself x f) (others_first x t) q.placed
            (record { there = refl; alone = omega (arith, before.alone, once, here) });
        running_is = runs_kept m m' x Nowhere change running (sym (none_runs (m x) (omega (arith, before.alone, here)))) q.running_is;
        timed = subst (Between (time + 1)) (sym (times_kept m m' x Nowhere change f (omega (arith, before.alone, once, here)))) q.timed;
        early = q.early;
      }

  -- ---- an event goes from one list to another

  -- the first inactive event becomes active
  pub activated : (running : Option ℕ) (x : Item) → IsQueue m time running a (x ∷ i) n f t → Changes m m' x InActive → IsQueue m' time running (a ++ x ∷ []) i n f t
  activated running x q change =
      let before = q.placed x in
      let once = few (m x) in
      let here = times_here x i in
      let last = times_last x a in
      record {
        placed =
            placed_kept m m' x InActive change (others_last x a) (others_first x i) (others_itself x n) (others_itself x f) (others_itself x t) q.placed
            (record { there = omega (arith, before.alone, once, here, last); alone = omega (arith, before.alone, once, here, last) });
        running_is = runs_kept m m' x InActive change running (sym (none_runs (m x) (omega (arith, before.alone, here)))) q.running_is;
        timed = subst (Between (time + 1)) (sym (times_kept m m' x InActive change f (omega (arith, before.alone, once, here)))) q.timed;
        early = q.early;
      }

  -- the rest of a list that rises
  rest_timed : (from at : ℕ) (rest : List ℕ) → Between from (at ∷ rest) → Between from rest
  rest_timed from at [] h = tt
  rest_timed from at (next ∷ rest) h = (omega (arith, h.0, h.2.0), h.2.1, h.2.2)

  arrives_timed : (x : Item) (k : Mark) → Changes m m' x k → times x f ≡ 0 → Between (time + 1) (times_by m (x ∷ f)) → Between (time + 1) (times_by m' f)
  arrives_timed x k change none h =
      subst (Between (time + 1)) (sym (times_kept m m' x k change f none)) (rest_timed (time + 1) (mark_time (m x)) (times_by m f) h)

  -- the first event of the future becomes active
  pub arrives_active : (running : Option ℕ) (x : Item) → IsQueue m time running a i n (x ∷ f) t → Changes m m' x InActive → IsQueue m' time running (a ++ x ∷ []) i n f t
  arrives_active running x q change =
      let before = q.placed x in
      let once = few (m x) in
      let here = times_here x f in
      let last = times_last x a in
      record {
        placed =
            placed_kept m m' x InActive change (others_last x a) (others_itself x i) (others_itself x n) (others_first x f) (others_itself x t) q.placed
            (record { there = omega (arith, before.alone, once, here, last); alone = omega (arith, before.alone, once, here, last) });
        running_is = runs_kept m m' x InActive change running (sym (none_runs (m x) (omega (arith, before.alone, here)))) q.running_is;
        timed = arrives_timed x InActive change (omega (arith, before.alone, once, here)) q.timed;
        early = q.early;
      }

  -- or a nonblocking update
  pub arrives_due : (running : Option ℕ) (x : Item) → IsQueue m time running a i n (x ∷ f) t → Changes m m' x IsDue → IsQueue m' time running a i (n ++ x ∷ []) f t
  arrives_due running x q change =
      let before = q.placed x in
      let once = few (m x) in
      let here = times_here x f in
      let last = times_last x n in
      record {
        placed =
            placed_kept m m' x IsDue change (others_itself x a) (others_itself x i) (others_last x n) (others_first x f) (others_itself x t) q.placed
            (record { there = omega (arith, before.alone, once, here, last); alone = omega (arith, before.alone, once, here, last) });
        running_is = runs_kept m m' x IsDue change running (sym (none_runs (m x) (omega (arith, before.alone, here)))) q.running_is;
        timed = arrives_timed x IsDue change (omega (arith, before.alone, once, here)) q.timed;
        early = q.early;
      }

  -- ---- an event that stands in no list

  module _ (running running' : Option ℕ) (x : Item) (none : often (m x) ≡ 0) (q : IsQueue m time running a i n f t) where
    abbrev RunningIs : Type 0
    RunningIs = (p : ℕ) → runs (m' (of_process p)) ≡ names running' p

    still_timed : (k : Mark) → Changes m m' x k → Between (time + 1) (times_by m' f)
    still_timed k change = subst (Between (time + 1)) (sym (times_kept m m' x k change f (omega (arith, (q.placed x).alone, none)))) q.timed

    -- it stays in none
    pub stays : (k : Mark) → often k ≡ 0 → own k 0 0 0 0 0 ≡ 0 → Changes m m' x k → RunningIs → IsQueue m' time running' a i n f t
    stays k no_list no_region change run =
        let before = (q.placed x).alone in
        let ea : times x a ≡ 0 = omega (arith, before, none) in
        let ei : times x i ≡ 0 = omega (arith, before, none) in
        let en : times x n ≡ 0 = omega (arith, before, none) in
        let ef : times x f ≡ 0 = omega (arith, before, none) in
        let et : times x t ≡ 0 = omega (arith, before, none) in
        record {
          placed =
              placed_kept m m' x k change (others_itself x a) (others_itself x i) (others_itself x n) (others_itself x f) (others_itself x t) q.placed
              (record { there = (λ j. own k (ea j) (ei j) (en j) (ef j) (et j)) ∙ no_region ∙ sym no_list; alone = omega (arith, before, none, no_list) });
          running_is = run;
          timed = still_timed k change;
          early = q.early;
        }

    pub joins_inactive : Changes m m' x InInactive → RunningIs → IsQueue m' time running' a (i ++ x ∷ []) n f t
    joins_inactive change run =
        let before = (q.placed x).alone in
        let last = times_last x i in
        record {
          placed =
              placed_kept m m' x InInactive change (others_itself x a) (others_last x i) (others_itself x n) (others_itself x f) (others_itself x t) q.placed
              (record { there = omega (arith, before, none, last); alone = omega (arith, before, none, last) });
          running_is = run;
          timed = still_timed InInactive change;
          early = q.early;
        }

    pub joins_nonblocking : Changes m m' x IsDue → RunningIs → IsQueue m' time running' a i (n ++ x ∷ []) f t
    joins_nonblocking change run =
        let before = (q.placed x).alone in
        let last = times_last x n in
        record {
          placed =
              placed_kept m m' x IsDue change (others_itself x a) (others_itself x i) (others_last x n) (others_itself x f) (others_itself x t) q.placed
              (record { there = omega (arith, before, none, last); alone = omega (arith, before, none, last) });
          running_is = run;
          timed = still_timed IsDue change;
          early = q.early;
        }

    pub joins_strobes : Changes m m' x InStrobes → RunningIs → IsQueue m' time running' a i n f (t ++ x ∷ [])
    joins_strobes change run =
        let before = (q.placed x).alone in
        let last = times_last x t in
        record {
          placed =
              placed_kept m m' x InStrobes change (others_itself x a) (others_itself x i) (others_itself x n) (others_itself x f) (others_last x t) q.placed
              (record { there = omega (arith, before, none, last); alone = omega (arith, before, none, last) });
          running_is = run;
          timed = still_timed InStrobes change;
          early = q.early;
        }

-- ---- the future

put_timed : (g : Item → ℕ) (from at : ℕ) (x : Item) (f : List Item) → g x ≡ at → from ≤ at → at < 2 ^ 64 → Between from (map g f) → Between from (map g (put_by_time g at x f))
put_timed g from at x [] e low high h = (omega (arith, e, low), omega (arith, e, high), tt)
put_timed g from at x (first ∷ rest) e low high h =
    by (nat_lt at (g first)) refl (λ before. put_timed g (g first) at x rest e (ltb-false at (g first) before) high h.2)
  where
    by : (b : Bool) → nat_lt at (g first) ≡ b → (nat_lt at (g first) ≡ false → Between (g first) (map g (put_by_time g at x rest)))
        → Between from (map g (if b then x ∷ first ∷ rest else first ∷ put_by_time g at x rest))
    by true is after = (omega (arith, e, low), omega (arith, e, high), (omega (arith, e, ltb-true at (g first) is), h.1, h.2))
    by false is after = (h.0, h.1, after is)

-- an event joins the future
pub joins_future : (m m' : Item → Mark) (time : ℕ) (a i n f t : List Item) (running running' : Option ℕ) (x : Item) (at : ℕ) → often (m x) ≡ 0
    → IsQueue m time running a i n f t → Changes m m' x (InFuture at) → ((p : ℕ) → runs (m' (of_process p)) ≡ names running' p)
    → time < at → at < 2 ^ 64 → IsQueue m' time running' a i n (put_by_time (λ y. mark_time (m' y)) at x f) t
joins_future m m' time a i n f t running running' x at none q change run low high =
    let before = (q.placed x).alone in
    let g : Item → ℕ = λ y. mark_time (m' y) in
    let put = times_put g at x f in
    record {
      placed =
          placed_kept m m' x (InFuture at) change (others_itself x a) (others_itself x i) (others_itself x n) (others_put g at x f) (others_itself x t) q.placed
          (record { there = omega (arith, before, none, put); alone = omega (arith, before, none, put) });
      running_is = run;
      timed =
          put_timed g (time + 1) at x f (ap mark_time change.here) (omega (arith, low)) high
          (subst (Between (time + 1)) (sym (times_kept m m' x (InFuture at) change f (omega (arith, before, none)))) q.timed);
      early = q.early;
    }

-- time goes on
pub goes_on : (m : Item → Mark) (time at : ℕ) (running : Option ℕ) (a i n f t : List Item) → IsQueue m time running a i n f t → at < 2 ^ 64
    → Between (at + 1) (times_by m f) → IsQueue m at running a i n f t
goes_on m time at running a i n f t q high later = record { placed = q.placed; running_is = q.running_is; timed = later; early = high }

-- ---- processes that wait become active

-- an event that wakes stands once among the new ones, and any other not at all
pub data Wakes (count : ℕ) (old new : Mark) : Type 0 where
  wakes : count ≡ 1 → old ≡ Nowhere → new ≡ InActive → Wakes count old new
  sleeps : count ≡ 0 → new ≡ old → Wakes count old new

pub wake_up : (m m' : Item → Mark) (time : ℕ) (running : Option ℕ) (a i n f t woken : List Item) → IsQueue m time running a i n f t
    → ((x : Item) → Wakes (times x woken) (m x) (m' x)) → IsQueue m' time running (a ++ woken) i n f t
wake_up m m' time running a i n f t woken q each = record {
  placed = λ x. place x (each x) (q.placed x);
  running_is = λ p. same_runs (of_process p) (each (of_process p)) ∙ q.running_is p;
  timed = subst (λ g. Between (time + 1) (map g f)) (sym (fun_ext (λ x. same_time x (each x)))) q.timed;
  early = q.early;
}
  where
    same_time : (x : Item) → Wakes (times x woken) (m x) (m' x) → mark_time (m' x) ≡ mark_time (m x)
    same_time x (wakes once old new) = ap mark_time new ∙ sym (ap mark_time old)
    same_time x (sleeps none same) = ap mark_time same

    same_runs : (x : Item) → Wakes (times x woken) (m x) (m' x) → runs (m' x) ≡ runs (m x)
    same_runs x (wakes once old new) = ap runs new ∙ sym (ap runs old)
    same_runs x (sleeps none same) = ap runs same

    place : (x : Item) → Wakes (times x woken) (m x) (m' x) → Placed (m x) (times x a) (times x i) (times x n) (times x f) (times x t)
        → Placed (m' x) (times x (a ++ woken)) (times x i) (times x n) (times x f) (times x t)
    place x (wakes once old new) h =
        let all = times-append x a woken in
        let none : often (m x) ≡ 0 = ap often old in
        placed_same InActive (m' x) _ _ _ _ _ new (record { there = omega (arith, all, once, none, h.alone); alone = omega (arith, all, once, none, h.alone) })
    place x (sleeps none same) h =
        placed_same (m x) (m' x) _ _ _ _ _ same (subst (λ k. Placed (m x) k (times x i) (times x n) (times x f) (times x t)) (sym (times-append x a woken ∙ omega (arith, none))) h)
