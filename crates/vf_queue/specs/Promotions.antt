-- Events of the inactive region, and of a time that comes, become active one after the other.
use Rattle.std.specs.Prelude.{◌≡◌, ℕ, ◌==◌, not, List, [], ◌∷◌, ◌++◌, map, filter}
use Rattle.vf_base.specs.declared.write.Write.{Write}
use Rattle.vf_elaborated.specs.Elaborated.{Elaborated}
use Rattle.vf_scheduler.specs.State.{State, Update, Later, Item, of_process, of_slot}
use Rattle.vf_scheduler.specs.Posting.{put_slot, time_of}
use Rattle.vf_scheduler.specs.Turning.{activated, activated_all, is_now, arrived_all, is_process, is_slot}
use Rattle.vf_scheduler.specs.Sound.{IsSound, Rises, slot_of}
use Rattle.vf_layout.specs.Laws.{IsWritten}
use Rattle.vf_queue.specs.Holding.{Holds}

-- an inactive event that is the first becomes the last active one
abbrev pub promoted : Item → List Item → State → State
promoted item rest s = record (activated item s) { active = s.active ++ item ∷ []; inactive = rest }

-- all of them do
abbrev pub promoted_all : State → State
promoted_all s = record (activated_all s.inactive s) { active = s.active ++ s.inactive; inactive = [] }

-- the first event of the future comes: a process becomes active, and an update joins the nonblocking ones
abbrev pub joined_by : Item → State → State
joined_by (of_process p) s = record (activated (of_process p) s) { active = s.active ++ of_process p ∷ [] }
joined_by (of_slot q) s = record (put_slot q (is_now (slot_of s q)) s) { nonblocking = s.nonblocking ++ of_slot q ∷ [] }

abbrev pub came : Item → List Item → State → State
came item rest s = record (joined_by item s) { future = rest }

-- all of a time do
abbrev pub coming : ℕ → State → List Item
coming at s = filter (λ item. time_of s item == at) s.future

abbrev pub came_all : ℕ → State → State
came_all at s = record (arrived_all (coming at s) s) {
  active = s.active ++ filter is_process (coming at s);
  nonblocking = s.nonblocking ++ filter is_slot (coming at s);
  future = filter (λ item. not (time_of s item == at)) s.future;
}

-- a state, in the middle of an operation, that an event may join
pub record CanJoin (d : Elaborated) (base : List ℕ) (patch : List Write) : Type 0 where
  pub state : State
  pub stands : IsWritten d state
  pub holds : Holds d base patch state

-- an event is inactive, and is the first
pub record HasInactive (d : Elaborated) (base : List ℕ) (patch : List Write) : Type 0 where
  pub state : State
  pub sound : IsSound d state
  pub holds : Holds d base patch state
  pub first : Item
  pub rest : List Item
  pub inactive : state.inactive ≡ first ∷ rest

-- an event of the future is the first
pub record HasFuture (d : Elaborated) (base : List ℕ) (patch : List Write) : Type 0 where
  pub state : State
  pub sound : IsSound d state
  pub holds : Holds d base patch state
  pub first : Item
  pub rest : List Item
  pub future : state.future ≡ first ∷ rest

-- a slot holds an update of a time to come
pub record HasLater (d : Elaborated) (base : List ℕ) (patch : List Write) (q : ℕ) : Type 0 where
  pub joins : CanJoin d base patch
  pub at : ℕ
  pub update : Update
  pub later : slot_of joins.state q ≡ Later at update

-- no event of the future comes before a time
pub record ComesNext (d : Elaborated) (base : List ℕ) (patch : List Write) (at : ℕ) : Type 0 where
  pub state : State
  pub sound : IsSound d state
  pub holds : Holds d base patch state
  pub rises : Rises at (map (time_of state) state.future)
