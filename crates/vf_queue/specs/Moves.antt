-- What an operation that may end the run comes to.
use Rattle.std.specs.Prelude.{◌≡◌, ℕ, true, List, [], ◌∷◌, Option, Some, None}
use Rattle.vf_base.specs.declared.run.Ending.{Ending}
use Rattle.vf_base.specs.declared.write.Write.{Write}
use Rattle.vf_machine.specs.Machine.{Move, go, stop}
use Rattle.vf_elaborated.specs.Elaborated.{Elaborated}
use Rattle.vf_scheduler.specs.State.{State, Item, thread_of}
use Rattle.vf_scheduler.specs.Updating.{is_waiting}
use Rattle.vf_queue.specs.Holding.{Holds, IsUnderway}

-- it ends the run; or it goes on without a text, and the patch holds the state
abbrev pub IsMove : Elaborated → List ℕ → List Write → Move State → Option Ending → Type 0
IsMove d base patch move (Some ending) = move ≡ stop ending
IsMove d base patch move None = (next : State) × (move ≡ go next [] None) × Holds d base patch next

-- a process runs
pub record IsRunning (d : Elaborated) (base : List ℕ) (patch : List Write) (p : ℕ) : Type 0 where
  pub underway : IsUnderway d base patch
  pub running : underway.state.running ≡ Some p

-- an event is active
pub record HasActive (d : Elaborated) (base : List ℕ) (patch : List Write) : Type 0 where
  pub underway : IsUnderway d base patch
  pub first : Item
  pub rest : List Item
  pub active : underway.state.active ≡ first ∷ rest

-- a process waits
pub record CanWake (d : Elaborated) (base : List ℕ) (patch : List Write) (p : ℕ) : Type 0 where
  pub underway : IsUnderway d base patch
  pub waits : is_waiting (thread_of underway.state p).status ≡ true
