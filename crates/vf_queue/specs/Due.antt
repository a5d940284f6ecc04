-- The update that a slot holds, in words.
use Rattle.std.specs.Prelude.{◌≡◌, ℕ, ◌+◌, ◌*◌, ◌^◌, Bool, List, ◌∷◌, slice_index, if◌then◌else◌}
use Rattle.vf_base.specs.declared.write.Write.{Write}
use Rattle.vf_elaborated.specs.Elaborated.{Elaborated}
use Rattle.vf_elaborated.specs.Addresses.{slot_at, has_wide}
use Rattle.vf_scheduler.specs.State.{State, Update, Item, of_slot}
use Rattle.vf_scheduler.specs.Sound.{IsSound, IsUpdate}
use Rattle.vf_scheduler.specs.Words.{update_words}
use Rattle.vf_layout.specs.Puts.{StandsAt}
use Rattle.vf_queue.specs.Holding.{Holds}

-- a plane of a value: one word, or two
abbrev pub plane_in : Bool → List ℕ → ℕ → ℕ
plane_in wide words at = if wide then slice_index words at + 2 ^ 64 * slice_index words (at + 2) else slice_index words at

-- an update stands in a slot, after kind, link and time
abbrev pub UpdateStands : Elaborated → List ℕ → ℕ → Update → Type 0
UpdateStands d words q u = StandsAt words (slot_at d q + 3) (update_words (has_wide d) u)

pub record HoldsUpdate (d : Elaborated) (words : List ℕ) (q : ℕ) : Type 0 where
  pub update : Update
  pub fits : IsUpdate d update
  pub stands : UpdateStands d words q update

-- a slot was the first active event, and has left the active region
pub record IsTaken (d : Elaborated) (base : List ℕ) (patch : List Write) (q : ℕ) : Type 0 where
  pub state : State
  pub sound : IsSound d state
  pub rest : List Item
  pub active : state.active ≡ of_slot q ∷ rest
  pub holds : Holds d base patch (record state { active = rest })

-- a strobe is the first of its list
pub record HasStrobe (d : Elaborated) (base : List ℕ) (patch : List Write) : Type 0 where
  pub state : State
  pub sound : IsSound d state
  pub holds : Holds d base patch state
  pub first : Item
  pub rest : List Item
  pub strobes : state.strobes ≡ first ∷ rest
