-- A turn under way: the words of a state, and a patch over them, hold a state.
use Rattle.std.specs.Prelude.{◌≡◌, ℕ, List, length}
use Rattle.vf_base.specs.declared.write.Write.{Write}
use Rattle.vf_machine.specs.Writes.{AllInside, written}
use Rattle.vf_elaborated.specs.Elaborated.{Elaborated}
use Rattle.vf_scheduler.specs.State.{State}
use Rattle.vf_scheduler.specs.Sound.{IsSound}
use Rattle.vf_scheduler.specs.Words.{words_of}

-- the words under the patch are those of a state
pub record Holds (d : Elaborated) (base : List ℕ) (patch : List Write) (s : State) : Type 0 where
  pub words : written base patch ≡ words_of d s
  pub inside : AllInside (length base) patch

-- they are those of a sound state
pub record IsUnderway (d : Elaborated) (base : List ℕ) (patch : List Write) : Type 0 where
  pub state : State
  pub sound : IsSound d state
  pub holds : Holds d base patch state
