-- Where a simulator stands, as its run and the book say it (docs/FARM.md, "Simulators and images").
use Rattle.std.specs.Prelude.{◌≡◌, ℕ, suc, ◌<◌, true, false, None}
use Rattle.vf_base.specs.declared.names.Job.TheVariants.{Reach}
use Rattle.vf_base.specs.declared.names.NodeNo.{NodeNo}
use Rattle.vf_base.specs.declared.run.Ending.{Ending}
use Rattle.vf_machine.specs.declared.mark.Mark.TheVariants.{Ended}
use Rattle.vf_machine.specs.Run.{is_ending}
use Rattle.vf_design.specs.Words.{machine_of}
use Rattle.vf_jobs.specs.Kinds.{save_at, is_passed}
use Rattle.vf_image.specs.Runs.{stimulus_of, limits_for, turn_in, touched_in, IsSavedAt, GoesPast}
use Rattle.vf_image.specs.Simulators.{Simulator}

-- its job reaches a node, and it is at the node's save point
pub record IsAtSave (s : Simulator) (node : NodeNo) : Type 0 where
  pub job : s.job ≡ Reach node
  pub saved : IsSavedAt s.setup node s.header.turns

-- its job reaches a node, it is at no save point, and the next turn would read past the node's stimulus
pub record IsPassing (s : Simulator) (node : NodeNo) : Type 0 where
  pub job : s.job ≡ Reach node
  pub unsaved : save_at (machine_of s.setup.design) (stimulus_of s.setup s.job) (limits_for s.setup s.job) s.header.turns ≡ None
  pub passes : is_passed (machine_of s.setup.design) (stimulus_of s.setup s.job) (limits_for s.setup s.job) s.header.turns ≡ true

-- the next turn ends the run, with so many turns counted, the ending turn with them where it counts
pub record IsEnding (s : Simulator) (ending : Ending) (turns : ℕ) : Type 0 where
  pub past : GoesPast s.setup s.job s.header.turns
  pub ends : (turn_in s.setup s.job s.header.turns).mark ≡ Ended ending
  pub counts : turns ≡ (turn_in s.setup s.job s.header.turns).after.header.turns

-- the next turn goes on, and with it the run would have touched so many pages
pub record Needs (s : Simulator) (k : ℕ) : Type 0 where
  pub past : GoesPast s.setup s.job s.header.turns
  pub goes_on : is_ending (turn_in s.setup s.job s.header.turns).mark ≡ false
  pub pages : k ≡ touched_in s.setup s.job (suc s.header.turns)

-- and these are more than the budget
pub record IsOver (s : Simulator) (k : ℕ) : Type 0 where
  pub needs : Needs s k
  pub beyond : s.setup.budget < k
