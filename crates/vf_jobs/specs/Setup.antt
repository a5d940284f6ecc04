-- What a farm's runs are given.
use Rattle.std.specs.Prelude.{◌≡◌, ℕ, ◌≤◌, List}
use Rattle.vf_base.specs.declared.run.Limits.{Limits}
use Rattle.vf_design.specs.Program.{Program, IsWellFormed}
use Rattle.vf_design.specs.Words.{machine_of}
use Rattle.vf_machine.specs.Machine.{Machine}
use Rattle.vf_plan.specs.declared.limits.TheConstants.{MOST_TURNS, MOST_OUTPUT}
use Rattle.vf_plan.specs.declared.plan.Node.{Node}
use Rattle.vf_jobs.specs.declared.setup.TheConstants.{MOST_BUDGET}
use Rattle.vf_jobs.specs.declared.setup.Order.{Order}
use Rattle.vf_plan.specs.Rules.{IsPlan}

-- the words of a machine's state at time zero
abbrev pub words_at_start : {S : Type 0} → Machine S → List ℕ
words_at_start m = m.words m.start

pub record Conditions : Type 0 where
  pub design : Program
  pub plan : List Node
  pub limits : Limits
  pub budget : ℕ
  pub order : Order
  pub zero : List ℕ

pub record IsInRange (limits : Limits) : Type 0 where
  pub turns : (1 ≤ limits.turns) × (limits.turns ≤ MOST_TURNS)
  pub output : limits.output ≤ MOST_OUTPUT

-- the design is well formed, the plan keeps its rules, `zero` is the words at time zero, and limits and budget are in their ranges
pub record IsSetup (s : Conditions) : Type 0 where
  pub formed : IsWellFormed s.design
  pub plan : IsPlan s.plan
  pub zero : s.zero ≡ words_at_start (machine_of s.design)
  pub limits : IsInRange s.limits
  pub budget : (1 ≤ s.budget) × (s.budget ≤ MOST_BUDGET)
