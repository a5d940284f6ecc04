-- How a Setup shows itself.
use Rattle.std.specs.Prelude.{length}
use Rattle.std.specs.Arc.{arc_value}
use Rattle.vf_jobs.specs.declared.setup.Setup.TheInside.{Inside}
use Rattle.vf_jobs.specs.Setup.{Conditions, IsSetup}
use Rattle.vf_jobs.specs.Tables.{AreLimits}

abbrev pub conditions_of : Inside → Conditions
conditions_of s = record { design = s.design; plan = s.plan; limits = s.limits; budget = s.budget; order = s.order; zero = (arc_value s.zero).items }

-- the table of limits is that of the plan
pub record IsKept (s : Inside) : Type 0 where
  pub setup : IsSetup (conditions_of s)
  pub reach : AreLimits s.limits s.plan (length s.plan) s.reach.items
