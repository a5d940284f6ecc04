use Rattle.std.proofs.Common.{sym, subst}
use Rattle.vf_jobs.specs.Setup.{IsInRange}
use Rattle.vf_jobs.proofs.LimitLemmas.{limits_range}
use Rattle.vf_jobs.proofs.setup.limits_of.Goals as goal

pub returns-clause-range : goal.returns-clause-range
returns-clause-range c =
    let setup = c.args.setup.now in
    let kept = c.found_limits.ensures.kept in
    subst IsInRange (sym c.found_limits.ensures.limits) (limits_range setup.limits setup.plan kept.plan kept.limits c.args.job)
