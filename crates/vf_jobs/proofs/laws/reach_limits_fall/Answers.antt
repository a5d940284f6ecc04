use Rattle.vf_jobs.proofs.LimitLemmas.{limits_fall}
use Rattle.vf_jobs.proofs.laws.reach_limits_fall.Goals as goal

pub returns : goal.returns
returns c = limits_fall
