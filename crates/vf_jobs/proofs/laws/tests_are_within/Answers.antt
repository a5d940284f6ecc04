use Rattle.vf_jobs.proofs.LimitLemmas.{tests_within}
use Rattle.vf_jobs.proofs.laws.tests_are_within.Goals as goal

pub returns : goal.returns
returns c = tests_within
