use Rattle.vf_jobs.proofs.SubtreeLemmas.{shares}
use Rattle.vf_jobs.proofs.laws.runs_are_shared.Goals as goal

pub returns : goal.returns
returns g c = λ m. shares m (c.prefix_law.ensures m)
