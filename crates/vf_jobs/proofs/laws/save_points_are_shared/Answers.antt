use Rattle.vf_jobs.proofs.SaveLemmas.{shares_save_point}
use Rattle.vf_jobs.proofs.laws.save_points_are_shared.Goals as goal

pub returns : goal.returns
returns g c = λ m. shares_save_point m (c.prefix_law.ensures m) (c.run_ends.ensures m)
