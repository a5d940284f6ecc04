use Rattle.vf_jobs.proofs.CopyLemmas.{endings_copied}
use Rattle.vf_jobs.proofs.laws.endings_are_copied.Goals as goal

pub returns : goal.returns
returns g c = λ m. endings_copied m
