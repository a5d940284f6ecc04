use Rattle.vf_jobs.proofs.CopyLemmas.{passings_copied}
use Rattle.vf_jobs.proofs.laws.passings_are_copied.Goals as goal

pub returns : goal.returns
returns g c = λ m. passings_copied m
