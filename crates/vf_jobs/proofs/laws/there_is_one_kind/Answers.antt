use Rattle.vf_jobs.proofs.KindLemmas.{one_kind}
use Rattle.vf_jobs.proofs.laws.there_is_one_kind.Goals as goal

pub returns : goal.returns
returns g c = λ m. one_kind m
