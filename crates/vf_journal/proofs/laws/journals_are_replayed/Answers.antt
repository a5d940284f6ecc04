use Rattle.vf_journal.proofs.ReplayLemmas.{is_replayed}
use Rattle.vf_journal.proofs.laws.journals_are_replayed.Goals as goal

pub returns : goal.returns
returns g c = λ f. is_replayed f
