use Rattle.vf_journal.proofs.ReplayLemmas.{turns_add_up_lem}
use Rattle.vf_journal.proofs.laws.turns_add_up.Goals as goal

pub returns : goal.returns
returns g c = λ f. turns_add_up_lem f
