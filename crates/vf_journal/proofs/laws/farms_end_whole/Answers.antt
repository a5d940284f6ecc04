use Rattle.vf_journal.proofs.WholeLemmas.{ends_whole}
use Rattle.vf_journal.proofs.laws.farms_end_whole.Goals as goal

pub returns : goal.returns
returns g c = λ f. ends_whole f (c.endings_are_copied.ensures f.machine) (c.passings_are_copied.ensures f.machine)
