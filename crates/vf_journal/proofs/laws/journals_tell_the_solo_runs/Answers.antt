use Rattle.vf_journal.proofs.JournalLemmas.{tells_solo}
use Rattle.vf_journal.proofs.laws.journals_tell_the_solo_runs.Goals as goal

pub returns : goal.returns
returns g c = λ f. tells_solo f (c.endings_are_copied.ensures f.machine) (c.passings_are_copied.ensures f.machine)
