use Rattle.vf_journal.proofs.FarmLemmas.{core}
use Rattle.vf_journal.proofs.laws.core_law.Goals as goal

pub returns : goal.returns
returns g c = λ f.
    core f (λ stim limits k ends. (c.ending_is_still.ensures f.machine stim limits k ends).state) (c.endings_are_copied.ensures f.machine)
    (c.passings_are_copied.ensures f.machine)
