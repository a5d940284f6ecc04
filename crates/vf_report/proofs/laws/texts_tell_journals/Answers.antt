use Rattle.vf_report.proofs.JournalLemmas.{journals_told}
use Rattle.vf_report.proofs.laws.texts_tell_journals.Goals as goal

pub returns : goal.returns
returns c = journals_told
