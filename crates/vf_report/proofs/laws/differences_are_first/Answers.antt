use Rattle.vf_report.proofs.DifferenceLemmas.{difference_is_first}
use Rattle.vf_report.proofs.laws.differences_are_first.Goals as goal

pub returns : goal.returns
returns c = difference_is_first
