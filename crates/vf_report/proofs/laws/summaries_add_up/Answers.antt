use Rattle.vf_report.proofs.SummaryLemmas.{adds_up}
use Rattle.vf_report.proofs.laws.summaries_add_up.Goals as goal

pub returns : goal.returns
returns c = adds_up
