use Rattle.vf_scheduler.proofs.ReadLemmas.{reads_on}
use Rattle.vf_scheduler.proofs.laws.reads_go_on.Goals as goal

pub returns : goal.returns
returns c = reads_on
