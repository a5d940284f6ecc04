use Rattle.vf_design.proofs.ReadLemmas.{reads_on}
use Rattle.vf_design.proofs.laws.reads_go_on.Goals as goal

pub returns : goal.returns
returns c = reads_on
