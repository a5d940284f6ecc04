use Rattle.vf_elaborated.proofs.NodeLemmas.{nodes_tell}
use Rattle.vf_elaborated.proofs.laws.nodes_tell.Goals as goal

pub returns : goal.returns
returns c = nodes_tell
