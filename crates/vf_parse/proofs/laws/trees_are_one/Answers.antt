use Rattle.vf_parse.proofs.Wholes.{one_tree}
use Rattle.vf_parse.proofs.laws.trees_are_one.Goals as goal

pub returns : goal.returns
returns c = one_tree
