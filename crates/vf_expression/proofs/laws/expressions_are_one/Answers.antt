use Rattle.vf_expression.proofs.Wholes.{one_expression}
use Rattle.vf_expression.proofs.laws.expressions_are_one.Goals as goal

pub returns : goal.returns
returns c = one_expression
