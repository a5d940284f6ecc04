use Rattle.vf_expression.proofs.Complete.{readings_are}
use Rattle.vf_expression.proofs.laws.readings_are_expressions.Goals as goal

pub returns : goal.returns
returns c = readings_are
