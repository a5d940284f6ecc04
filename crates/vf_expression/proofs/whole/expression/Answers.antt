use Rattle.vf_expression.proofs.Wholes.{answer_found, answer_none}
use Rattle.vf_expression.proofs.whole.expression.Goals as goal

pub returns : goal.returns
returns c = record { found = answer_found c.args.tokens.now c.whole.result c.whole.ensures; none = answer_none c.args.tokens.now c.whole.result c.whole.ensures }
