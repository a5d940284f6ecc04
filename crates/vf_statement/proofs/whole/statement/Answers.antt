use Rattle.vf_statement.proofs.Wholes.{answer_found, answer_none}
use Rattle.vf_statement.proofs.whole.statement.Goals as goal

pub returns : goal.returns
returns c = record { found = answer_found c.args.tokens.now c.whole.result c.whole.ensures; none = answer_none c.args.tokens.now c.whole.result c.whole.ensures }
