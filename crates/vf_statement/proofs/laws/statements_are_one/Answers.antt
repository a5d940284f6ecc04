use Rattle.vf_statement.proofs.Wholes.{one_statement}
use Rattle.vf_statement.proofs.laws.statements_are_one.Goals as goal

pub returns : goal.returns
returns c = one_statement
