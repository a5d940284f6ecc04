use Rattle.vf_statement.proofs.Complete.{readings}
use Rattle.vf_statement.proofs.laws.readings_are_statements.Goals as goal

pub returns : goal.returns
returns c = readings
