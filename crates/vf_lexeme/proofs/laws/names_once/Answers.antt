use Rattle.vf_lexeme.proofs.PlainNames.{names_once}
use Rattle.vf_lexeme.proofs.laws.names_once.Goals as goal

pub returns : goal.returns
returns c = λ text name rest other more a b. names_once text name rest other more a b
