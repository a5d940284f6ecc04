use Rattle.vf_lexeme.proofs.Lexing.{begins_once}
use Rattle.vf_lexeme.proofs.laws.begins_once.Goals as goal

pub returns : goal.returns
returns c = λ text seen other a b. begins_once text seen other a b
