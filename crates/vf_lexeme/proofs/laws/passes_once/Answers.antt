use Rattle.vf_lexeme.proofs.Passing.{passes_once}
use Rattle.vf_lexeme.proofs.laws.passes_once.Goals as goal

pub returns : goal.returns
returns c = λ text seen other a b. passes_once text seen other a b
