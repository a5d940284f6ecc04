use Rattle.vf_number.proofs.Numbering.{numbers_once}
use Rattle.vf_number.proofs.laws.numbers_once.Goals as goal

pub returns : goal.returns
returns c = λ text seen other a b. numbers_once text seen other a b
