use Rattle.vf_lexeme.specs.Reading.{passed_at}
use Rattle.vf_lexeme.proofs.Passing.{passed_sound}
use Rattle.vf_lexeme.proofs.laws.passes_some.Goals as goal

pub returns : goal.returns
returns c = λ text some. (passed_at text, passed_sound text some)
