use Rattle.vf_lexeme.specs.Reading.{lexeme_at}
use Rattle.vf_lexeme.proofs.Lexing.{lexeme_sound}
use Rattle.vf_lexeme.proofs.laws.begins_some.Goals as goal

pub returns : goal.returns
returns c = λ text some. (lexeme_at text, lexeme_sound text some)
