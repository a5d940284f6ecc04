use Rattle.std.proofs.Common.{Ok}
use Rattle.vf_lexeme.proofs.Taking.{begins_takes}
use Rattle.vf_lexeme.proofs.laws.begins_takes.Goals as goal

pub returns : goal.returns
returns c = λ text lexeme rest h. begins_takes text (Ok (lexeme, rest)) h
