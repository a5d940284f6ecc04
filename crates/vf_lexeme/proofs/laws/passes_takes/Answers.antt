use Rattle.std.proofs.Common.{Ok}
use Rattle.vf_lexeme.proofs.Taking.{passes_takes}
use Rattle.vf_lexeme.proofs.laws.passes_takes.Goals as goal

pub returns : goal.returns
returns c = λ text passed rest h. passes_takes text (Ok (passed, rest)) h
