use Rattle.vf_lexeme.proofs.Lexing.{number_shown}
use Rattle.vf_lexeme.proofs.read.number_at.Goals as goal

pub returns : goal.returns
returns c = number_shown (λ r. (r.0, r.1.now)) c.args.text.now c.number.result c.number.ensures.found c.number.ensures.refused
