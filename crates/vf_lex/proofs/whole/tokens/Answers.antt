use Rattle.vf_lex.specs.Inner.{around}
use Rattle.vf_lex.proofs.Wholes.{finished}
use Rattle.vf_lex.proofs.whole.tokens.Goals as goal

pub returns-clause-fault : goal.returns-clause-fault
returns-clause-fault c = finished (λ tokens. tokens.items) c.finish.result (around c.read.new.reader) c.args.text.now
    (rw c.new-reader.ensures at c.in_ok-read.ensures) c.finish.ensures
