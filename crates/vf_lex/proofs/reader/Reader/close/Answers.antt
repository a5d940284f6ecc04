use Rattle.std.proofs.Common.{refl}
use Rattle.vf_lex.specs.Inner.{around}
use Rattle.vf_lex.proofs.ReaderLemmas.{popped}
use Rattle.vf_lex.proofs.reader.Reader.close.Goals as goal

pub returns : goal.returns
unfolding around
returns c =
    let old = c.args.self.now.conditions in
    popped (around c.args.self.now) old.items c.pop.new.self.items c.pop.result _ _ refl c.pop.ensures.items old.ok.0
    c.pop.ensures.cases
