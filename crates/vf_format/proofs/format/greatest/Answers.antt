use Rattle.vf_format.proofs.NumberLemmas.{greatest_is}
use Rattle.vf_format.proofs.format.greatest.Goals as goal

pub returns : goal.returns
returns c = greatest_is c.args.width c.requires.most
