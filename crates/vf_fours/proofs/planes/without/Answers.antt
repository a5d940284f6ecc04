use Rattle.vf_fours.proofs.PlaneLemmas.{without_is}
use Rattle.vf_fours.proofs.planes.without.Goals as goal

pub returns : goal.returns
returns c = λ i. without_is c.args.word c.args.other i
