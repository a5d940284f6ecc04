use Rattle.vf_fours.proofs.PlaneLemmas.{low_ones_is}
use Rattle.vf_fours.proofs.planes.low_ones.Goals as goal

pub returns : goal.returns
returns c = low_ones_is c.args.places c.requires.most
