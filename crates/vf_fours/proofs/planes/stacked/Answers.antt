use Rattle.vf_fours.proofs.PlaneLemmas.{stacked_is}
use Rattle.vf_fours.proofs.planes.stacked.Goals as goal

pub returns : goal.returns
returns c = λ i h. stacked_is c.args.word c.args.low c.args.places i c.requires.low c.requires.places h
