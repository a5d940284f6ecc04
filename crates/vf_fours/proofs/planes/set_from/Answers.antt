use Rattle.vf_fours.proofs.PlaneLemmas.{set_from_is}
use Rattle.vf_fours.proofs.planes.set_from.Goals as goal

pub returns-then-from-lt128 : goal.returns-then-from-lt128
returns-then-from-lt128 c = λ i h. set_from_is c.args.word c.args.from i c.requires c.if-from-lt128.true h
