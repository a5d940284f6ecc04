use Rattle.vf_fours.proofs.NumberLemmas.{number_planes}
use Rattle.vf_fours.proofs.Fours.number.Goals as goal

pub returns-clause-value : goal.returns-clause-value
returns-clause-value c = number_planes c.planes.result c.args.self.bits c.planes.ensures c.requires
