use Rattle.std.proofs.Common.{sym}
use Rattle.vf_fours.proofs.ListLemmas.{known_planes}
use Rattle.vf_fours.proofs.Fours.is_known.Goals as goal

pub returns : goal.returns
returns c = sym (known_planes c.planes.result c.args.self.bits c.planes.ensures)
