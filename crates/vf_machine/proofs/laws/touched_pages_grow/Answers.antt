use Rattle.vf_machine.proofs.Touching.{touched_pages_grow_lem}
use Rattle.vf_machine.proofs.laws.touched_pages_grow.Goals as goal

pub returns : goal.returns
returns g c = touched_pages_grow_lem
