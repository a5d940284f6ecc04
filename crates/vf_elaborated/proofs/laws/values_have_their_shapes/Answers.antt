use Rattle.vf_elaborated.proofs.Shaped.{values_shaped}
use Rattle.vf_elaborated.proofs.laws.values_have_their_shapes.Goals as goal

pub returns : goal.returns
returns c = values_shaped
