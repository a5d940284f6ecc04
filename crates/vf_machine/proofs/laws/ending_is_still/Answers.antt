use Rattle.vf_machine.proofs.Ends.{ending_still}
use Rattle.vf_machine.proofs.laws.ending_is_still.Goals as goal

pub returns : goal.returns
returns g c = ending_still
