use Rattle.vf_control.proofs.Wholes.{readings_are}
use Rattle.vf_control.proofs.laws.readings_are_controls.Goals as goal

pub returns : goal.returns
returns c = readings_are
