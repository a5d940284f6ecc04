use Rattle.vf_design.proofs.Sounds.{runs_sound}
use Rattle.vf_design.proofs.laws.runs_are_sound.Goals as goal

pub returns : goal.returns
returns c = runs_sound
