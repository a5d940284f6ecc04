use Rattle.vf_scheduler.proofs.Steps.{step_sound}
use Rattle.vf_scheduler.proofs.laws.step_is_sound.Goals as goal

pub returns : goal.returns
returns c = step_sound
