use Rattle.vf_scheduler.proofs.Starts.{start_sound}
use Rattle.vf_scheduler.proofs.laws.start_is_sound.Goals as goal

pub returns : goal.returns
returns c = start_sound
