use Rattle.vf_scheduler.proofs.Telling.{words_tell}
use Rattle.vf_scheduler.proofs.laws.words_tell_the_state.Goals as goal

pub returns : goal.returns
returns c = words_tell
