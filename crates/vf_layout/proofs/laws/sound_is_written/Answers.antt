use Rattle.vf_layout.proofs.SoundLemmas.{sound_written}
use Rattle.vf_layout.proofs.laws.sound_is_written.Goals as goal

pub returns : goal.returns
returns c = sound_written
