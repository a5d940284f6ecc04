use Rattle.vf_layout.proofs.ChangeLemmas.{front_written}
use Rattle.vf_layout.proofs.laws.front_is_written.Goals as goal

pub returns : goal.returns
returns c = front_written
