use Rattle.vf_layout.proofs.StandingLemmas.{words_standing}
use Rattle.vf_layout.proofs.laws.words_stand.Goals as goal

pub returns : goal.returns
returns c = words_standing
