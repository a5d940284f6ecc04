use Rattle.vf_layout.proofs.Holding.{values_held}
use Rattle.vf_layout.proofs.laws.words_hold_the_values.Goals as goal

pub returns : goal.returns
returns c = values_held
