use Rattle.vf_layout.proofs.FutureLemmas.{regions_move}
use Rattle.vf_layout.proofs.laws.regions_move.Goals as goal

pub returns : goal.returns
returns c = regions_move
