use Rattle.vf_layout.proofs.FutureLemmas.{regions_written}
use Rattle.vf_layout.proofs.laws.regions_are_written.Goals as goal

pub returns : goal.returns
returns c = regions_written
