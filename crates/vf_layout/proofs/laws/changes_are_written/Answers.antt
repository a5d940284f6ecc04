use Rattle.vf_layout.proofs.ChangeLemmas.{changes_written}
use Rattle.vf_layout.proofs.laws.changes_are_written.Goals as goal

pub returns : goal.returns
returns c = changes_written
