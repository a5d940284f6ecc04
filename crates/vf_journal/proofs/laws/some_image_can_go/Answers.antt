use Rattle.vf_journal.proofs.HoldingLemmas.{some_can_go}
use Rattle.vf_journal.proofs.laws.some_image_can_go.Goals as goal

pub returns : goal.returns
returns g c = λ f. some_can_go f
