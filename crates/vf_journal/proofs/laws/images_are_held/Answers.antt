use Rattle.vf_journal.proofs.HoldingLemmas.{holds_images}
use Rattle.vf_journal.proofs.laws.images_are_held.Goals as goal

pub returns : goal.returns
returns g c = λ f. holds_images f
