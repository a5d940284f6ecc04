use Rattle.vf_machine.proofs.Changes.{changed_pages_lem}
use Rattle.vf_machine.proofs.laws.changed_pages.Goals as goal

pub returns : goal.returns
returns c = changed_pages_lem
