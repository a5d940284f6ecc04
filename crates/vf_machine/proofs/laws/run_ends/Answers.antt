use Rattle.vf_machine.proofs.Ends.{run_ends_lem}
use Rattle.vf_machine.proofs.laws.run_ends.Goals as goal

pub returns : goal.returns
returns g c = run_ends_lem
