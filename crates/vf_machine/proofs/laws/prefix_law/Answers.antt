use Rattle.vf_machine.proofs.Prefixes.{prefix}
use Rattle.vf_machine.proofs.laws.prefix_law.Goals as goal

pub returns : goal.returns
returns g c = λ m. prefix m
