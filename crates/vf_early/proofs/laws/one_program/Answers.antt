use Rattle.vf_early.proofs.Designs.{one_program}
use Rattle.vf_early.proofs.laws.one_program.Goals as goal

pub returns : goal.returns
returns c = one_program
