use Rattle.vf_design.proofs.Laid.{laid_out}
use Rattle.vf_design.proofs.laws.words_are_laid_out.Goals as goal

pub returns : goal.returns
returns c = laid_out
