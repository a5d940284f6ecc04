use Rattle.std.proofs.Common.{Err, ap}
use Rattle.vf_top.proofs.accept.design_in.Goals as goal

pub returns-in-Err-NotBuilt : goal.returns-in-Err-NotBuilt
returns-in-Err-NotBuilt c = λ p early. c.in-Err-NotBuilt.ensures.not_built (ap Err c.in-Err-NotBuilt.field-0-is) p early
