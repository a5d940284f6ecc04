use Rattle.std.proofs.Common.{sym, ap}
use Rattle.std.specs.Fmt.{digits}
use Rattle.vf_top.specs.declared.refusal.Refusal.TheVariants.{TooLong}
use Rattle.vf_top.specs.Fault.{fault_text}
use Rattle.vf_top.proofs.refusal.What.long_line.Goals as goal

pub returns-in-Design : goal.returns-in-Design
unfolding digits
returns-in-Design c = sym (ap (λ what. fault_text (TooLong what)) c.in-Design.is)

pub returns-in-Plan : goal.returns-in-Plan
unfolding digits
returns-in-Plan c = sym (ap (λ what. fault_text (TooLong what)) c.in-Plan.is)
