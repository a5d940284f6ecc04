use Rattle.std.proofs.Common.{◌∙◌, ap}
use Rattle.vf_fours.specs.Numbers.{number}
use Rattle.vf_format.specs.Printed.{byte_at}
use Rattle.vf_format.proofs.digits.byte.Goals as goal

pub returns : goal.returns
unfolding byte_at
returns c = c.number_in.ensures.value ∙ ap number c.end_of-high.ensures.bits
