use Rattle.std.proofs.Common.{◌∙◌}
use Rattle.vf_fours.specs.Bits.{not_bit}
use Rattle.vf_fours.specs.Operators.{not_of}
use Rattle.vf_fours.proofs.ListLemmas.{same_state, mapped_planes}
use Rattle.vf_fours.proofs.Fours.not.Goals as goal

pub returns-clause-value : goal.returns-clause-value
unfolding not_of
returns-clause-value c = c.with.ensures.value ∙ same_state (mapped_planes not_bit c.planes.result c.not.result c.args.self.bits c.planes.ensures c.not.ensures) c.is_signed.ensures
