use Rattle.std.proofs.Common.{◌∙◌}
use Rattle.vf_fours.specs.Bits.{settled_bit}
use Rattle.vf_fours.specs.Operators.{plus_of}
use Rattle.vf_fours.proofs.ListLemmas.{same_state, mapped_planes}
use Rattle.vf_fours.proofs.Fours.plus.Goals as goal

pub returns-clause-value : goal.returns-clause-value
unfolding plus_of
returns-clause-value c = c.with.ensures.value ∙ same_state (mapped_planes settled_bit c.planes.result c.settled.result c.args.self.bits c.planes.ensures (λ i h. c.settled.ensures.bits i)) c.is_signed.ensures
