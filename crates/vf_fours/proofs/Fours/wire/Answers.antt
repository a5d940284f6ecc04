use Rattle.std.proofs.Common.{◌∙◌}
use Rattle.vf_fours.specs.Bits.{wire_bit}
use Rattle.vf_fours.specs.Operators.{wire_of}
use Rattle.vf_fours.proofs.ListLemmas.{same_state, paired_planes}
use Rattle.vf_fours.proofs.Fours.wire.Goals as goal

pub returns-clause-value : goal.returns-clause-value
unfolding wire_of
returns-clause-value c =
    let a = c.args.self in
    let b = c.args.other in
    c.with.ensures.value ∙ same_state (paired_planes wire_bit c.planes.result c.planes-2.result c.wire.result a.bits b.bits c.planes.ensures c.planes-2.ensures c.requires (λ i h. c.wire.ensures i)) c.is_signed.ensures
