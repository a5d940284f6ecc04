use Rattle.std.proofs.Common.{◌∙◌}
use Rattle.vf_fours.specs.Bits.{and_bit}
use Rattle.vf_fours.specs.Operators.{bitwise_of}
use Rattle.vf_fours.proofs.ListLemmas.{same_state, paired_planes}
use Rattle.vf_fours.proofs.Fours.and.Goals as goal

pub returns-clause-value : goal.returns-clause-value
unfolding bitwise_of
returns-clause-value c =
    let a = c.args.self in
    let b = c.args.other in
    c.with.ensures.value ∙ same_state (paired_planes and_bit c.planes.result c.planes-2.result c.and.result a.bits b.bits c.planes.ensures c.planes-2.ensures c.requires (λ i h. c.and.ensures i)) c.are_signed.ensures
