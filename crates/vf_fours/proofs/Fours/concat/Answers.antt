use Rattle.std.proofs.Common.{ap, refl, ◌∙◌, ◌+◌}
use Rattle.vf_fours.specs.Planes.{bits_of}
use Rattle.vf_fours.specs.Operators.{concat_of}
use Rattle.vf_fours.proofs.ListLemmas.{same_state}
use Rattle.vf_fours.proofs.OperatorLemmas.{joined}
use Rattle.vf_fours.proofs.Fours.concat.Goals as goal

pub returns-clause-value : goal.returns-clause-value
unfolding concat_of
returns-clause-value c =
    let a = c.args.self in
    let b = c.args.low in
    let n = c.width-places.result in
    c.low_bits.ensures.value ∙ same_state (ap (λ m. bits_of (m + n) c.above-planes.result.ones c.above-planes.result.unknown) c.width.ensures.value ∙ joined c.planes.result c.planes-2.result c.above-planes.result a.bits b.bits n c.planes.ensures c.planes-2.ensures c.width-places.ensures.value c.requires c.above-planes.ensures) refl
