use Rattle.std.proofs.Common.{ap, refl, ◌∙◌, bit_and, length}
use Rattle.vf_fours.specs.Bits.{FourState}
use Rattle.vf_fours.specs.Shapes.{length-bits_of}
use Rattle.vf_fours.specs.Planes.{bits_of}
use Rattle.vf_fours.proofs.ListLemmas.{same_state, bits_of-mask}
use Rattle.vf_fours.proofs.Fours.low_bits.Goals as goal

pub returns-clause-value : goal.returns-clause-value
returns-clause-value c =
    let mask = c.low_ones-mask.ensures in
    c.new.ensures ∙ same_state (ap (λ m. bits_of c.args.width (bit_and c.args.planes.ones m) (bit_and c.args.planes.unknown m)) mask ∙ bits_of-mask c.args.width c.args.planes.ones c.args.planes.unknown) refl

pub returns-clause-width : goal.returns-clause-width
returns-clause-width c = ap (λ (v : FourState). length v.bits) c.new.ensures ∙ length-bits_of c.args.width _ _
