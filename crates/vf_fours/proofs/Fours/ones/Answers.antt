use Rattle.std.proofs.Common.{sym, ap, ◌∙◌}
use Rattle.vf_fours.specs.Bits.{FourState}
use Rattle.vf_fours.specs.Planes.{ones_of}
use Rattle.vf_fours.specs.Shapes.{ones_of-bits_of}
use Rattle.vf_fours.proofs.Fours.ones.Goals as goal

pub returns : goal.returns
returns c =
    let a = c.self.inside in
    sym (ones_of-bits_of a.width a.ones a.unknown c.self.invariant.ones_fit) ∙ ap (λ (v : FourState). ones_of v.bits) c.self.view_is
