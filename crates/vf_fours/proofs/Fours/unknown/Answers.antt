use Rattle.std.proofs.Common.{sym, ap, ◌∙◌}
use Rattle.vf_fours.specs.Bits.{FourState}
use Rattle.vf_fours.specs.Planes.{unknown_of}
use Rattle.vf_fours.specs.Shapes.{unknown_of-bits_of}
use Rattle.vf_fours.proofs.Fours.unknown.Goals as goal

pub returns : goal.returns
returns c =
    let a = c.self.inside in
    sym (unknown_of-bits_of a.width a.ones a.unknown c.self.invariant.unknown_fit) ∙ ap (λ (v : FourState). unknown_of v.bits) c.self.view_is
