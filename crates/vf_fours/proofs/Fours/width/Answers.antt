use Rattle.std.proofs.Common.{sym, ap, ◌∙◌, length}
use Rattle.vf_fours.specs.Bits.{FourState}
use Rattle.vf_fours.specs.Shapes.{length-bits_of}
use Rattle.vf_fours.proofs.Fours.width.Goals as goal

pub returns-clause-value : goal.returns-clause-value
returns-clause-value c =
    let a = c.self.inside in
    sym (length-bits_of a.width a.ones a.unknown) ∙ ap (λ (v : FourState). length v.bits) c.self.view_is
