use Rattle.std.proofs.Common.{ap}
use Rattle.vf_fours.specs.Bits.{FourState}
use Rattle.vf_fours.proofs.ListLemmas.{shows_view}
use Rattle.vf_fours.proofs.Fours.planes.Goals as goal

pub returns : goal.returns
returns c =
    let a = c.self.inside in
    let h = c.self.invariant in
    shows_view a.width a.ones a.unknown c.args.self.now.bits (ap (λ (v : FourState). v.bits) c.self.view_is) h.some h.most h.ones_fit h.unknown_fit
