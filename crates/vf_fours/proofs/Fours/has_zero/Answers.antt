use Rattle.std.proofs.Common.{sym, ◌≡◌, length}
use Rattle.vf_fours.specs.Bits.{is_zero}
use Rattle.vf_fours.proofs.ListLemmas.{any_of_planes}
use Rattle.vf_fours.proofs.Fours.has_zero.Goals as goal

pub returns : goal.returns
returns c =
    let w : c.width.result ≡ length c.args.self.bits = c.width.ensures.value in
    sym (any_of_planes is_zero c.planes.result c.args.self.bits c.zeros.result c.planes.ensures (rw (← w) c.zeros.ensures.fits) (λ i h. c.zeros.ensures.bits i (rw w h)))
