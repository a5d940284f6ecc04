use Rattle.std.proofs.Common.{sym, refl}
use Rattle.vf_fours.specs.Bits.{fits_x}
use Rattle.vf_fours.specs.Operators.{matches_x}
use Rattle.vf_fours.proofs.OperatorLemmas.{every_of_pairs}
use Rattle.vf_fours.proofs.Fours.match_x.Goals as goal

pub returns : goal.returns
unfolding matches_x
returns c =
    let a = c.args.self in
    let b = c.args.other in
    sym (every_of_pairs fits_x c.planes.result c.planes-2.result a.bits b.bits c.differing.result c.planes.ensures c.planes-2.ensures c.requires c.differing.ensures.unfit refl)
