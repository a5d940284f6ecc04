use Rattle.std.proofs.Common.{sym, refl}
use Rattle.vf_fours.specs.Bits.{fits_z}
use Rattle.vf_fours.specs.Operators.{matches_z}
use Rattle.vf_fours.proofs.OperatorLemmas.{every_of_pairs}
use Rattle.vf_fours.proofs.Fours.match_z.Goals as goal

pub returns : goal.returns
unfolding matches_z
returns c =
    let a = c.args.self in
    let b = c.args.other in
    sym (every_of_pairs fits_z c.planes.result c.planes-2.result a.bits b.bits c.unfit_z.result c.planes.ensures c.planes-2.ensures c.requires c.unfit_z.ensures refl)
