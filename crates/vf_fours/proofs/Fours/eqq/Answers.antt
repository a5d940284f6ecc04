use Rattle.std.proofs.Common.{ap, sym, refl, ◌∙◌}
use Rattle.vf_fours.specs.Bits.{same_bit}
use Rattle.vf_fours.specs.Numbers.{digit}
use Rattle.vf_fours.specs.Operators.{eqq_of}
use Rattle.vf_fours.proofs.OperatorLemmas.{every_of_pairs}
use Rattle.vf_fours.proofs.Fours.eqq.Goals as goal

pub returns : goal.returns
unfolding eqq_of
returns c =
    let a = c.args.self in
    let b = c.args.other in
    c.of.ensures ∙ ap digit (sym (every_of_pairs same_bit c.planes.result c.planes-2.result a.bits b.bits c.unequal.result c.planes.ensures c.planes-2.ensures c.requires c.unequal.ensures refl))
