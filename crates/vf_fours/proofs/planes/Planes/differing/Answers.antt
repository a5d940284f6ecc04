use Rattle.std.proofs.Common.{◌∙◌}
use Rattle.vf_fours.specs.Planes.{bit_from}
use Rattle.vf_fours.specs.Numbers.{bit_is}
use Rattle.vf_fours.proofs.PlaneLemmas.{bit_is-or, bit_is-xor}
use Rattle.vf_fours.proofs.Tables.{differ_table, unfit_x_table}
use Rattle.vf_fours.proofs.planes.Planes.differing.Goals as goal

pub returns-clause-known : goal.returns-clause-known
unfolding bit_from
returns-clause-known c =
    let a = c.args.self in
    let b = c.args.other in
    λ i. c.without.ensures i ∙ simp (bit_is-or, bit_is-xor) (differ_table (bit_is a.ones i) (bit_is a.unknown i) (bit_is b.ones i) (bit_is b.unknown i))

pub returns-clause-unfit : goal.returns-clause-unfit
unfolding bit_from
returns-clause-unfit c =
    let a = c.args.self in
    let b = c.args.other in
    λ i. c.without.ensures i ∙ simp (bit_is-or, bit_is-xor) (unfit_x_table (bit_is a.ones i) (bit_is a.unknown i) (bit_is b.ones i) (bit_is b.unknown i))
