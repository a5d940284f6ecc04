use Rattle.std.proofs.Common.{ap, cond, nat_lt, refl, ◌∙◌, ℕ, ◌<◌, ◌-◌}
use Rattle.vf_fours.specs.declared.Bit.TheVariants.{X}
use Rattle.vf_fours.specs.Planes.{plane_bit}
use Rattle.vf_fours.specs.Operators.{select_of}
use Rattle.vf_fours.proofs.ListLemmas.{same_state}
use Rattle.vf_fours.proofs.OperatorLemmas.{inside_planes}
use Rattle.vf_fours.proofs.Fours.selected_inside.Goals as goal

pub returns-clause-value : goal.returns-clause-value
unfolding select_of
returns-clause-value c =
    let a = c.args.self in
    let filled = λ (i : ℕ) (h : i < 128). c.filled.ensures i h ∙ ap (λ w. cond (nat_lt i (w - c.args.low)) (plane_bit c.down-planes.result i) X) c.width.ensures.value in
    c.low_bits.ensures.value ∙ same_state (inside_planes c.planes.result c.down-planes.result c.filled.result a.bits c.args.low c.args.width c.planes.ensures c.requires.most c.down-planes.ensures.bits filled) refl
