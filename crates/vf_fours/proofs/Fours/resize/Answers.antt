use Rattle.std.proofs.Common.{ap₂, cond, nat_lt, refl, ◌∙◌, ℕ, ◌<◌}
use Rattle.vf_fours.specs.Planes.{plane_bit}
use Rattle.vf_fours.specs.Operators.{resize_of}
use Rattle.vf_fours.proofs.ListLemmas.{same_state}
use Rattle.vf_fours.proofs.OperatorLemmas.{resized_planes}
use Rattle.vf_fours.proofs.Fours.resize.Goals as goal

pub returns-clause-value : goal.returns-clause-value
unfolding resize_of
returns-clause-value c =
    let a = c.args.self in
    let filled = λ (i : ℕ) (h : i < 128). c.filled-planes.ensures i h ∙ ap₂ (λ w fill. cond (nat_lt i w) (plane_bit c.planes.result i) fill) c.width.ensures.value c.extension.ensures in
    c.low_bits.ensures.value ∙ same_state (resized_planes c.planes.result c.filled-planes.result a.bits c.args.width _ c.planes.ensures c.requires.most filled) refl
