use Rattle.std.proofs.Common.{ap, cond, nat_lt, ◌∙◌, ℕ, ◌<◌, ◌≤◌, ◌-◌, length, arith, le-ltb}
use Rattle.std.proofs.lemmas.Bool.{cond-false}
use Rattle.vf_fours.specs.Planes.{plane_bit}
use Rattle.vf_fours.proofs.ListLemmas.{same_state}
use Rattle.vf_fours.proofs.OperatorLemmas.{down_planes, down_past}
use Rattle.vf_fours.proofs.Fours.moved_down.Goals as goal

pub returns-then-amount-from-clause-value : goal.returns-then-amount-from-clause-value
returns-then-amount-from-clause-value c =
    let filled = λ (i : ℕ) (h : i < 128). c.filled.ensures i h ∙ ap (λ w. cond (nat_lt i (w - c.args.amount)) (plane_bit c.down-planes.result i) c.args.fill) c.width-width.ensures.value in
    c.with.ensures.value ∙ same_state (down_planes c.planes.result c.settled.result c.down-planes.result c.filled.result c.args.self.bits c.args.amount c.args.fill c.planes.ensures c.settled.ensures.bits c.down-planes.ensures.bits filled) c.is_signed-signed.ensures

pub returns-else-amount-from-clause-value : goal.returns-else-amount-from-clause-value
returns-else-amount-from-clause-value c =
    let past : length c.args.self.bits ≤ c.args.amount = omega arith in
    let filled = λ (i : ℕ) (h : i < 128). c.filled-else-amount-from.ensures i h ∙ cond-false _ _ _ (le-ltb i 0 (omega arith)) in
    c.with-else-amount-from.ensures.value ∙ same_state (down_past c.filled-else-amount-from.result c.args.self.bits c.args.amount c.args.fill (omega arith) past filled) c.is_signed-signed.ensures
