use Rattle.std.proofs.Common.{◌∙◌, ℕ, ◌≤◌, length, arith}
use Rattle.vf_fours.proofs.ListLemmas.{same_state}
use Rattle.vf_fours.proofs.OperatorLemmas.{plane_bit_zero, up_planes, up_past}
use Rattle.vf_fours.proofs.Fours.moved_up.Goals as goal

pub returns-then-amount-from-clause-value : goal.returns-then-amount-from-clause-value
returns-then-amount-from-clause-value c =
    let zero = λ (i : ℕ). plane_bit_zero c.known.result i c.known.ensures.ones c.known.ensures.unknown in
    c.with.ensures.value ∙ same_state (up_planes c.planes.result c.settled-planes.result c.known.result c.above.result c.args.self.bits c.args.amount c.planes.ensures c.settled-planes.ensures.bits zero c.above.ensures) c.is_signed-signed.ensures

pub returns-else-amount-from-clause-value : goal.returns-else-amount-from-clause-value
returns-else-amount-from-clause-value c =
    let past : length c.args.self.bits ≤ c.args.amount = omega arith in
    c.with_number.ensures.value ∙ same_state (up_past c.args.self.bits c.args.amount past) c.is_signed-signed.ensures
