use Rattle.std.proofs.Common.{ap, sym, ◌∙◌, ◌-◌, length, arith}
use Rattle.vf_fours.specs.Planes.{plane_bit}
use Rattle.vf_fours.proofs.ListLemmas.{bit_in-planes}
use Rattle.vf_fours.proofs.Fours.top.Goals as goal

pub returns : goal.returns
returns c =
    let bits = c.args.self.bits in
    c.bit.ensures
    ∙ ap (λ n. plane_bit c.planes.result (n - 1)) c.width.ensures.value
    ∙ sym (bit_in-planes c.planes.result bits (length bits - 1) c.planes.ensures (omega (arith, c.planes.ensures.some)))
