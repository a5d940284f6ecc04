use Rattle.std.proofs.Common.{ap, sym, ◌∙◌, ◌&&◌}
use Rattle.vf_fours.specs.Bits.{is_one, top}
use Rattle.vf_fours.proofs.NumberLemmas.{is_below_zero-integer}
use Rattle.vf_fours.proofs.Fours.is_negative.Goals as goal

pub returns-then-signed : goal.returns-then-signed
returns-then-signed c =
    let bits = c.args.self.bits in
    c.is_one.ensures ∙ ap is_one c.top.ensures ∙ ap (λ s. s && is_one (top bits)) (sym c.if-signed.true) ∙ sym (is_below_zero-integer c.args.signed bits)

pub returns-else-signed : goal.returns-else-signed
returns-else-signed c =
    let bits = c.args.self.bits in
    c.if-signed.false ∙ ap (λ s. s && is_one (top bits)) (sym c.if-signed.false) ∙ sym (is_below_zero-integer c.args.signed bits)
