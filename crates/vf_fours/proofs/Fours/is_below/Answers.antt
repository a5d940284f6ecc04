use Rattle.std.proofs.Common.{ap, ap₂, sym, ◌∙◌, nat_lt, cond}
use Rattle.vf_fours.specs.Numbers.{number, integer, is_below_zero}
use Rattle.vf_fours.specs.Operators.{both_signed}
use Rattle.vf_fours.proofs.NumberLemmas.{below_is, unlike}
use Rattle.vf_fours.proofs.Fours.is_below.Goals as goal

pub returns-else-negative-is_negative : goal.returns-else-negative-is_negative
returns-else-negative-is_negative c =
    let a = c.args.self in
    let b = c.args.other in
    let s = both_signed a b in
    let left = c.is_negative-negative.ensures ∙ ap (λ s. is_below_zero (integer s a.bits)) c.are_signed-signed.ensures in
    let right = c.is_negative.ensures ∙ ap (λ s. is_below_zero (integer s b.bits)) c.are_signed-signed.ensures in
    let alike = ap₂ unlike (sym left) (sym right) ∙ c.if-negative-is_negative.false in
    ap₂ nat_lt c.number.ensures.value c.number-else-negative-is_negative.ensures.value
    ∙ sym (below_is s a.bits b.bits c.requires.width ∙ ap (λ t. cond t (is_below_zero (integer s a.bits)) (nat_lt (number a.bits) (number b.bits))) alike)
