use Rattle.std.proofs.Common.{ap, sym, ◌∙◌, ◌-◌, ◌%◌, ◌^◌, ◌<◌, zero-add, arith}
use Rattle.std.specs.Prelude.{pos}
use Rattle.vf_fours.specs.Numbers.{residue, with_sign}
use Rattle.vf_fours.proofs.NumberLemmas.{residue-neg}
use Rattle.vf_fours.proofs.arithmetic.with_sign.Goals as goal

pub returns-then-negative : goal.returns-then-negative
returns-then-negative c = λ w h.
    let n = c.args.number in
    let small : n < 2 ^ 128 = c.ranges.number.fits in
    ap (λ m. residue w (pos (m % 2 ^ 128))) (zero-add (2 ^ 128 - n))
    ∙ residue-neg w n h (omega arith)
    ∙ ap (λ t. residue w (with_sign t n)) (sym c.if-negative.true)
