use Rattle.std.proofs.Common.{◌-◌, ◌*◌, ◌^◌, ◌≤◌, ◌∙◌, ap, arith}
use Rattle.std.proofs.Math.Pow.{pow_mono}
use Rattle.vf_format.specs.Printed.{digit_of, digit_char, digit_at}
use Rattle.vf_format.proofs.DigitLemmas.{by_letter, by_number}
use Rattle.vf_format.proofs.digits.digit.Goals as goal

pub digit_char-requires : goal.digit_char-requires
digit_char-requires c =
    let few : c.end_of-high.result - c.args.size * c.args.k ≤ 4 = let last = c.end_of-high.ensures.within in omega arith in
    let room : 2 ^ (c.end_of-high.result - c.args.size * c.args.k) ≤ 2 ^ 4 = pow_mono {i = c.end_of-high.result - c.args.size * c.args.k} {j = 4} few in
    let fits = c.number_in.ensures.fits in
    omega arith

pub returns-in-Some : goal.returns-in-Some
unfolding digit_at
returns-in-Some c = by_letter _ _ c.in-Some.ensures ∙ ap digit_of c.end_of-high.ensures.bits

pub returns-in-None : goal.returns-in-None
unfolding digit_at
returns-in-None c = c.digit_char.ensures ∙ ap digit_char c.number_in.ensures.value ∙ by_number _ c.in-None.ensures ∙ ap digit_of c.end_of-high.ensures.bits
