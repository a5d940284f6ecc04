use Rattle.std.proofs.Common.{◌≡◌, ◌-◌, ◌^◌, ◌≤◌, length, ◌∙◌, ap, arith}
use Rattle.std.proofs.Math.Pow.{pow_mono}
use Rattle.vf_fours.specs.Numbers.{number}
use Rattle.vf_format.proofs.NumberLemmas.{ones_number, number_below, number_positive}
use Rattle.vf_format.proofs.format.magnitude.Goals as goal

pub overflow_sub-result : goal.overflow_sub-result
overflow_sub-result c =
    let bits = c.args.value.bits in
    let ones : c.ones.result ≡ number bits = c.ones.ensures ∙ ones_number bits c.requires.known in
    let all : c.greatest.result ≡ 2 ^ length bits - 1 = c.greatest.ensures ∙ ap (λ w. 2 ^ w - 1) c.width.ensures.value in
    let small = number_below bits in
    omega arith

pub overflow_add-result : goal.overflow_add-result
overflow_add-result c =
    let bits = c.args.value.bits in
    let ones : c.ones.result ≡ number bits = c.ones.ensures ∙ ones_number bits c.requires.known in
    let all : c.greatest.result ≡ 2 ^ length bits - 1 = c.greatest.ensures ∙ ap (λ w. 2 ^ w - 1) c.width.ensures.value in
    let some = number_positive c.args.value.signed bits c.requires.negative in
    let wide : length bits ≤ 128 = let same = c.width.ensures.value in let most = c.width.ensures.most in omega arith in
    let room : 2 ^ length bits ≤ 2 ^ 128 = pow_mono {i = length bits} {j = 128} wide in
    record { fits = omega arith }

pub returns : goal.returns
returns c =
    let bits = c.args.value.bits in
    let ones : c.ones.result ≡ number bits = c.ones.ensures ∙ ones_number bits c.requires.known in
    let all : c.greatest.result ≡ 2 ^ length bits - 1 = c.greatest.ensures ∙ ap (λ w. 2 ^ w - 1) c.width.ensures.value in
    let small = number_below bits in
    omega arith
