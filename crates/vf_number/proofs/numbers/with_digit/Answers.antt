use Rattle.std.proofs.Common.{◌≡◌, ◌-◌, ◌≤◌, ◌++◌, length, take, pos, ap, ap₂, sym, ◌∙◌, arith}
use Rattle.vf_fours.specs.Operators.{select_of}
use Rattle.vf_number.specs.Numbers.{digit_width, digit_bits}
use Rattle.vf_number.proofs.BitLists.{select_is, concat_is}
use Rattle.vf_number.proofs.Digits.{digit_bits_length, same_digit, more_digit}
use Rattle.vf_number.proofs.numbers.with_digit.Goals as goal

pub returns-then-byte-eq95-clause-bits : goal.returns-then-byte-eq95-clause-bits
returns-then-byte-eq95-clause-bits c = same_digit c.args.base c.args.byte c.args.value.bits c.if-byte-eq95.true

pub concat-requires : goal.concat-requires
concat-requires c =
    let size : length c.digit.result.bits ≡ digit_width c.args.base = ap (λ v. length v.bits) c.digit.ensures
    ∙ digit_bits_length c.args.base c.args.byte in
    omega (arith, size, c.select.ensures.width, c.digit_width.ensures.value, c.digit_width.ensures.most)

pub returns-clause-bits : goal.returns-clause-bits
returns-clause-bits c =
    let n = 128 - digit_width c.args.base in
    let small : n ≤ length c.args.value.bits = omega (arith, c.requires.width) in
    let n_is : 128 - c.digit_width.result ≡ n = ap (λ k. 128 - k) c.digit_width.ensures.value in
    let high : c.select.result.bits ≡ take n c.args.value.bits = ap (λ v. v.bits) c.select.ensures.value
    ∙ ap (λ k. (select_of c.args.value (pos 0) k).bits) n_is ∙ ap (λ v. v.bits) (select_is c.args.value n small) in
    let low : c.digit.result.bits ≡ digit_bits c.args.base c.args.byte = ap (λ v. v.bits) c.digit.ensures in
    ap (λ v. v.bits) c.concat.ensures.value ∙ concat_is c.select.result c.digit.result ∙ ap₂ ◌++◌ low high
    ∙ sym (more_digit c.args.base c.args.byte c.args.value.bits c.if-byte-eq95.false)

pub returns-clause-width : goal.returns-clause-width
returns-clause-width c =
    let size : length c.digit.result.bits ≡ digit_width c.args.base = ap (λ v. length v.bits) c.digit.ensures
    ∙ digit_bits_length c.args.base c.args.byte in
    omega (arith, size, c.concat.ensures.width, c.select.ensures.width, c.digit_width.ensures.value, c.digit_width.ensures.most)
