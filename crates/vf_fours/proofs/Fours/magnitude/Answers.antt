use Rattle.std.proofs.Common.{◌≡◌, ap, sym, ◌∙◌, ◌-◌, ◌^◌, ◌≤◌, length, arith}
use Rattle.std.specs.Prelude.{unsigned_abs}
use Rattle.std.proofs.Math.Pow.{pow_mono}
use Rattle.std.proofs.lemmas.Bool.{and_parts}
use Rattle.vf_fours.specs.Bits.{is_one, top}
use Rattle.vf_fours.specs.Numbers.{number}
use Rattle.vf_fours.proofs.NumberLemmas.{is_below_zero-integer, number_positive, number_below, magnitude_high, integer_low}
use Rattle.vf_fours.proofs.Fours.magnitude.Goals as goal

pub overflow_add-result : goal.overflow_add-result
overflow_add-result c =
    let bits = c.args.self.bits in
    let n : c.number-number.result ≡ number bits = c.number-number.ensures.value in
    let high = sym (is_below_zero-integer c.args.signed bits) ∙ sym c.is_negative.ensures ∙ c.if-is_negative.true in
    let some = number_positive bits (length bits - 1) (and_parts c.args.signed (is_one (top bits)) high).1 in
    let room : 2 ^ length bits ≤ 2 ^ 128 = pow_mono {i = length bits} {j = 128} c.number-number.ensures.most in
    let ones : c.low_ones.result ≡ 2 ^ length bits - 1 = rw (← c.width.ensures.value) c.low_ones.ensures in
    record { fits = omega arith }

pub returns-then-is_negative-clause-value : goal.returns-then-is_negative-clause-value
returns-then-is_negative-clause-value c =
    let bits = c.args.self.bits in
    let n : c.number-number.result ≡ number bits = c.number-number.ensures.value in
    let high = sym (is_below_zero-integer c.args.signed bits) ∙ sym c.is_negative.ensures ∙ c.if-is_negative.true in
    let small = number_below bits in
    let ones : c.low_ones.result ≡ 2 ^ length bits - 1 = rw (← c.width.ensures.value) c.low_ones.ensures in
    omega (arith, magnitude_high c.args.signed bits high)

pub returns-else-is_negative-clause-value : goal.returns-else-is_negative-clause-value
returns-else-is_negative-clause-value c =
    let bits = c.args.self.bits in
    let low = sym (is_below_zero-integer c.args.signed bits) ∙ sym c.is_negative.ensures ∙ c.if-is_negative.false in
    c.number-number.ensures.value ∙ sym (ap unsigned_abs (integer_low c.args.signed bits low))
