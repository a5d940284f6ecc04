use Rattle.std.proofs.Common.{◌≡◌, ◌+◌, ◌-◌, ◌∙◌, sym, arith}
use Rattle.vf_format.specs.Printed.{digit_at}
use Rattle.vf_format.proofs.DigitLemmas.{zero_gone, digit_stays, one_stays}
use Rattle.vf_format.proofs.format.without_zeros.Goals as goal

pub loop-count-preserved : goal.loop-count-preserved
loop-count-preserved c =
    let below : c.loop-count.count - 1 + 1 ≡ c.loop-count.count = omega arith in
    record {
      most = omega arith;
      text = zero_gone (digit_at c.args.size c.args.value.bits) (c.loop-count.count - 1) c.loop-count.count below c.loop-count-test.true (sym c.digit.ensures ∙ c.if-digit-eq48.true)
          ∙ c.loop-count.invariant.text;
    }

pub returns-else-digit-eq48-clause-text : goal.returns-else-digit-eq48-clause-text
returns-else-digit-eq48-clause-text c =
    let below : c.loop-count.count - 1 + 1 ≡ c.loop-count.count = omega arith in
    digit_stays (digit_at c.args.size c.args.value.bits) (c.loop-count.count - 1) c.loop-count.count below c.loop-count-test.true (λ e. c.if-digit-eq48.false (c.digit.ensures ∙ e))
    ∙ c.loop-count.invariant.text

pub returns-after-loop-count-clause-text : goal.returns-after-loop-count-clause-text
returns-after-loop-count-clause-text c = one_stays (digit_at c.args.size c.args.value.bits) c.loop-count.count c.loop-count-test.false ∙ c.loop-count.invariant.text
