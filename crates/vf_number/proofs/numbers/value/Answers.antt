use Rattle.std.proofs.Common.{Ok, ap, sym, ◌∙◌}
use Rattle.vf_number.proofs.Digits.{value_spelled}
use Rattle.vf_number.proofs.numbers.value.Goals as goal

pub returns-clause-value : goal.returns-clause-value
returns-clause-value c = value_spelled c.args.base c.args.digits.now (sym c.is_decimal.ensures ∙ c.if-is_decimal.false)
    ∙ ap (λ bits. Ok bits) (sym c.spelled.ensures.bits)
