use Rattle.std.proofs.Common.{sym, subst, ◌∙◌}
use Rattle.vf_base.specs.Decimal.{IsDecimal}
use Rattle.vf_early.proofs.Numbers.{not_decimal}
use Rattle.vf_early.proofs.words.number.Goals as goal

pub returns-in_default : goal.returns-in_default
returns-in_default c =
    not_decimal c.args.word.now (sym c.is_number.ensures ∙ c.if-not-is_number.false)
    (λ decimal. c.in_default.ensures (subst IsDecimal (sym (c.as_slice.ensures.value ∙ c.in_ok-digits.ensures)) decimal))
