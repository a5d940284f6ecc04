use Rattle.std.proofs.Common.{◌^◌, replicate, Ok, ap, sym, ◌∙◌}
use Rattle.vf_fours.specs.Numbers.{digits_of}
use Rattle.vf_number.specs.Numbers.{decimal_value}
use Rattle.vf_number.proofs.Decimals.{below_cases, below_none}
use Rattle.vf_number.proofs.Digits.{value_unknown, value_large, value_known}
use Rattle.vf_number.proofs.numbers.decimal_value.Goals as goal

pub returns-then-is_unknown_at-clause-value : goal.returns-then-is_unknown_at-clause-value
returns-then-is_unknown_at-clause-value c = value_unknown c.args.digits.now
    (sym c.is_unknown_at.ensures ∙ c.if-is_unknown_at.true)
    ∙ ap (λ bits. Ok bits) (sym (ap (λ v. v.bits) c.filled.ensures.value ∙ ap (replicate 128) c.fill.ensures))

pub returns-in_default-clause-value : goal.returns-in_default-clause-value
returns-in_default-clause-value c = value_large c.args.digits.now (sym c.is_unknown_at.ensures ∙ c.if-is_unknown_at.false)
    (below_none (2 ^ 128) (decimal_value c.args.digits.now) (sym c.in_default.ensures))

pub returns-clause-value : goal.returns-clause-value
returns-clause-value c =
    let p = below_cases (2 ^ 128) (decimal_value c.args.digits.now) c.in-Some.number (sym c.in-Some.ensures) in
    value_known c.args.digits.now (sym c.is_unknown_at.ensures ∙ c.if-is_unknown_at.false) p.1
    ∙ ap (λ bits. Ok bits) (sym (ap (λ v. v.bits) c.known.ensures.value ∙ ap (digits_of 128) p.0))
