use Rattle.std.proofs.Common.{◌-◌, ◌^◌, length, ◌∙◌, ap, sym}
use Rattle.std.specs.Prelude.{decimal}
use Rattle.vf_format.proofs.NumberLemmas.{field_none, field_signed, field_unsigned}
use Rattle.vf_format.proofs.format.field.Goals as goal

pub returns-then-least : goal.returns-then-least
returns-then-least c = field_none c.args.least c.args.value c.if-least.true

pub returns-then-is_signed : goal.returns-then-is_signed
returns-then-is_signed c =
    let text = c.format-digits.ensures.text ∙ ap decimal (c.greatest.ensures ∙ ap (λ w. 2 ^ w - 1) c.width.ensures.value) in
    field_signed c.args.least c.args.value (length c.format-digits.result.now) c.if-least.false (sym c.is_signed.ensures ∙ c.if-is_signed.true) (ap length text)

pub returns-else-is_signed : goal.returns-else-is_signed
returns-else-is_signed c =
    let text = c.format-digits.ensures.text ∙ ap decimal (c.greatest.ensures ∙ ap (λ w. 2 ^ w - 1) c.width.ensures.value) in
    field_unsigned c.args.least c.args.value (length c.format-digits.result.now) c.if-least.false (sym c.is_signed.ensures ∙ c.if-is_signed.false) (ap length text)
