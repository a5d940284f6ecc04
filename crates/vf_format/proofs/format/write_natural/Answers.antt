use Rattle.std.proofs.Common.{◌++◌, ◌∙◌, ap}
use Rattle.std.specs.Prelude.{decimal}
use Rattle.vf_format.specs.Printed.{padded}
use Rattle.vf_format.proofs.NumberLemmas.{natural_text}
use Rattle.vf_format.proofs.format.write_natural.Goals as goal

pub returns : goal.returns
returns c =
    let text = c.as_bytes.ensures.value ∙ c.format-digits.ensures.text ∙ ap decimal c.ones.ensures in
    c.in_ok-put.ensures
    ∙ ap (λ t. c.args.into.now ++ padded c.args.field t) (text ∙ natural_text c.args.value c.requires.known c.requires.natural)
