use Rattle.std.proofs.Common.{◌++◌, ◌∷◌, ◌∙◌, ap}
use Rattle.vf_format.specs.Printed.{padded}
use Rattle.vf_format.proofs.NumberLemmas.{negative_text}
use Rattle.vf_format.proofs.format.write_negative.Goals as goal

pub returns : goal.returns
returns c =
    let text = c.as_bytes.ensures.value ∙ c.format-digits.ensures.text in
    c.in_ok-put.ensures
    ∙ ap (λ t. c.args.into.now ++ padded c.args.field (45 ∷ t)) text
    ∙ ap (λ t. c.args.into.now ++ padded c.args.field t) (negative_text c.args.value c.magnitude.result c.requires.known c.requires.negative c.magnitude.ensures)
