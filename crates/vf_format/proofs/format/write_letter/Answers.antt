use Rattle.std.proofs.Common.{◌++◌, ◌∙◌, ap}
use Rattle.vf_format.specs.Printed.{padded}
use Rattle.vf_format.proofs.NumberLemmas.{letter_text}
use Rattle.vf_format.proofs.format.write_letter.Goals as goal

pub returns : goal.returns
returns c = c.in_ok-put.ensures ∙ ap (λ t. c.args.into.now ++ padded c.args.field t) (letter_text c.args.value c.args.letter c.requires)
