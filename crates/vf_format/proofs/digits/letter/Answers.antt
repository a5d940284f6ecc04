use Rattle.std.proofs.Common.{◌∙◌, ap}
use Rattle.vf_format.specs.Printed.{letter_of}
use Rattle.vf_format.proofs.DigitLemmas.{whole}
use Rattle.vf_format.proofs.digits.letter.Goals as goal

pub returns : goal.returns
returns c = c.letter_in.ensures ∙ ap letter_of (whole c.args.value.bits c.width.result c.width.ensures.value)
