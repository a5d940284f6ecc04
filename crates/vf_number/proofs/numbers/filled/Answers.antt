use Rattle.std.proofs.Common.{true, false, ap, ◌∙◌}
use Rattle.vf_fours.specs.Operators.{resize_of}
use Rattle.vf_number.proofs.BitLists.{filled_is}
use Rattle.vf_number.proofs.numbers.filled.Goals as goal

pub returns-clause-value : goal.returns-clause-value
returns-clause-value c =
    let w = c.args.width in
    c.resize-2.ensures.value ∙ ap (λ v. resize_of v w false) (c.resize.ensures.value ∙ ap (λ v. resize_of v 1 true) c.of_bit.ensures)
    ∙ filled_is w false c.args.bit
