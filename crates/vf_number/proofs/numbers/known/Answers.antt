use Rattle.std.proofs.Common.{ap, ◌∙◌}
use Rattle.vf_fours.specs.Operators.{resize_of}
use Rattle.vf_number.proofs.BitLists.{known_is}
use Rattle.vf_number.proofs.numbers.known.Goals as goal

pub returns-clause-value : goal.returns-clause-value
returns-clause-value c =
    let w = c.args.width in
    let s = c.args.signed in
    c.resize.ensures.value ∙ ap (λ v. resize_of v w s) c.new.ensures ∙ known_is w c.args.number s c.requires.most
