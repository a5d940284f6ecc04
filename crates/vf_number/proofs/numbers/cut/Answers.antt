use Rattle.std.proofs.Common.{◌∙◌, arith}
use Rattle.vf_number.proofs.BitLists.{cut_is}
use Rattle.vf_number.proofs.numbers.cut.Goals as goal

pub returns : goal.returns
returns c = c.resize.ensures.value
    ∙ cut_is c.args.value c.args.width c.args.signed (omega (arith, c.requires.most, c.requires.value))
