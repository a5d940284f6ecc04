use Rattle.std.proofs.Common.{ap, sym, ◌∙◌, Some}
use Rattle.std.proofs.lemmas.Option.{slice_get-get_or}
use Rattle.vf_fours.specs.declared.Bit.TheVariants.{X}
use Rattle.vf_fours.proofs.ListLemmas.{bit_in-planes}
use Rattle.vf_fours.proofs.Fours.bit.Goals as goal

pub returns : goal.returns
returns c =
    let bits = c.args.self.now.bits in
    slice_get-get_or bits c.args.at X c.requires ∙ ap Some (bit_in-planes c.planes.result bits c.args.at c.planes.ensures c.requires ∙ sym c.bit.ensures)
