use Rattle.vf_macro.proofs.Parts.{quote_front}
use Rattle.vf_macro.proofs.scan.part_by.Goals as goal

pub string-requires : goal.string-requires
string-requires c = quote_front c.args.kind c.args.bytes.now c.args.after.now c.requires.kind c.in-Quote.is c.requires.after

pub returns-in-Quote : goal.returns-in-Quote
returns-in-Quote c = rw c.in-Quote.is c.string.ensures
