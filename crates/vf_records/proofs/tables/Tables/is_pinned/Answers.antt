use Rattle.std.proofs.Common.{◌∙◌, nat_lt, sym, ap}
use Rattle.std.proofs.lemmas.List.{get_or_read}
use Rattle.vf_records.proofs.PinLemmas.{some_pinned}
use Rattle.vf_records.proofs.tables.Tables.is_pinned.Goals as goal

pub returns : goal.returns
returns c =
    let t = c.args.self.now in
    let n = c.args.node.0 in
    ap (nat_lt 0) (get_or_read t.pins.items n c.index.result.now c.requires.node c.index.ensures 0 ∙ c.requires.pinned n c.requires.node) ∙ sym (some_pinned t.held.items n)
