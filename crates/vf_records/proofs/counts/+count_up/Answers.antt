use Rattle.std.proofs.Common.{◌≡◌, Some, refl, slice_get, length, arith}
use Rattle.std.proofs.lemmas.Option.{slice_get_read}
use Rattle.vf_records.proofs.CountLemmas.{counted_root, counted_up}
use Rattle.vf_records.proofs.counts.+count_up.Goals as goal

pub returns-in-Some-clause-counted : goal.returns-in-Some-clause-counted
returns-in-Some-clause-counted t c =
    let nodes = c.args.nodes.now in
    let node = c.index-nodes-top.result in
    let here : slice_get nodes c.args.at.0 ≡ Some node = slice_get_read nodes (length nodes) c.args.at.0 node refl c.requires.at c.index-nodes-top.is in
    counted_up nodes c.requires.plan c.args.at.0 node here c.args.counts.now.items (omega (arith, c.requires.at, c.requires.length))
    c.index.result.now c.index.ensures c.more.result c.more.ensures c.in-Some.parent c.in-Some.is c.count_up.new.counts.items c.count_up.ensures.counted

pub returns-in_default-clause-counted : goal.returns-in_default-clause-counted
returns-in_default-clause-counted t c =
    let nodes = c.args.nodes.now in
    let node = c.index-nodes-top.result in
    let here : slice_get nodes c.args.at.0 ≡ Some node = slice_get_read nodes (length nodes) c.args.at.0 node refl c.requires.at c.index-nodes-top.is in
    counted_root nodes c.requires.plan c.args.at.0 node here c.args.counts.now.items (omega (arith, c.requires.at, c.requires.length))
    c.index.result.now c.index.ensures c.more.result c.more.ensures c.in_default.is
