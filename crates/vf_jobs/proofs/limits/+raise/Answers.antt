use Rattle.std.proofs.Common.{◌≡◌, Some, refl, slice_get, length, arith}
use Rattle.std.proofs.lemmas.Option.{slice_get_read}
use Rattle.vf_jobs.proofs.LimitLemmas.{raised_root, raised_up}
use Rattle.vf_jobs.proofs.limits.+raise.Goals as goal

pub returns-in-Some-clause-raised : goal.returns-in-Some-clause-raised
returns-in-Some-clause-raised t c =
    let nodes = c.args.nodes.now in
    let node = c.index-nodes-top.result in
    let here : slice_get nodes c.args.at.0 ≡ Some node = slice_get_read nodes (length nodes) c.args.at.0 node refl c.requires.at c.index-nodes-top.is in
    raised_up nodes c.requires.plan c.args.at.0 node here c.args.limits c.args.tops.now.items (omega (arith, c.requires.at, c.requires.length))
    c.index.result.now c.index.ensures c.greater.result c.greater.ensures c.in-Some.parent c.in-Some.is c.raise.new.tops.items c.raise.ensures.raised

pub returns-in_default-clause-raised : goal.returns-in_default-clause-raised
returns-in_default-clause-raised t c =
    let nodes = c.args.nodes.now in
    let node = c.index-nodes-top.result in
    let here : slice_get nodes c.args.at.0 ≡ Some node = slice_get_read nodes (length nodes) c.args.at.0 node refl c.requires.at c.index-nodes-top.is in
    raised_root nodes c.requires.plan c.args.at.0 node here c.args.limits c.args.tops.now.items (omega (arith, c.requires.at, c.requires.length))
    c.index.result.now c.index.ensures c.greater.result c.greater.ensures c.in_default.is
