use Rattle.std.proofs.Common.{◌≡◌, suc, ◌<◌, ◌+◌, ◌∙◌, List, Some, IfSome, length, slice_get, refl, sym, ap, subst, arith}
use Rattle.std.proofs.lemmas.Option.{slice_get_read}
use Rattle.vf_base.specs.declared.names.NodeNo.{NodeNo}
use Rattle.vf_plan.specs.declared.plan.Node.{Node}
use Rattle.vf_plan.specs.Rules.{IsPlan}
use Rattle.vf_plan.proofs.CallerLemmas.{path-at}
use Rattle.vf_jobs.proofs.CallerLemmas.{descends}
use Rattle.vf_records.proofs.ReadyLemmas.{above, height, higher, still_within}
use Rattle.vf_records.proofs.evict.depth.Goals as goal

pub nodes-preserved : goal.nodes-preserved
nodes-preserved c =
    let nodes : List Node = c.args.plan.now in
    let plan : IsPlan nodes = subst IsPlan c.plan.view_is c.plan.invariant in
    let node = c.in-Some.node in
    let found = c.index.result.now in
    let less : node.0 < length nodes = subst (λ o. IfSome o (λ (p : NodeNo). p.0 < length nodes)) c.in-Some.is c.nodes.invariant.there in
    let inside = c.plan.inside.nodes.items in
    let long = ap length c.plan.view_is in
    let below : node.0 < length inside = omega (arith, long, less) in
    let here : slice_get nodes node.0 ≡ Some found = ap (λ (ns : List Node). slice_get ns node.0) (sym c.plan.view_is) ∙ slice_get_read inside (length inside) node.0 found refl below c.index.ensures in
    let down = descends nodes plan node.0 found here in
    let up : length (above nodes c.nodes.at) ≡ suc (length (above nodes found.parent)) =
    ap (λ o. length (above nodes o)) c.in-Some.is ∙ ap length (path-at nodes node.0 found here down) in
    let high : height c.nodes.at ≡ node.0 + 1 = ap height c.in-Some.is in
    let lower = higher found.parent node.0 down in
    record {
      there = still_within found.parent node.0 (length nodes) less down;
      same = (let same = c.nodes.invariant.same in omega (arith, same, up));
      low = (let low = c.nodes.invariant.low in omega (arith, low, high, lower));
    }
