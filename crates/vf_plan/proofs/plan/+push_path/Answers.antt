use Rattle.std.proofs.Common.{◌≡◌, ◌∙◌, ◌++◌, List, [], Some, ap, sym, arith, slice_get, append-nil, refl, length}
use Rattle.std.proofs.lemmas.Option.{slice_get_read}
use Rattle.vf_plan.specs.declared.plan.Node.{Node}
use Rattle.vf_plan.specs.Paths.{at_parent, grown, with_segment}
use Rattle.vf_plan.proofs.PathLemmas.{pathed}
use Rattle.vf_plan.proofs.ReaderLemmas.{parent_before}
use Rattle.vf_plan.proofs.plan.+push_path.Goals.{in-Some+in_ok-push_path, in_default}
use Rattle.vf_plan.proofs.plan.+push_path.Goals as goal

pub returns : goal.returns
returns t c =
    let nodes = c.args.plan.now in
    let node = c.index-node.result.now in
    let old = c.args.into.now.items in
    let long = ap length c.plan.view_is in
    let here : slice_get c.plan.inside.nodes.items c.args.node.0 ≡ Some node =
    slice_get_read c.plan.inside.nodes.items (length c.plan.inside.nodes.items) c.args.node.0 node refl (omega (arith, long, c.requires)) c.index-node.ensures in
    let at : slice_get nodes c.args.node.0 ≡ Some node = ap (λ (ns : List Node). slice_get ns c.args.node.0) (sym c.plan.view_is) ∙ here in
    let before = parent_before c.plan.inside.nodes.items c.plan.invariant.each c.args.node.0 node here in
    let mid : c.match-node.into.items ≡ old ++ at_parent [] (grown with_segment [] nodes) node.parent = elim c.match-node.branch [
      | in-Some+in_ok-push_path w ↦ ap (λ v. v.items) w.into-is ∙ w.in_ok-push_path.ensures ∙ ap (λ p. old ++ at_parent [] (grown with_segment [] nodes) p) (sym w.in-Some.is)
      | in_default w ↦ ap (λ v. v.items) w.into-is ∙ sym (append-nil old) ∙ ap (λ p. old ++ at_parent [] (grown with_segment [] nodes) p) (sym w.in_default.is)
    ] in
    pathed nodes c.args.node.0 node old c.match-node.into.items c.extend_from_slice.new.self.items at before mid (c.in_ok-extend_from_slice.ensures.items ∙ ap (λ bytes. c.match-node.into.items ++ bytes) c.bytes.ensures)
