use Rattle.std.proofs.Common.{◌≡◌, ℕ, ◌+◌, ◌-◌, ◌<◌, ◌≤◌, Some, IfSome, length, get_or, slice_get, refl, ◌∙◌, subst, arith}
use Rattle.std.proofs.lemmas.List.{get_or_read}
use Rattle.std.proofs.lemmas.Option.{slice_get_read}
use Rattle.vf_base.specs.declared.names.NodeNo.{NodeNo}
use Rattle.vf_records.proofs.EndLemmas.{Rises, rises_more, climbs}
use Rattle.vf_records.proofs.ends.raise_all.Goals as goal

pub loop-at-preserved : goal.loop-at-preserved
loop-at-preserved c =
    let nodes = c.args.nodes.now in
    let was = c.loop-at.most.items in
    let at = c.loop-at.at - 1 in
    let long = c.loop-at.invariant.long in
    let inside : at < length nodes = (let most = c.loop-at.invariant.at in omega (arith, most, c.loop-at-test.true)) in
    let node = c.index-nodes-at.result in
    let here : slice_get nodes at ≡ Some node = slice_get_read nodes (length nodes) at node refl inside c.index-nodes-at.is in
    let own : c.index-own.result.now ≡ get_or was at 0 = get_or_read was at c.index-own.result.now (omega (arith, inside, long)) c.index-own.ensures 0 in
    let one : c.loop-at.at ≡ at + 1 = omega (arith, c.loop-at-test.true) in
    record {
      at = omega (arith, inside);
      long = c.raise.ensures.length ∙ long;
      grown = λ n. (let before = c.loop-at.invariant.grown n in let more = c.raise.ensures.grown n in omega (arith, before, more));
      rises = rises_more nodes c.requires.plan was c.raise.new.most.items at node here (subst (Rises nodes was) one c.loop-at.invariant.rises) c.raise.ensures.grown
          (subst (λ (k : ℕ). IfSome node.parent (λ (p : NodeNo). k ≤ get_or c.raise.new.most.items p.0 0)) own c.raise.ensures.raised) c.raise.ensures.others;
    }

pub returns-clause-raised : goal.returns-clause-raised
returns-clause-raised c = λ top n is.
    let none : c.loop-at.at ≡ 0 = omega (arith, c.loop-at-test.false) in
    let up = climbs c.args.nodes.now c.requires.plan c.loop-at.most.items (subst (Rises c.args.nodes.now c.loop-at.most.items) none c.loop-at.invariant.rises) (n + 1) top n (omega arith) is in
    let grown = c.loop-at.invariant.grown n in
    omega (arith, up, grown)
