use Rattle.std.proofs.Common.{◌≡◌, ◌<◌, ◌∙◌, ◌||◌, List, Some, IfSome, false, length, slice_get, refl, sym, ap, subst, ne_eqb, arith}
use Rattle.std.proofs.lemmas.Option.{slice_get_read}
use Rattle.vf_plan.specs.declared.plan.Node.{Node}
use Rattle.vf_jobs.specs.Subtree.{is_below}
use Rattle.vf_jobs.proofs.SubtreeLemmas.{Descends, itself, descends, is_above, below-parent, below-root}
use Rattle.vf_jobs.proofs.subtree.is_below.Goals as goal

pub nodes-init : goal.nodes-init
nodes-init c = record { there = c.requires; same = refl }

pub returns-then-at-top : goal.returns-then-at-top
returns-then-at-top c =
    let nodes : List Node = c.args.plan.now in
    let down : Descends nodes = subst Descends c.plan.view_is (descends c.plan.inside.nodes.items c.plan.invariant) in
    sym (c.nodes.invariant.same ∙ is_above nodes c.args.top.0 down (omega (arith, c.nodes.invariant.there, c.if-at-top.true)) c.nodes.at (itself c.if-at-top.true))

pub index-requires : goal.index-requires
index-requires c = let long = ap length c.plan.view_is in omega (arith, long, c.nodes.invariant.there)

pub nodes-smaller : goal.nodes-smaller
nodes-smaller c =
    let inside = c.plan.inside.nodes.items in
    let node = c.index.result.now in
    let here = slice_get_read inside (length inside) c.nodes.at node refl (let long = ap length c.plan.view_is in omega (arith, long, c.nodes.invariant.there)) c.index.ensures in
    subst (λ o. IfSome o (λ p. p.0 < c.nodes.at)) c.in-Some.is (descends inside c.plan.invariant c.nodes.at node here)

pub nodes-preserved : goal.nodes-preserved
nodes-preserved c =
    let inside = c.plan.inside.nodes.items in
    let node = c.index.result.now in
    let nodes : List Node = c.args.plan.now in
    let down : Descends nodes = subst Descends c.plan.view_is (descends inside c.plan.invariant) in
    let here = slice_get_read inside (length inside) c.nodes.at node refl (let long = ap length c.plan.view_is in omega (arith, long, c.nodes.invariant.there)) c.index.ensures in
    let at : slice_get nodes c.nodes.at ≡ Some node = ap (λ (ns : List Node). slice_get ns c.nodes.at) (sym c.plan.view_is) ∙ here in
    let less = subst (λ o. IfSome o (λ p. p.0 < c.nodes.at)) c.in-Some.is (descends inside c.plan.invariant c.nodes.at node here) in
    record {
      there = omega (arith, less, c.nodes.invariant.there);
      same = c.nodes.invariant.same ∙ below-parent nodes c.args.top.0 c.nodes.at node c.in-Some.parent down at c.in-Some.is
          ∙ ap (λ b. b || is_below nodes c.args.top.0 c.in-Some.parent.0) (ne_eqb c.nodes.at c.args.top.0 c.if-at-top.false);
    }

pub returns-in-None : goal.returns-in-None
returns-in-None c =
    let inside = c.plan.inside.nodes.items in
    let node = c.index.result.now in
    let nodes : List Node = c.args.plan.now in
    let down : Descends nodes = subst Descends c.plan.view_is (descends inside c.plan.invariant) in
    let here = slice_get_read inside (length inside) c.nodes.at node refl (let long = ap length c.plan.view_is in omega (arith, long, c.nodes.invariant.there)) c.index.ensures in
    let at : slice_get nodes c.nodes.at ≡ Some node = ap (λ (ns : List Node). slice_get ns c.nodes.at) (sym c.plan.view_is) ∙ here in
    sym (c.nodes.invariant.same ∙ below-root nodes c.args.top.0 c.nodes.at node down at c.in-None.is
    ∙ ap (λ b. b || false) (ne_eqb c.nodes.at c.args.top.0 c.if-at-top.false))
