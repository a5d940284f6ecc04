use Rattle.std.proofs.Common.{◌≡◌, ◌∙◌, ◌<◌, Some, IfSome, refl, subst, arith, slice_get, length}
use Rattle.std.proofs.lemmas.List.{get_or_default}
use Rattle.std.proofs.lemmas.Option.{slice_get_read}
use Rattle.vf_jobs.proofs.SubtreeLemmas.{descends}
use Rattle.vf_jobs.proofs.LimitLemmas.{limits_found, limits_inherited, limits_free}
use Rattle.vf_jobs.proofs.limits.limits_at.Goals as goal

pub returns-in-Some : goal.returns-in-Some
returns-in-Some c = limits_found c.args.given c.args.nodes.now c.args.at c.requires.plan c.requires.at c.in-Some.limits c.args.top c.in-Some.is c.requires.top

pub bounds-reach-parent : goal.bounds-reach-parent
bounds-reach-parent c =
    let nodes = c.args.nodes.now in
    let node = c.index-nodes-at.result in
    let here : slice_get nodes c.args.at ≡ Some node = slice_get_read nodes (length nodes) c.args.at node refl c.requires.at c.index-nodes-at.is in
    let less : c.in-Some-parent.parent.0 < c.args.at =
    subst (λ o. IfSome o (λ p. p.0 < c.args.at)) c.in-Some-parent.is (descends nodes c.requires.plan c.args.at node here) in
    omega (arith, less, c.requires.reach.long)

pub returns-in-Some-parent : goal.returns-in-Some-parent
returns-in-Some-parent c =
    let nodes = c.args.nodes.now in
    let node = c.index-nodes-at.result in
    let here : slice_get nodes c.args.at ≡ Some node = slice_get_read nodes (length nodes) c.args.at node refl c.requires.at c.index-nodes-at.is in
    let less : c.in-Some-parent.parent.0 < c.args.at =
    subst (λ o. IfSome o (λ p. p.0 < c.args.at)) c.in-Some-parent.is (descends nodes c.requires.plan c.args.at node here) in
    get_or_default c.args.reach.now c.in-Some-parent.parent.0 _ c.args.given (omega (arith, less, c.requires.reach.long))
    ∙ limits_inherited c.args.given nodes c.args.at c.requires.plan node here c.in-Some-parent.parent c.args.top c.args.reach.now c.in-Some-parent.is c.in_default.is c.requires.top c.requires.reach

pub returns-in-None : goal.returns-in-None
returns-in-None c =
    let nodes = c.args.nodes.now in
    let node = c.index-nodes-at.result in
    let here : slice_get nodes c.args.at ≡ Some node = slice_get_read nodes (length nodes) c.args.at node refl c.requires.at c.index-nodes-at.is in
    limits_free c.args.given nodes c.args.at c.requires.plan node here c.args.top c.in-None.is c.in_default.is c.requires.top
