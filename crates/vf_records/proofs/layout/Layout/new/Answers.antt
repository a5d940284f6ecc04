use Rattle.std.proofs.Common.{◌≡◌, ◌+◌, ◌∙◌, ◌∷◌, ◌++◌, if◌then◌else◌, List, [], ◌<◌, Bool, Some, false, length, slice_get, refl, sym, ap, subst, arith}
use Rattle.std.proofs.lemmas.List.{get_or_read}
use Rattle.std.proofs.lemmas.Option.{slice_get_read}
use Rattle.vf_base.specs.declared.names.Job.{Job}
use Rattle.vf_plan.specs.declared.plan.Node.{Node}
use Rattle.vf_base.specs.declared.names.Job.TheVariants.{Reach, Finish}
use Rattle.vf_jobs.specs.Jobs.{has_child, node_no}
use Rattle.vf_records.specs.declared.layout.Place.{Place}
use Rattle.vf_records.specs.Layout.{IsLaidOut}
use Rattle.vf_records.proofs.LayoutLemmas.{laid_first, laid_more}
use Rattle.vf_records.proofs.layout.Layout.new.Goals as goal

pub loop-at-init : goal.loop-at-init
loop-at-init c =
    subst (λ (js : List Job). IsLaidOut c.args.plan.now 0 js c.new-2.result.items) (sym c.new.ensures.items)
    (subst (λ (ps : List Place). IsLaidOut c.args.plan.now 0 [] ps) (sym c.new-2.ensures.items) (laid_first c.args.plan.now))

pub loop-at-preserved : goal.loop-at-preserved
loop-at-preserved c =
    let nodes : List Node = c.args.plan.now in
    let inside = c.plan.inside.nodes.items in
    let node = c.index.result.now in
    let long = ap length c.plan.view_is in
    let less : c.loop-at.at < length inside = omega arith in
    let there : slice_get inside c.loop-at.at ≡ Some node = slice_get_read inside (length inside) c.loop-at.at node refl less c.index.ensures in
    let here : slice_get nodes c.loop-at.at ≡ Some node = ap (λ (ns : List Node). slice_get ns c.loop-at.at) (sym c.plan.view_is) ∙ there in
    let inner : Bool = c.index-in-loop-at.result.now in
    let marked = c.in_ok-inner.inner.items in
    let many : length marked ≡ length nodes = c.in_ok-inner.ensures.length in
    let within : c.loop-at.at < length marked = omega (arith, many, less, long) in
    let is_inner : inner ≡ has_child nodes c.loop-at.at = get_or_read marked c.loop-at.at inner within c.index-in-loop-at.ensures false ∙ c.in_ok-inner.ensures.inner c.loop-at.at in
    let more = laid_more nodes c.loop-at.at node c.loop-at.layout.jobs.items c.loop-at.layout.places.items inner here is_inner c.loop-at.invariant in
    let n = node_no c.loop-at.at in
    let jobs : List Job = c.loop-at.layout.jobs.items ++ ((if inner then Reach n ∷ [] else []) ++ (if node.test then Finish n ∷ [] else [])) in
    subst (λ (js : List Job). IsLaidOut nodes (c.loop-at.at + 1) js c.take_in.new.self.places.items) (sym c.in_ok-take_in.ensures.jobs)
    (subst (IsLaidOut nodes (c.loop-at.at + 1) jobs) (sym c.in_ok-take_in.ensures.places) more)
