use Rattle.std.proofs.Common.{◌≡◌, ◌<◌, ◌∙◌, Some, length, refl, sym, ap, ap₂, subst}
use Rattle.std.specs.Arc.{arc_value}
use Rattle.vf_jobs.specs.Jobs.{node_of}
use Rattle.vf_plan.specs.Paths.{joined}
use Rattle.vf_jobs.specs.Setup.{Conditions}
use Rattle.vf_image.specs.Images.{Checkpoint, Serves}
use Rattle.vf_image.proofs.ForkLemmas.{forked_simulator}
use Rattle.vf_image.proofs.BaseLemmas.{over_stands}
use Rattle.vf_image.proofs.sim.Sim.from_incr.Goals as goal

pub invariant_of-result : goal.invariant_of-result
invariant_of-result g c =
    let is = sym c.image.view_is in
    let setup = c.in_ok-setup.ensures in
    let made = c.in_ok-pages.ensures.ok in
    let serves = subst (λ (i : Checkpoint). Serves i c.args.job) is c.requires.serves in
    let under = sym c.base.view_is in
    let named = ap (λ (i : Checkpoint). i.base) c.image.view_is ∙ c.requires.base.named ∙ ap (λ (b : Checkpoint). Some b.node) under in
    let full = ap (λ (b : Checkpoint). b.base) c.base.view_is ∙ c.requires.base.full in
    let same = ap (λ (b : Checkpoint). b.setup) c.base.view_is ∙ c.requires.base.setup ∙ ap (λ (i : Checkpoint). i.setup) is in
    let job = subst (λ (i : Checkpoint). node_of c.args.job < length i.setup.plan) is c.requires.job in
    let read : c.behind-setup.inside.plan ≡ (arc_value c.in_ok-setup.setup).plan = ap (λ (s : Conditions). s.plan) (c.behind-setup.view_is ∙ c.deref.ensures) in
    let stands = over_stands _ _ c.in_ok-pages.pages c.image.invariant c.base.invariant full same named made.zero made.pages in (
      forked_simulator _ _ c.image.invariant serves job stands setup refl c.in_ok-text.ensures refl,
      c.in_ok-stimulus.ensures ∙ ap₂ joined read c.node.ensures,
    )
