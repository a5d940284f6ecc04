use Rattle.std.proofs.Common.{◌∙◌, refl, sym, ap, subst}
use Rattle.vf_jobs.specs.Jobs.{node_of}
use Rattle.vf_pages.specs.Calls.{KeptChanged}
use Rattle.vf_pages.specs.Pages.{Pages}
use Rattle.vf_image.specs.Images.{Checkpoint, Serves}
use Rattle.vf_image.proofs.BaseLemmas.{incr_image}
use Rattle.vf_image.proofs.image.Image.take_incr.Goals as goal

pub invariant_of-result : goal.invariant_of-result
invariant_of-result g c =
    let parts = c.into_parts-setup.ensures in
    incr_image c.args.sim _ _ parts.kept c.requires.reach c.requires.saved c.base.invariant
    (ap (λ (i : Checkpoint). i.base) c.base.view_is ∙ c.requires.full)
    (ap (λ (i : Checkpoint). i.setup) c.base.view_is ∙ c.requires.setup)
    (subst (λ (i : Checkpoint). Serves i c.args.sim.job) (sym c.base.view_is) c.requires.serves)
    (λ e. c.requires.proper (ap (λ (i : Checkpoint). i.node.0) (sym c.base.view_is) ∙ e))
    (subst (λ (m : Pages). KeptChanged c.base.inside.pages m c.keep_changed.new.self) parts.pages c.keep_changed.ensures.changed)
    parts.setup (c.node.ensures ∙ ap node_of parts.job) refl parts.header parts.text parts.saved
