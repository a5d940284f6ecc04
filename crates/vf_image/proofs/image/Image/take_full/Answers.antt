use Rattle.std.proofs.Common.{◌∙◌, refl, ap}
use Rattle.vf_jobs.specs.Jobs.{node_of}
use Rattle.vf_image.proofs.ImageLemmas.{full_image}
use Rattle.vf_image.proofs.image.Image.take_full.Goals as goal

pub invariant_of-result : goal.invariant_of-result
invariant_of-result g c =
    let parts = c.into_parts-setup.ensures in
    full_image c.args.sim _ parts.kept c.requires.reach c.requires.saved parts.setup (c.node.ensures ∙ ap node_of parts.job) refl parts.header parts.text parts.saved parts.pages
