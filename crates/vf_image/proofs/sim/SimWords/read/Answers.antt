use Rattle.std.proofs.Common.{◌∙◌, ap, subst}
use Rattle.vf_pages.specs.Pages.{Pages, word_of}
use Rattle.vf_image.specs.Simulators.{Simulator, IsSimulator}
use Rattle.vf_image.proofs.RunLemmas.{word_is}
use Rattle.vf_image.proofs.sim.SimWords.read.Goals as goal

pub returns : goal.returns
returns g c =
    let s : Simulator = c.args.self.now in
    let sim : IsSimulator s = subst IsSimulator c.self.view_is c.self.invariant.0 in
    c.read.ensures ∙ ap (λ (m : Pages). word_of m c.args.at) (ap (λ (t : Simulator). t.pages) c.self.view_is) ∙ word_is s c.args.at sim c.requires
