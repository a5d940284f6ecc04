use Rattle.std.proofs.Common.{◌∙◌, length, ap, subst}
use Rattle.vf_pages.specs.Pages.{IsSorted}
use Rattle.vf_image.specs.Simulators.{Simulator, IsSimulator}
use Rattle.vf_image.proofs.CountLemmas.{pages_counted}
use Rattle.vf_image.proofs.sim.Sim.pages.Goals as goal

pub returns-clause-touched : goal.returns-clause-touched
returns-clause-touched g c =
    let s : Simulator = c.args.self.now in
    let sim : IsSimulator s = subst IsSimulator c.self.view_is c.self.invariant.0 in
    let sorted = subst (λ (m : Simulator). IsSorted m.pages.pages) c.self.view_is c.pages.ensures.sorted in
    c.pages.ensures.count ∙ ap (λ (m : Simulator). length m.pages.pages) c.self.view_is ∙ pages_counted s.setup s.job s.header.turns s.pages sim.setup sim.sound sim.at.stands sorted
