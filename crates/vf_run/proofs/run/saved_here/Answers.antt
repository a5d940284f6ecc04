use Rattle.std.proofs.Common.{◌≡◌, ◌∙◌, None, Some, length, sym, ap}
use Rattle.vf_base.specs.declared.names.Job.TheVariants.{Reach}
use Rattle.vf_base.specs.declared.run.Header.{Header}
use Rattle.vf_image.specs.Simulators.{Simulator, IsSimulator}
use Rattle.vf_run.proofs.StopLemmas.{unasked, is_at_save}
use Rattle.vf_run.proofs.run.saved_here.Goals as goal

pub returns-in_default-saved-clause-none : goal.returns-in_default-saved-clause-none
returns-in_default-saved-clause-none g c =
    let s : Simulator = c.args.sim.now in
    let sim : IsSimulator s = c.in-Reach.ensures.kept in
    let none : s.saved ≡ None = cc in
    unasked s.setup s.job s.header.turns (sym sim.saved ∙ none)

pub returns-clause-some : goal.returns-clause-some
returns-clause-some g c =
    let s : Simulator = c.args.sim.now in
    let sim : IsSimulator s = c.in-Reach.ensures.kept in
    let job : s.job ≡ Reach c.in-Reach.field-0 = sym c.in-Reach.ensures.job in
    let saved : s.saved ≡ Some c.in-Some.kind = sym c.in-Some.ensures in
    let whole = sym (ap (λ (h : Header). h.reads) c.header.ensures.header) ∙ c.if-header-stimulus.false ∙ ap length c.stimulus.ensures in
    (c.in-Reach.field-0, is_at_save s c.in-Reach.field-0 c.in-Some.kind sim job saved whole, saved)
