use Rattle.std.proofs.Common.{◌≡◌, ◌<◌, ◌∙◌, sym, ap, ap₂, subst, refl, [], length, ℕ, Vec, Global}
use Rattle.std.specs.Arc.{arc_value}
use Rattle.vf_jobs.specs.Setup.{Conditions, IsSetup}
use Rattle.vf_plan.specs.Paths.{joined}
use Rattle.vf_jobs.specs.Jobs.{node_of}
use Rattle.vf_image.specs.Runs.{stimulus_of, IsAt}
use Rattle.vf_image.proofs.RunLemmas.{at_time_zero, sound_at_zero}
use Rattle.vf_image.proofs.sim.Sim.at_zero.Goals as goal

pub invariant_of-result : goal.invariant_of-result
invariant_of-result g c =
    let conditions : Conditions = arc_value c.in_ok-kept.kept in
    let same : c.deref.result.now ≡ conditions = c.deref.ensures ∙ sym c.in_ok-kept.ensures in
    let kept : IsSetup conditions = subst IsSetup (c.behind-setup.view_is ∙ same) c.behind-setup.invariant.setup in
    let same_2 : c.deref-2.result.now ≡ conditions = c.deref-2.ensures ∙ sym c.in_ok-kept.ensures in
    let made = c.in_ok-pages.ensures.ok in
    let zero : c.in_ok-pages.pages.zero ≡ conditions.zero =
    made.zero ∙ ap (λ (v : Vec ℕ Global). v.items) c.in_ok-zero.ensures ∙ ap (λ (s : Conditions). s.zero) (c.behind-setup-2.view_is ∙ same_2) in
    let job = subst (λ (s : Conditions). node_of c.args.job < length s.plan) (sym c.in_ok-kept.ensures) c.requires.job in
    let at = at_time_zero conditions c.args.job c.in_ok-pages.pages kept zero made.pages in
    let says : c.new-2.result ≡ [] = c.new-2.ensures ∙ c.new.ensures.items in
    let node : joined c.behind-setup.inside.plan c.node.result.0 ≡ stimulus_of conditions c.args.job =
    ap₂ (λ (s : Conditions) n. joined s.plan n) (c.behind-setup.view_is ∙ same) c.node.ensures in (
      record {
        setup = kept;
        job = job;
        saved = refl;
        sound = sound_at_zero conditions c.args.job kept;
        at = subst (λ bytes. IsAt conditions c.args.job 0 (record { turns = 0; reads = 0; written = 0 }) bytes c.in_ok-pages.pages) (sym says) at;
      },
      c.in_ok-stimulus.ensures ∙ node,
    )
