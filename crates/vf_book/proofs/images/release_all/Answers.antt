use Rattle.std.proofs.Common.{◌∙◌, length, ap, arith}
use Rattle.vf_jobs.specs.Setup.{Conditions}
use Rattle.vf_book.proofs.CallLemmas.{holders-gone}
use Rattle.vf_book.proofs.images.release_all.Goals as goal

pub returns-clause-none : goal.returns-clause-none
returns-clause-none g c =
    let whole = c.plan.view_is ∙ ap (λ (s : Conditions). s.plan) (c.behind-setup.view_is ∙ c.deref.ensures ∙ c.setup-setup.ensures) in
    let long = ap length whole in
    holders-gone c.loop-at.images.items (λ n below. c.loop-at.invariant.gone n (omega (arith, below, c.loop-at.invariant.long, long, c.loop-at-test.false, c.len-at-end.ensures, c.plan.inside.nodes.ok.0)))
