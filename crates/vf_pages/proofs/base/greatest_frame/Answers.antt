use Rattle.std.proofs.Common.{ℕ, ◌≤◌, List, subst, arith}
use Rattle.std.proofs.lemmas.List.{take_all}
use Rattle.vf_pages.specs.declared.held.Held.{Held}
use Rattle.vf_pages.specs.Pages.{occurs, frames_in}
use Rattle.vf_pages.specs.Views.{pages_of}
use Rattle.vf_pages.proofs.Bases.{more-frames}
use Rattle.vf_pages.proofs.base.greatest_frame.Goals as goal

pub loop-one-init : goal.loop-one-init
loop-one-init c = λ f some. absurd (omega (arith, some))

pub loop-one-preserved : goal.loop-one-preserved
loop-one-preserved c = λ f some.
    let inv = c.loop-one.invariant in
    let most = c.larger-most.result in
    more-frames (λ n. n ≤ most) f c.loop-one.one-index c.args.held.now c.one-item.result c.loop-one-test.true c.one-item.is
    (λ before. omega (arith, inv f before, c.larger-most.ensures.0)) c.larger-most.ensures.1 some

pub returns : goal.returns
returns c =
    subst (λ (hs : List Held). (f : ℕ) → 1 ≤ occurs f (frames_in (pages_of hs)) → f ≤ c.loop-one.most) (take_all c.loop-one.one-index c.args.held.now c.loop-one-test.false) c.loop-one.invariant
