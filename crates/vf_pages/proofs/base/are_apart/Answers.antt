use Rattle.std.proofs.Common.{◌≡◌, ℕ, ◌≤◌, false, List, sym, ap, subst, ◌∙◌}
use Rattle.std.proofs.lemmas.List.{take_all}
use Rattle.vf_pages.specs.declared.held.Held.{Held}
use Rattle.vf_pages.specs.Pages.{occurs, frames_in}
use Rattle.vf_pages.specs.Views.{pages_of}
use Rattle.vf_pages.specs.Bases.{is_marked}
use Rattle.vf_pages.proofs.Bases.{more-frames, none-shared}
use Rattle.vf_pages.proofs.base.are_apart.Goals as goal

pub loop-one-preserved : goal.loop-one-preserved
loop-one-preserved c = λ f some.
    let marks = c.in_ok-marks.marks.items in
    let h = c.one-item.result in
    let off : is_marked marks h.frame.0 ≡ false = ap (λ ms. is_marked ms h.frame.0) (sym c.deref.ensures.value) ∙ sym c.if-is_marked.ensures in
    more-frames (λ n. is_marked marks n ≡ false) f c.loop-one.one-index c.args.base.now h c.loop-one-test.true c.one-item.is (c.loop-one.invariant f) off some

pub returns : goal.returns
returns c = λ apart f some.
    let all = subst (λ (hs : List Held). (n : ℕ) → 1 ≤ occurs n (frames_in (pages_of hs)) → is_marked c.in_ok-marks.marks.items n ≡ false) (take_all c.loop-one.one-index c.args.base.now c.loop-one-test.false) c.loop-one.invariant in
    none-shared f (pages_of c.args.base.now) c.in_ok-marks.marks.items (c.in_ok-marks.ensures f some) (all f)
