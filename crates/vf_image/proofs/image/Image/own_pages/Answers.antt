use Rattle.std.proofs.Common.{◌∙◌, length, sym, ap, subst}
use Rattle.vf_pages.specs.Pages.{IsSorted}
use Rattle.vf_image.specs.Images.{Checkpoint, IsImage, IsOwnCount}
use Rattle.vf_image.proofs.OwnLemmas.{own_counted}
use Rattle.vf_image.proofs.image.Image.own_pages.Goals as goal

pub returns-clause-own : goal.returns-clause-own
returns-clause-own g c =
    let i : Checkpoint = c.args.self.now in
    let kept : IsImage i = subst IsImage c.self.view_is c.self.invariant in
    let sorted = subst (λ (m : Checkpoint). IsSorted m.pages.pages) c.self.view_is c.pages.ensures.sorted in
    subst (IsOwnCount i i.base) (sym (c.pages.ensures.count ∙ ap (λ (m : Checkpoint). length m.pages.pages) c.self.view_is)) (own_counted i kept sorted)
