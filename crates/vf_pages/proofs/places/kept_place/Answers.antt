use Rattle.std.proofs.Common.{sym, ◌∙◌, inr}
use Rattle.std.proofs.lemmas.Option.{none-some}
use Rattle.vf_pages.specs.Views.{pages_of}
use Rattle.vf_pages.proofs.Lookups.{no_page, entry-place, entry-gap}
use Rattle.vf_pages.proofs.places.kept_place.Goals as goal

pub returns-in-Ok-clause-none : goal.returns-in-Ok-clause-none
returns-in-Ok-clause-none c =
    let place = rw c.deref.ensures.value at c.in-Ok.ensures in
    inr (λ e. none-some _ (sym e ∙ entry-place (pages_of c.args.fresh.now.items) _ c.args.page no_page c.requires place))

pub returns-in-Err-clause-some : goal.returns-in-Err-clause-some
returns-in-Err-clause-some c =
    let gap = rw c.deref.ensures.value at c.in-Err.ensures in
    (c.in-Some.ensures.some, entry-gap (pages_of c.args.fresh.now.items) _ c.args.page gap)
