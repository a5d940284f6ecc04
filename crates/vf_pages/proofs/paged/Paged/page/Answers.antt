use Rattle.std.proofs.Common.{◌<◌, length, refl, sym, ap, ◌∙◌, subst, arith}
use Rattle.std.specs.Prelude.{Some}
use Rattle.vf_pages.specs.declared.held.Held.{Held}
use Rattle.vf_pages.specs.Pages.{Pages, IsPageAt}
use Rattle.vf_pages.specs.Views.{page_of}
use Rattle.vf_pages.proofs.Lookups.{page-get, length-pages}
use Rattle.vf_pages.proofs.paged.Paged.page.Goals as goal

pub returns : goal.returns
returns g c =
    let held = c.self.inside.held.items in
    let one = c.index-one.result.now in
    let within : c.args.at < length held =
    let below = subst (λ (m : Pages). c.args.at < length m.pages) (sym c.self.view_is) c.requires in
    omega (arith, below, length-pages held) in
    let there = page-get held c.args.at one within ∙ ap (λ (h : Held). Some (page_of h)) (sym c.index-one.ensures) in
    subst (λ (m : Pages). IsPageAt m.pages c.args.at one.page.0 c.words.result.now) c.self.view_is
    (record { there = page_of one; is = there; number_is = refl; words_are = c.words.ensures })
