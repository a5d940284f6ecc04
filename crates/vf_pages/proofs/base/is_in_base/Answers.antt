use Rattle.std.proofs.Common.{◌∙◌, sym, ap, ap₂}
use Rattle.std.specs.Prelude.{Some}
use Rattle.vf_pages.specs.declared.held.Held.{Held}
use Rattle.vf_pages.specs.Views.{page_of, pages_of}
use Rattle.vf_pages.specs.Contents.{content_words}
use Rattle.vf_pages.specs.Bases.{same_below, has_words}
use Rattle.vf_pages.proofs.Lookups.{held-place, entry-gap}
use Rattle.vf_pages.proofs.base.is_in_base.Goals as goal

pub returns-in-Ok : goal.returns-in-Ok
returns-in-Ok c =
    let base = c.args.base.now in
    let one = c.args.one.now in
    let there = c.index-base-place.result in
    let found = held-place base c.in-Ok.place one.page.0 there c.requires c.in-Ok.ensures ∙ ap (λ (h : Held). Some (page_of h)) (sym c.index-base-place.is) in
    let other = c.words-in-Ok.ensures ∙ ap (λ (h : Held). content_words h.content) (sym c.index-base-place.is) in
    c.same_words.ensures ∙ ap₂ (λ words there. same_below words there 64) c.words.ensures other
    ∙ sym (ap (λ e. has_words e (content_words one.content)) found)

pub returns-in-Err : goal.returns-in-Err
returns-in-Err c =
    sym (ap (λ e. has_words e (content_words c.args.one.now.content)) (entry-gap (pages_of c.args.base.now) _ c.args.one.now.page.0 c.in-Err.ensures))
