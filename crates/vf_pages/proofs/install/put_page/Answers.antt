use Rattle.std.proofs.Common.{List, ap, sym, ◌∙◌, subst}
use Rattle.std.specs.Prelude.{Some}
use Rattle.vf_pages.specs.declared.held.Held.{Held}
use Rattle.vf_pages.specs.Pages.{IsPlace, IsGap}
use Rattle.vf_pages.specs.Views.{page_of, pages_of}
use Rattle.vf_pages.proofs.Lookups.{set-is-put, insert-is-put, held-place, entry-gap}
use Rattle.vf_pages.proofs.install.put_page.Goals as goal

pub returns-in-Ok-clause-put : goal.returns-in-Ok-clause-put
returns-in-Ok-clause-put c =
    let place = subst (λ (hs : List Held). IsPlace c.args.one.page.0 (pages_of hs) c.in-Ok.place) c.deref.ensures.value c.in-Ok.ensures in
    rw c.replace.ensures.after (set-is-put c.args.held.now.items c.in-Ok.place c.args.one c.args.one c.requires.sorted place)

pub returns-in-Ok-clause-old : goal.returns-in-Ok-clause-old
returns-in-Ok-clause-old c =
    let place = subst (λ (hs : List Held). IsPlace c.args.one.page.0 (pages_of hs) c.in-Ok.place) c.deref.ensures.value c.in-Ok.ensures in
    sym (held-place c.args.held.now.items c.in-Ok.place c.args.one.page.0 c.index_mut.result.now c.requires.sorted place
    ∙ ap (λ (h : Held). Some (page_of h)) (sym c.index_mut.ensures.value ∙ sym c.replace.ensures.value))

pub returns-in-Err-clause-put : goal.returns-in-Err-clause-put
returns-in-Err-clause-put c =
    let gap = subst (λ (hs : List Held). IsGap c.args.one.page.0 (pages_of hs) c.in-Err.place) c.deref.ensures.value c.in-Err.ensures in
    let fits = c.insert.ensures.succeeds c.requires.room in
    rw (c.insert.ensures.items, fits) (insert-is-put c.args.held.now.items c.in-Err.place c.args.one gap)

pub returns-in-Err-clause-old : goal.returns-in-Err-clause-old
returns-in-Err-clause-old c =
    let gap = subst (λ (hs : List Held). IsGap c.args.one.page.0 (pages_of hs) c.in-Err.place) c.deref.ensures.value c.in-Err.ensures in
    sym (entry-gap (pages_of c.args.held.now.items) c.in-Err.place c.args.one.page.0 gap)
