use Rattle.std.proofs.Common.{ℕ, ◌/◌, ◌%◌, List, length, slice_index, sym, ap, ◌∙◌, arith}
use Rattle.std.specs.Prelude.{Some}
use Rattle.std.specs.Arc.{arc_value}
use Rattle.std.proofs.lemmas.Grind.{get_or_default_zero}
use Rattle.vf_pages.specs.declared.held.Held.{Held}
use Rattle.vf_pages.specs.Pages.{Pages, word_or, word_of}
use Rattle.vf_pages.specs.Views.{page_of, pages_of}
use Rattle.vf_pages.proofs.Lookups.{held-place, length-pages}
use Rattle.vf_pages.proofs.Tables.{table-none}
use Rattle.vf_pages.proofs.paged.Paged.read.Goals as goal

pub returns-in_default : goal.returns-in_default
returns-in_default g c =
    let at = c.args.at in
    let p : ℕ = at / 64 in
    let held = c.self.inside.held.items in
    let zero = (arc_value c.self.inside.zero).items in
    let none = c.in_default.ensures.none in
    let bound = ap (λ (m : Pages). length m.zero) c.self.view_is in
    let word = rw c.deref.ensures at c.index.ensures in
    word ∙ get_or_default_zero zero at _ (omega (arith, bound)) ∙ sym (ap (word_or zero at) (table-none c.self.inside.places.items (pages_of held) p c.self.invariant.2 none))
    ∙ ap (λ (m : Pages). word_of m at) c.self.view_is

pub index-requires-2 : goal.index-requires-2
index-requires-2 g c =
    let place = c.self.invariant.2.finds (c.args.at / 64) c.in-Some.place c.in-Some.ensures.some in
    omega (arith, place.within, length-pages c.self.inside.held.items)

pub returns : goal.returns
returns g c =
    let at = c.args.at in
    let p : ℕ = at / 64 in
    let held = c.self.inside.held.items in
    let zero = (arc_value c.self.inside.zero).items in
    let one = c.index-2.result.now in
    let place = c.self.invariant.2.finds p c.in-Some.place c.in-Some.ensures.some in
    let found = held-place held c.in-Some.place p one c.self.invariant.0 place ∙ ap (λ (h : Held). Some (page_of h)) (sym c.index-2.ensures) in
    c.word_in.ensures ∙ ap (λ (ws : List ℕ). slice_index ws (at % 64)) c.words.ensures ∙ sym (ap (word_or zero at) found)
    ∙ ap (λ (m : Pages). word_of m at) c.self.view_is
