use Rattle.std.proofs.Common.{ℕ, ◌/◌, [], refl, sym, ap, ◌∙◌, arith}
use Rattle.std.specs.Prelude.{Some}
use Rattle.vf_pages.specs.declared.held.Held.{Held}
use Rattle.vf_pages.specs.Views.{page_of, pages_of}
use Rattle.vf_pages.proofs.Lookups.{held-place, length-pages}
use Rattle.vf_pages.proofs.Goes.{goes-alone, owned-has}
use Rattle.vf_pages.proofs.Steps.{gathered-none}
use Rattle.vf_pages.proofs.OnePage.{match-both, at-get, all-on, noted-look, written-alone}
use Rattle.vf_pages.proofs.alone.write_alone.Goals as goal

pub index-requires : goal.index-requires
index-requires g c =
    let p : ℕ = c.in-Some.first.now.at / 64 in
    let place = c.requires.table.finds p c.in-Some-place_in.place c.in-Some-place_in.ensures.some in
    omega (arith, place.within, length-pages c.args.held.now.items)

pub write_cell-requires-clause-place : goal.write_cell-requires-clause-place
write_cell-requires-clause-place g c =
    let p : ℕ = c.in-Some.first.now.at / 64 in
    let place = c.requires.table.finds p c.in-Some-place_in.place c.in-Some-place_in.ensures.some in
    omega (arith, place.within, length-pages c.args.held.now.items)

pub write_cell-requires-clause-own : goal.write_cell-requires-clause-own
write_cell-requires-clause-own g c =
    all-on c.args.words (c.in-Some.first.now.at / 64) c.args.writes.now c.in-Some.first.now c.in-Some-last.last.now c.requires.writes
    c.in-Some.ensures.value refl c.in-Some-last.ensures.value (omega (arith, c.if-last-page.false))

pub look-requires-clause-there : goal.look-requires-clause-there
look-requires-clause-there g c =
    let held = c.args.held.now.items in
    let p : ℕ = c.in-Some.first.now.at / 64 in
    let one = c.index.result.now in
    let place = c.requires.table.finds p c.in-Some-place_in.place c.in-Some-place_in.ensures.some in
    let owns = gathered-none [] (pages_of held) (g.F.Frames.numbers c.args.pool.now) (g.F.Frames.seen c.args.token.now) c.requires.held in
    owned-has (pages_of held) [] _ p (page_of one) owns.owns
    (held-place held _ p one c.requires.sorted place ∙ ap (λ (h : Held). Some (page_of h)) (sym c.index.ensures))

pub returns-clause-noted : goal.returns-clause-noted
returns-clause-noted g c = noted-look _ _ _ _ c.look.ensures.looked

pub returns-clause-pages : goal.returns-clause-pages
returns-clause-pages g c =
    let held = c.args.held.now.items in
    let f = c.in-Some.first.now in
    let p : ℕ = f.at / 64 in
    let place = c.requires.table.finds p c.in-Some-place_in.place c.in-Some-place_in.ensures.some in
    let on = all-on c.args.words p c.args.writes.now f c.in-Some-last.last.now c.requires.writes
    c.in-Some.ensures.value refl c.in-Some-last.ensures.value (omega (arith, c.if-last-page.false)) in
    match-both c.write_cell.result
    (λ w. written-alone c.args.words c.in-Some-place_in.place c.args.writes.now f held _ c.requires.writes c.in-Some.ensures.value c.requires.sorted on place w)
    (λ same. same)
    c.write_cell.ensures

pub returns-clause-gathered : goal.returns-clause-gathered
returns-clause-gathered g c =
    let held = c.args.held.now.items in
    let pages = pages_of held in
    let f = c.in-Some.first.now in
    let p : ℕ = f.at / 64 in
    let ws = c.args.writes.now in
    let a = g.F.Frames.numbers c.args.pool.now in
    let now = g.F.Frames.seen c.args.token.now in
    let one = c.index.result.now in
    let place = c.requires.table.finds p c.in-Some-place_in.place c.in-Some-place_in.ensures.some in
    let on = all-on c.args.words p ws f c.in-Some-last.last.now c.requires.writes
    c.in-Some.ensures.value refl c.in-Some-last.ensures.value (omega (arith, c.if-last-page.false)) in
    let found = held-place held _ p one c.requires.sorted place ∙ ap (λ (h : Held). Some (page_of h)) (sym c.index.ensures) in
    let none = gathered-none [] pages a now c.requires.held in
    match-both c.write_cell.result
    (λ w. λ zero. goes-alone zero pages p a now [] ws (page_of one) _ _ (at-get ws 0 f c.in-Some.ensures.value).0 on found
    c.if-not-look.ensures.looked c.look.ensures.kept c.if-not-look.ensures.alone (owned-has pages [] _ p (page_of one) none.owns found)
    [] a now (λ q t. absurd (cc)) (gathered-none zero pages a now c.requires.held))
    (λ same. tt)
    c.write_cell.ensures
