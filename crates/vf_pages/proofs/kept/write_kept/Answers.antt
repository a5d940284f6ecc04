use Rattle.std.proofs.Common.{ℕ, ◌/◌, length, map, sym, ap, ◌∙◌, subst, arith, ⊎_elim, inl, inr}
use Rattle.vf_frames.specs.Numbers.{rises}
use Rattle.vf_pages.specs.Pages.{page_limit}
use Rattle.vf_pages.specs.Views.{pages_of, page_of}
use Rattle.vf_pages.specs.Writes.{AllOn, address, touches}
use Rattle.vf_pages.specs.InPlace.{in_place}
use Rattle.vf_pages.proofs.Groups.{AllOn-own, beyond-rises}
use Rattle.vf_pages.proofs.Lookups.{length-pages}
use Rattle.vf_pages.proofs.Progress.{first-shorter, first-touched, first-beyond, beyond-touched, none-left}
use Rattle.vf_pages.proofs.InPlaces.{in_place-none, in_place-skip}
use Rattle.vf_pages.proofs.Tables.{table-numbers, table-none}
use Rattle.vf_pages.proofs.Writing.{page-at-place, written-entry, written-pages, written-numbers, written-more, still-taken}
use Rattle.vf_pages.proofs.kept.write_kept.Goals as goal

pub write_page-requires-clause-place : goal.write_page-requires-clause-place
write_page-requires-clause-place c =
    let inv = c.loop-first.invariant in
    let p : ℕ = c.in-Some.first.now.at / 64 in
    let table = table-numbers c.args.places.now.items (pages_of c.args.held.now.items) (pages_of c.loop-first.held.items) (sym inv.numbers) c.requires.table in
    let place = table.finds p _ c.in-Some-kept_place.ensures.some.0 in
    omega (arith, place.within, length-pages c.loop-first.held.items)

pub write_page-requires-clause-taken : goal.write_page-requires-clause-taken
write_page-requires-clause-taken c = λ h got.
    let inv = c.loop-first.invariant in
    let p : ℕ = c.in-Some.first.now.at / 64 in
    let table = table-numbers c.args.places.now.items (pages_of c.args.held.now.items) (pages_of c.loop-first.held.items) (sym inv.numbers) c.requires.table in
    let place = table.finds p _ c.in-Some-kept_place.ensures.some.0 in
    inv.taken p (first-touched c.loop-first.rest.now c.in-Some.first.now c.in-Some.ensures.value) _ h got (page-at-place c.loop-first.held.items _ h p got place) c.in-Some-kept_place.ensures.some.1

pub write_page-requires-clause-own : goal.write_page-requires-clause-own
write_page-requires-clause-own c =
    let p : ℕ = c.in-Some.first.now.at / 64 in
    subst (λ ws. AllOn p ws) (sym c.split_page.ensures.own) (AllOn-own p c.loop-first.rest.now)

pub loop-first-smaller : goal.loop-first-smaller
loop-first-smaller c =
    omega (arith, first-shorter c.loop-first.rest.now c.in-Some.first.now c.in-Some.ensures.value, ap length c.split_page.ensures.beyond)

pub loop-first-smaller-in-Some-kept_place : goal.loop-first-smaller-in-Some-kept_place
loop-first-smaller-in-Some-kept_place c =
    omega (arith, first-shorter c.loop-first.rest.now c.in-Some.first.now c.in-Some.ensures.value, ap length c.split_page.ensures.beyond)

pub loop-first-preserved-in-Some-kept_place : goal.loop-first-preserved-in-Some-kept_place
loop-first-preserved-in-Some-kept_place c =
    let inv = c.loop-first.invariant in
    let f = c.in-Some.first.now in
    let p : ℕ = f.at / 64 in
    let rest = c.loop-first.rest.now in
    let hs = c.loop-first.held.items in
    let hs' = c.write_page.new.held.items in
    let fresh = pages_of c.args.fresh.now.items in
    let is = c.split_page.ensures.own in
    let left = c.split_page.ensures.beyond in
    let sorted = ap (rises 0 page_limit) inv.numbers ∙ c.requires.sorted in
    let table = table-numbers c.args.places.now.items (pages_of c.args.held.now.items) (pages_of hs) (sym inv.numbers) c.requires.table in
    let place = table.finds p _ c.in-Some-kept_place.ensures.some.0 in
    let none = c.in-Some-kept_place.ensures.some.1 in
    let w = c.write_page.ensures.written in
    record {
      rising = ap (λ xs. rises 0 c.args.words (map address xs)) left ∙ beyond-rises p 0 c.args.words rest inv.rising;
      capacity = c.write_page.ensures.capacity ∙ inv.capacity;
      numbers = written-numbers _ p _ hs hs' w sorted place ∙ inv.numbers;
      written = ap (map (in_place c.split_page.result.1.now fresh)) (written-pages _ p _ hs hs' w sorted place)
          ∙ written-more c.args.words rest f fresh (pages_of hs) (page_of w.old) _ _ inv.rising c.in-Some.ensures.value sorted is left (written-entry _ p _ hs hs' w sorted place) none
          ∙ inv.written;
      taken = λ q t.
          let behind = ap (λ xs. touches q xs) (sym left) ∙ t in
          still-taken _ p _ hs hs' w sorted place fresh q (first-beyond 0 c.args.words rest f inv.rising c.in-Some.ensures.value q behind)
          (inv.taken q (beyond-touched p q rest behind));
    }

pub loop-first-preserved : goal.loop-first-preserved
loop-first-preserved c =
    let inv = c.loop-first.invariant in
    let f = c.in-Some.first.now in
    let p : ℕ = f.at / 64 in
    let rest = c.loop-first.rest.now in
    let hs = c.loop-first.held.items in
    let fresh = pages_of c.args.fresh.now.items in
    let left = c.split_page.ensures.beyond in
    let table = table-numbers c.args.places.now.items (pages_of c.args.held.now.items) (pages_of hs) (sym inv.numbers) c.requires.table in
    record {
      rising = ap (λ xs. rises 0 c.args.words (map address xs)) left ∙ beyond-rises p 0 c.args.words rest inv.rising;
      capacity = inv.capacity;
      numbers = inv.numbers;
      written = ap (λ xs. map (in_place xs fresh) (pages_of hs)) left
          ∙ in_place-skip p rest fresh (pages_of hs) (⊎_elim (λ zero. inl (table-none c.args.places.now.items (pages_of hs) p table zero)) (λ some. inr some) c.in_default-kept_place.ensures.none)
          ∙ inv.written;
      taken = λ q t. inv.taken q (beyond-touched p q rest (ap (λ xs. touches q xs) (sym left) ∙ t));
    }

pub returns-clause-written : goal.returns-clause-written
returns-clause-written c =
    let fresh = pages_of c.args.fresh.now.items in
    sym (ap (λ ws. map (in_place ws fresh) (pages_of c.loop-first.held.items)) (none-left c.loop-first.rest.now c.in_default.ensures.value) ∙ in_place-none fresh (pages_of c.loop-first.held.items))
    ∙ c.loop-first.invariant.written
