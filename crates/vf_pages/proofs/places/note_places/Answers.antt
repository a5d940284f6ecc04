use Rattle.std.proofs.Common.{◌≡◌, ◌<◌, length, sym, ap, ◌∙◌, subst, arith}
use Rattle.vf_frames.specs.Numbers.{has}
use Rattle.vf_pages.specs.declared.held.Held.{Held}
use Rattle.vf_pages.specs.Pages.{pages_in, page_limit}
use Rattle.vf_pages.specs.Views.{pages_of}
use Rattle.vf_pages.proofs.Entries.{rises-length}
use Rattle.vf_pages.proofs.Lookups.{length-pages, length-numbers, page-number}
use Rattle.vf_pages.proofs.Tables.{IsFilled, filled-none, filled-more, filled-all, has-at}
use Rattle.vf_pages.proofs.places.note_places.Goals as goal

pub overflow_cast-i : goal.overflow_cast-i
overflow_cast-i c =
    let held = c.args.held.now.items in
    omega (arith, rises-length 0 page_limit (pages_in (pages_of held)) c.requires.sorted (omega arith), length-numbers (pages_of held), length-pages held)

pub loop-i-init : goal.loop-i-init
loop-i-init c = filled-none c.args.places.now.items (pages_of c.args.held.now.items) c.requires.known

pub returns-clause-table : goal.returns-clause-table
returns-clause-table c =
    let held = c.args.held.now.items in
    let all : c.loop-i.i ≡ length (pages_of held) = omega (arith, c.loop-i-test.false, c.loop-i.auto.i-end, c.len-i-end.ensures, length-pages held) in
    filled-all (length c.args.places.now.items) c.loop-i.places.items (pages_of held) c.requires.sorted c.requires.fits
    (subst (λ n. IsFilled (length c.args.places.now.items) n c.loop-i.places.items (pages_of held)) all c.loop-i.invariant)

pub index_mut-requires : goal.index_mut-requires
index_mut-requires c =
    let held = c.args.held.now.items in
    let i = c.loop-i.i in
    let one = c.index.result.now in
    let within : i < length held = omega (arith, c.loop-i-test.true, c.len-i-end.ensures) in
    let is = ap (λ (h : Held). h.page.0) c.index.ensures ∙ sym (page-number held i one within) in
    let there = has-at (pages_in (pages_of held)) i (omega (arith, within, length-numbers (pages_of held), length-pages held)) in
    omega (arith, c.requires.fits one.page.0 (ap (λ n. has n (pages_in (pages_of held))) is ∙ there), c.loop-i.invariant.long)

pub loop-i-preserved : goal.loop-i-preserved
loop-i-preserved c =
    let held = c.args.held.now.items in
    let i = c.loop-i.i in
    let one = c.index.result.now in
    let within : i < length held = omega (arith, c.loop-i-test.true, c.len-i-end.ensures) in
    let is = ap (λ (h : Held). h.page.0) c.index.ensures ∙ sym (page-number held i one within) in
    let there = has-at (pages_in (pages_of held)) i (omega (arith, within, length-numbers (pages_of held), length-pages held)) in
    filled-more (length c.args.places.now.items) i one.page.0 c.loop-i.places.items (pages_of held) c.requires.sorted (omega (arith, within, length-pages held)) is
    (c.requires.fits one.page.0 (ap (λ n. has n (pages_in (pages_of held))) is ∙ there)) c.loop-i.invariant
