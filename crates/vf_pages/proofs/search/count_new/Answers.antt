use Rattle.std.proofs.Common.{ℕ, ◌/◌, length, map, sym, ap, ◌∙◌, arith}
use Rattle.vf_frames.specs.Numbers.{rises}
use Rattle.vf_pages.specs.Pages.{entry}
use Rattle.vf_pages.specs.Views.{pages_of}
use Rattle.vf_pages.specs.Writes.{address, beyond, touches, written_pages}
use Rattle.vf_pages.specs.Needs.{is_new, new_pages}
use Rattle.vf_pages.proofs.Groups.{beyond-rises}
use Rattle.vf_pages.proofs.Progress.{first-pages, first-shorter, first-beyond, first-touched}
use Rattle.vf_pages.proofs.Lookups.{is_new-le}
use Rattle.vf_pages.proofs.search.count_new.Goals as goal

pub overflow_add-count : goal.overflow_add-count
overflow_add-count c =
    let one = is_new-le (entry c.page_of_address-page.result (pages_of c.args.held.now)) in
    omega (arith, c.loop-first.invariant.limit, c.new_count-count.ensures, one)

pub loop-first-preserved : goal.loop-first-preserved
loop-first-preserved c =
    let first = c.in-Some.first.now in
    let rest = c.loop-first.rest.now in
    let pages = pages_of c.args.held.now in
    let p : ℕ = first.at / 64 in
    let at = c.in-Some.ensures.value in
    let inv = c.loop-first.invariant in
    let page = c.page_of_address-page.ensures.page in
    let more = c.split_page.ensures.beyond ∙ ap (λ n. beyond n rest) page in
    let split = ap (new_pages pages) (first-pages 0 c.args.words rest first inv.rising at) in
    let left = ap (λ xs. new_pages pages (written_pages xs)) more in
    let new = c.new_count-count.ensures ∙ ap (λ n. is_new (entry n pages)) page in
    let one = is_new-le (entry p pages) in
    let passed = inv.passed p (first-touched rest first at) in
    record {
      rising = ap (λ xs. rises 0 c.args.words (map address xs)) more ∙ beyond-rises p 0 c.args.words rest inv.rising;
      counted = omega (arith, inv.counted, split, left, new);
      passed = λ q t. omega (arith, passed, new, one, first-beyond 0 c.args.words rest first inv.rising at q (ap (touches q) (sym more) ∙ t));
      limit = omega (arith, passed, new, one, page, c.page_of_address-page.ensures.limit);
    }

pub loop-first-smaller : goal.loop-first-smaller
loop-first-smaller c =
    let first = c.in-Some.first.now in
    let rest = c.loop-first.rest.now in
    omega (arith, first-shorter rest first c.in-Some.ensures.value, ap length (c.split_page.ensures.beyond ∙ ap (λ n. beyond n rest) c.page_of_address-page.ensures.page))
