use Rattle.std.proofs.Common.{◌+◌, ◌-◌, ◌/◌, ◌<◌, length, ◌∙◌, arith}
use Rattle.vf_pages.specs.Pages.{pages_in, page_limit}
use Rattle.vf_pages.specs.Views.{pages_of}
use Rattle.vf_pages.proofs.Lookups.{length-pages, length-numbers, page-number, find-up, find-down}
use Rattle.vf_pages.proofs.search.find.Goals as goal

pub returns-then-found-page : goal.returns-then-found-page
returns-then-found-page c =
    let held = c.args.held.now in
    let within : c.loop-low.low + (c.loop-low.high - c.loop-low.low) / 2 < length held = omega arith in
    record {
      within = omega (arith, within, length-pages held);
      number = page-number held _ c.index-held-middle.result within ∙ c.if-found-page.true;
    }

pub loop-low-preserved-then-found-page-2 : goal.loop-low-preserved-then-found-page-2
loop-low-preserved-then-found-page-2 c =
    let held = c.args.held.now in
    let middle = c.loop-low.low + (c.loop-low.high - c.loop-low.low) / 2 in
    let within : middle < length held = omega arith in
    let number = page-number held middle c.index-held-middle.result within in
    record {
      order = omega arith;
      within = omega arith;
      below = find-up (pages_in (pages_of held)) page_limit middle c.args.page c.requires (omega (arith, within, length-pages held, length-numbers (pages_of held))) (omega (arith, number));
      above = c.loop-low.invariant.above;
    }

pub loop-low-preserved : goal.loop-low-preserved
loop-low-preserved c =
    let held = c.args.held.now in
    let middle = c.loop-low.low + (c.loop-low.high - c.loop-low.low) / 2 in
    let within : middle < length held = omega arith in
    let number = page-number held middle c.index-held-middle.result within in
    let lens = length-pages held in
    let numbers = length-numbers (pages_of held) in
    record {
      order = omega arith;
      within = omega arith;
      below = c.loop-low.invariant.below;
      above = λ k le lt. find-down (pages_in (pages_of held)) page_limit middle c.args.page c.requires (omega (arith, within)) (omega (arith, number)) k le (omega arith);
    }
