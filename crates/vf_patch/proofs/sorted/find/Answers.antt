use Rattle.std.proofs.Common.{◌+◌, ◌-◌, ◌/◌, ◌<◌, ap, ◌∙◌, length, arith}
use Rattle.std.proofs.lemmas.List.{get_or_default}
use Rattle.vf_base.specs.declared.write.Write.{Write}
use Rattle.vf_patch.specs.Sorted.{no_write}
use Rattle.vf_patch.proofs.SortedLemmas.{search-up, search-down}
use Rattle.vf_patch.proofs.sorted.find.Goals as goal

pub loop-low-preserved-then-there-at-2 : goal.loop-low-preserved-then-there-at-2
loop-low-preserved-then-there-at-2 c =
    let ws = c.args.writes.now.items in
    let middle = c.loop-low.low + (c.loop-low.high - c.loop-low.low) / 2 in
    let within : middle < length ws = omega arith in
    let there = ap (λ (w : Write). w.at) (c.index.ensures ∙ get_or_default ws middle c.index.result.now no_write within) in
    record {
      order = omega arith;
      within = omega arith;
      below = search-up 16 ws middle c.args.at c.requires within (omega (arith, there));
      above = c.loop-low.invariant.above;
    }

pub loop-low-preserved : goal.loop-low-preserved
loop-low-preserved c =
    let ws = c.args.writes.now.items in
    let middle = c.loop-low.low + (c.loop-low.high - c.loop-low.low) / 2 in
    let within : middle < length ws = omega arith in
    let there = ap (λ (w : Write). w.at) (c.index.ensures ∙ get_or_default ws middle c.index.result.now no_write within) in
    record {
      order = omega arith;
      within = omega arith;
      below = c.loop-low.invariant.below;
      above = search-down 16 ws middle c.args.at c.requires within (omega (arith, there));
    }
