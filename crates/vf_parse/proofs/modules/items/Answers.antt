use Rattle.std.proofs.Common.{sym}
use Rattle.vf_item.specs.Reading.{item_at}
use Rattle.vf_item.proofs.CallerLemmas.{row_step}
use Rattle.vf_parse.specs.Reading.{before_end}
use Rattle.vf_parse.proofs.modules.items.Goals as goal

pub loop-preserved : goal.loop-preserved
loop-preserved c =
    row_step before_end item_at _ c.loop.counter c.loop.items c.loop.rest.now c.in-Some.next.now (c.in_ok-tree.tree, c.in_ok-tree.following.now) c.push.new.self _ c.loop-test.true (sym c.in-Some.ensures) c.in_ok-tree.ensures c.in_ok-push.ensures.ok c.loop.invariant
