use Rattle.std.proofs.Common.{sym}
use Rattle.vf_item.proofs.CallerLemmas.{row_step}
use Rattle.vf_parse.specs.Reading.{module_at, some_tokens}
use Rattle.vf_parse.proofs.modules.modules.Goals as goal

pub loop-preserved : goal.loop-preserved
loop-preserved c =
    row_step some_tokens module_at _ c.loop.counter c.loop.modules c.loop.rest.now c.in-Some.next.now (c.in_ok-tree.tree, c.in_ok-tree.following.now) c.push-in-loop.new.self _ c.loop-test.true (sym c.in-Some.ensures) c.in_ok-tree.ensures c.in_ok-push-2.ensures.ok c.loop.invariant
