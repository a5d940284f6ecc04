use Rattle.std.proofs.Common.{sym, codes}
use Rattle.vf_expression.specs.Reading.{after}
use Rattle.vf_item.proofs.RowLemmas.{row_step}
use Rattle.vf_item.proofs.rows.more.Goals as goal

pub loop-preserved : goal.loop-preserved
loop-preserved g c =
    row_step (after (codes ",")) g.P.Piece.reads _ c.loop.counter c.loop.items c.loop.rest.now c.in-Some.next.now (c.in_ok-item.item, c.in_ok-item.following.now) c.push.new.self _ c.loop-test.true (sym c.in-Some.ensures) c.in_ok-item.ensures c.in_ok-push.ensures.ok c.loop.invariant
