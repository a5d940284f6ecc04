use Rattle.std.proofs.Common.{sym, arith}
use Rattle.vf_expression.specs.Reading.{expr_at}
use Rattle.vf_expression.proofs.Depth.{more_step, chain_step}
use Rattle.vf_expression.proofs.read.+expressions.Goals as goal

pub more-loop-preserved : goal.more-loop-preserved
more-loop-preserved t c = record {
  same = more_step (expr_at c.args.depth) _ c.loop.counter c.loop.items c.loop.deepest c.loop.rest.now c.in-Some.next.now (c.in_ok-item.item, c.in_ok-item.deep, c.in_ok-item.following.now)
      c.push-in-loop.new.self c.max-deepest.result _ c.loop-test.true (sym c.in-Some.ensures) c.in_ok-item.ensures.value c.in_ok-push-2.ensures.ok c.max-deepest.ensures c.loop.invariant.same;
  small = omega (arith, c.max-deepest.ensures, c.in_ok-item.ensures.small);
}

pub chain-loop-preserved : goal.chain-loop-preserved
chain-loop-preserved t c = record {
  same = chain_step (expr_at c.args.depth) c.args.depth _ c.loop.counter c.args.level c.loop.left c.loop.deepest c.loop.rest.now (c.in-Some.op, c.in-Some.following.now)
      (c.in_ok-left.field-0-0, c.in_ok-left.field-0-1, c.in_ok-left.field-0-2.now) _ c.loop-test.true (sym c.in-Some.ensures) c.in_ok-left.ensures.value c.loop.invariant.same;
  small = c.in_ok-left.ensures.small;
}
