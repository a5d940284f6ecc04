use Rattle.std.proofs.Common.{sym, codes, arith}
use Rattle.vf_expression.specs.Reading.{expr_at, after}
use Rattle.vf_control.specs.Reading.{arg_at}
use Rattle.vf_control.proofs.ListLemmas.{many_step}
use Rattle.vf_control.proofs.calls.more.Goals as goal

pub loop-preserved : goal.loop-preserved
loop-preserved c = record {
  same = many_step (after (codes ",")) (arg_at (expr_at c.args.depth)) _ c.loop.counter c.loop.items c.loop.deepest c.loop.rest.now c.in-Some.next.now (c.in_ok-item.item, c.in_ok-item.deep, c.in_ok-item.following.now)
      c.push-in-loop.new.self c.max-deepest.result _ c.loop-test.true (sym c.in-Some.ensures) c.in_ok-item.ensures.value c.in_ok-push-2.ensures.ok c.max-deepest.ensures c.loop.invariant.same;
  small = omega (arith, c.max-deepest.ensures, c.in_ok-item.ensures.small);
}
