use Rattle.std.proofs.Common.{◌≡◌, None, codes, sym, arith}
use Rattle.vf_statement.specs.Reading.{after_word, stmt_at}
use Rattle.vf_statement.proofs.Depth.{stmts_step, citems_step}
use Rattle.vf_statement.proofs.read.+statements.Goals as goal

pub stmts-loop-preserved : goal.stmts-loop-preserved
stmts-loop-preserved t c =
    let goes : after_word (codes "end") c.loop.rest.now ≡ None = sym c.in_default.ensures in
    record {
      same = stmts_step c.args.depth (stmt_at c.args.depth) _ c.loop.counter c.loop.items c.loop.deepest c.loop.rest.now (c.in_ok-item.item, c.in_ok-item.deep, c.in_ok-item.following.now)
          c.push.new.self c.max-deepest.result _ c.loop-test.true goes c.in_ok-item.ensures.value c.in_ok-push.ensures.ok c.max-deepest.ensures c.loop.invariant.same;
      small = omega (arith, c.max-deepest.ensures, c.in_ok-item.ensures.small);
    }

pub more_citems-loop-preserved : goal.more_citems-loop-preserved
more_citems-loop-preserved t c =
    let goes : after_word (codes "endcase") c.loop.rest.now ≡ None = sym c.in_default.ensures in
    record {
      same = citems_step c.args.depth (stmt_at c.args.depth) _ c.loop.counter c.loop.seen c.loop.items c.loop.deepest c.loop.rest.now (c.in_ok-item.item, c.in_ok-item.now, c.in_ok-item.deep, c.in_ok-item.following.now)
          c.push-in-loop.new.self c.max-deepest.result _ c.loop-test.true goes c.in_ok-item.ensures.value c.in_ok-push-2.ensures.ok c.max-deepest.ensures c.loop.invariant.same;
      small = omega (arith, c.max-deepest.ensures, c.in_ok-item.ensures.small);
    }
