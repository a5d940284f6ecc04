use Rattle.std.proofs.Common.{◌≡◌, Some, None, codes, sym, arith}
use Rattle.std.proofs.lemmas.Result.{err_from_is_err_and}
use Rattle.vf_early.specs.Reading.{after, statement_at}
use Rattle.vf_early.proofs.Depth.{block_ends, block_step, block_fails}
use Rattle.vf_early.proofs.read.+statements.Goals as goal

pub block-returns-in-Some-clause-value : goal.block-returns-in-Some-clause-value
block-returns-in-Some-clause-value t c =
    let statement = statement_at c.args.variable.now c.args.depth in
    let e : after (codes "end") c.loop.rest.now ≡ Some c.in-Some.behind.now = sym c.in-Some.ensures in
    block_ends statement c.args.variable.now _ c.loop.counter c.loop.code.items c.loop.rest.now c.in-Some.behind.now _ c.loop-test.true e c.loop.invariant.same

pub block-returns-in_err-rest-clause-value : goal.block-returns-in_err-rest-clause-value
block-returns-in_err-rest-clause-value t c =
    let statement = statement_at c.args.variable.now c.args.depth in
    let e : after (codes "end") c.loop.rest.now ≡ None = sym c.in_default.ensures in
    let p = err_from_is_err_and c.from_residual.result c.from_residual.ensures.1 in
    rw (p.1, p.2) (block_fails statement c.args.variable.now c.in_err-rest.field-0.0 _ c.loop.counter c.loop.code.items c.loop.rest.now _ c.loop-test.true e c.in_err-rest.ensures.value c.loop.invariant.same)

pub block-loop-preserved : goal.block-loop-preserved
block-loop-preserved t c =
    let statement = statement_at c.args.variable.now c.args.depth in
    let e : after (codes "end") c.loop.rest.now ≡ None = sym c.in_default.ensures in
    record {
      same = block_step statement c.args.variable.now _ c.loop.counter c.loop.code.items c.loop.rest.now c.statement.new.code.items c.in_ok-rest.rest.now _ c.loop-test.true e c.in_ok-rest.ensures.value c.loop.invariant.same;
      grows = omega (arith, c.in_ok-rest.ensures.grows);
      fits = omega (arith, c.in_ok-rest.ensures.grows);
    }
