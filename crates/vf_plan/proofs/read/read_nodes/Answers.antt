use Rattle.std.proofs.Common.{◌∙◌, sym, arith}
use Rattle.vf_plan.proofs.ReaderLemmas.{next_ok, next_err, read_all}
use Rattle.vf_plan.proofs.read.read_nodes.Goals as goal

pub returns-in-Err-clause-nodes : goal.returns-in-Err-clause-nodes
returns-in-Err-clause-nodes c = λ h.
    sym c.loop-value.invariant.0 ∙ next_err c.args.version c.loop-value.reader c.args.values.now c.loop-value.value-index c.value-item.result c.in-Err.fault c.loop-value-test.true c.value-item.is (c.in-Err.ensures.next h)

pub loop-value-preserved : goal.loop-value-preserved
loop-value-preserved c = (
  sym (next_ok c.args.version c.loop-value.reader c.args.values.now c.loop-value.value-index c.value-item.result c.in-Ok.next c.loop-value-test.true c.value-item.is c.in-Ok.ensures.next) ∙ c.loop-value.invariant.0,
  omega (arith, c.in-Ok.ensures.length, c.loop-value.invariant.1),
)

pub returns-clause-nodes : goal.returns-clause-nodes
returns-clause-nodes c = sym c.loop-value.invariant.0 ∙ read_all c.args.version c.loop-value.reader c.args.values.now c.loop-value.value-index c.loop-value-test.false
