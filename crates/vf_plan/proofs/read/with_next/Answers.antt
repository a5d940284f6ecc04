use Rattle.serde_json.specs.View.{view}
use Rattle.vf_plan.proofs.NodeLemmas.{node_after_is_behind}
use Rattle.vf_plan.proofs.read.with_next.Goals as goal

pub with-requires-clause-fits : goal.with-requires-clause-fits
with-requires-clause-fits c = node_after_is_behind c.args.version c.args.reader (view c.args.value.now) c.in-Ok.node c.in-Ok.ensures
