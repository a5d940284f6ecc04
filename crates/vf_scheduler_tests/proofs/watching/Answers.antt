use Rattle.vf_scheduler_tests.proofs.WatchingTables.{tables_are}
use Rattle.vf_scheduler_tests.proofs.watching.Goals as goal

pub returns : goal.returns
returns c = tables_are
