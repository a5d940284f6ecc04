use Rattle.vf_scheduler_tests.proofs.Tables.{flood_runs}
use Rattle.vf_scheduler_tests.proofs.flood.Goals as goal

pub returns : goal.returns
returns c = flood_runs
