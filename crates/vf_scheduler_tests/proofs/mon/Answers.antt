use Rattle.vf_scheduler_tests.proofs.Tables.{mon_runs}
use Rattle.vf_scheduler_tests.proofs.mon.Goals as goal

pub returns : goal.returns
returns c = mon_runs
