use Rattle.vf_scheduler_tests.proofs.Tables.{wide_runs}
use Rattle.vf_scheduler_tests.proofs.wide.Goals as goal

pub returns : goal.returns
returns c = wide_runs
