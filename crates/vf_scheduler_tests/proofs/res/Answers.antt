use Rattle.vf_scheduler_tests.proofs.Tables.{res_runs}
use Rattle.vf_scheduler_tests.proofs.res.Goals as goal

pub returns : goal.returns
returns c = res_runs
