use Rattle.vf_scheduler_tests.proofs.Tables.{swap_runs}
use Rattle.vf_scheduler_tests.proofs.swap.Goals as goal

pub returns : goal.returns
returns c = swap_runs
