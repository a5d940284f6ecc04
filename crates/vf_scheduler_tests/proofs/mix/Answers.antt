use Rattle.vf_scheduler_tests.proofs.Tables.{mix_runs}
use Rattle.vf_scheduler_tests.proofs.mix.Goals as goal

pub returns : goal.returns
returns c = mix_runs
