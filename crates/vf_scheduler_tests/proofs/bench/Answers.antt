use Rattle.vf_scheduler_tests.proofs.Tables.{bench_runs}
use Rattle.vf_scheduler_tests.proofs.bench.Goals as goal

pub returns : goal.returns
returns c = bench_runs
