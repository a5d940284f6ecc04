use Rattle.vf_scheduler_tests.proofs.Tables.{cases_are}
use Rattle.vf_scheduler_tests.proofs.cases.Goals as goal

pub returns : goal.returns
returns c = cases_are
