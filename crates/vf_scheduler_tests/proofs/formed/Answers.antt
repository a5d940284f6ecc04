use Rattle.vf_scheduler_tests.proofs.Tables.{formed_as_said}
use Rattle.vf_scheduler_tests.proofs.formed.Goals as goal

pub returns : goal.returns
returns c = formed_as_said
