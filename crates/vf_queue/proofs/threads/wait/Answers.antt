use Rattle.std.proofs.Common.{refl}
use Rattle.std.proofs.lemmas.Result.{on_ok_weaker}
use Rattle.vf_scheduler.specs.State.{Waiting}
use Rattle.vf_queue.proofs.threads.wait.Goals as goal

pub returns : goal.returns
returns c = on_ok_weaker c.rest.result (λ rest base s sound running holds. rest base s Waiting refl refl sound running holds) c.rest.ensures
