use Rattle.std.proofs.Common.{refl}
use Rattle.std.proofs.lemmas.Result.{on_ok_weaker}
use Rattle.vf_scheduler.specs.State.{Halted}
use Rattle.vf_queue.proofs.threads.halt.Goals as goal

pub returns : goal.returns
returns c = on_ok_weaker c.rest.result (λ rest base s sound running holds. rest base s Halted refl refl sound running holds) c.rest.ensures
