use Rattle.std.proofs.lemmas.Result.{on_ok_weaker}
use Rattle.vf_queue.proofs.HoldLemmas.{held_by}
use Rattle.vf_queue.proofs.DueLemmas.{freed_words}
use Rattle.vf_queue.proofs.due.free.Goals as goal

pub returns : goal.returns
returns g c =
    let d = c.args.design.now in
    on_ok_weaker c.put_slot.result (λ put s shape holds. held_by d _ _ _ _ s _ put holds (freed_words d s shape c.args.slot c.requires.slot)) c.put_slot.ensures
