use Rattle.vf_queue.proofs.WriteLemmas.{one_write, when_ok}
use Rattle.vf_queue.proofs.writes.put_front.Goals as goal

pub returns : goal.returns
returns c =
    let ok = c.set-written.ensures.front c.requires in
    one_write c.args.patch.now c.set-written.new.self c.args.at c.args.word (when_ok c.set-written.result ok c.set-written.ensures.word)
    (when_ok c.set-written.result ok c.set-written.ensures.inside)
