use Rattle.vf_queue.proofs.WriteLemmas.{one_write, ok_both}
use Rattle.vf_queue.proofs.writes.put.Goals as goal

pub returns : goal.returns
returns c = ok_both c.set.result (one_write c.args.patch.now c.set.new.self c.args.at c.args.word) c.set.ensures.word c.set.ensures.inside
