use Rattle.std.proofs.Common.{arith}
use Rattle.vf_frames.proofs.ListLemmas.{last-is}
use Rattle.vf_frames.proofs.tally.top.Goals as goal

pub returns : goal.returns
returns c = last-is c.args.free.now.items _ _ _ (omega arith) (omega arith) c.index.ensures
