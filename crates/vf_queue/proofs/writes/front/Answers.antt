use Rattle.std.proofs.Common.{arith}
use Rattle.vf_elaborated.proofs.CallerLemmas.{front_inside}
use Rattle.vf_queue.proofs.writes.front.Goals as goal

pub read-requires : goal.read-requires
read-requires g c = omega (arith, front_inside c.args.design.now, c.requires.at, c.requires.long)
