use Rattle.std.proofs.Common.{arith}
use Rattle.vf_elaborated.proofs.CallerLemmas.{link_inside}
use Rattle.vf_queue.proofs.writes.link.Goals as goal

pub read-requires : goal.read-requires
read-requires g c = omega (arith, link_inside c.args.design.now c.args.number c.requires.number, c.link_at.ensures, c.requires.long)
