use Rattle.std.proofs.Common.{arith}
use Rattle.vf_machine.proofs.CallerLemmas.{length-written}
use Rattle.vf_patch.proofs.over.OverWords.read.Goals as goal

pub read-requires : goal.read-requires
read-requires g c = omega (arith, c.requires, length-written (g.W.Words.contents c.args.self.now.base.now) c.args.self.now.patch.now)
