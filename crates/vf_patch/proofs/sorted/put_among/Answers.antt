use Rattle.vf_patch.proofs.SortedLemmas.{set-is-put}
use Rattle.vf_patch.proofs.sorted.put_among.Goals as goal

pub returns-in-Ok-clause-ok : goal.returns-in-Ok-clause-ok
returns-in-Ok-clause-ok c = set-is-put 16 c.args.writes.now.items c.in-Ok.place c.args.at c.args.word c.requires c.in-Ok.ensures
