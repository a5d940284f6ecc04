use Rattle.std.proofs.Common.{sym, subst}
use Rattle.vf_patch.specs.Sorted.{IsPut}
use Rattle.vf_patch.proofs.SortedLemmas.{append-is-put}
use Rattle.vf_patch.proofs.sorted.put.Goals as goal

pub returns-then-len-capacity-clause-ok : goal.returns-then-len-capacity-clause-ok
returns-then-len-capacity-clause-ok c =
    subst (IsPut c.args.at c.args.word c.args.writes.now.items) (sym c.push_reserved.ensures.items)
    (append-is-put c.args.writes.now.items c.args.at c.args.word (c.follows.ensures c.if-follows.true))
