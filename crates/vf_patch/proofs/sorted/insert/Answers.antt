use Rattle.std.proofs.Common.{sym, subst}
use Rattle.vf_patch.specs.Sorted.{IsPut}
use Rattle.vf_patch.proofs.SortedLemmas.{insert-is-put}
use Rattle.vf_patch.proofs.sorted.insert.Goals as goal

pub returns-clause-ok : goal.returns-clause-ok
returns-clause-ok c =
    subst (IsPut c.args.at c.args.word c.args.writes.now.items) (sym c.in_ok-insert.ensures.items) (insert-is-put c.args.writes.now.items c.args.place c.args.at c.args.word c.requires)
