use Rattle.std.proofs.Common.{◌-◌, ap, ◌∙◌, arith}
use Rattle.std.proofs.lemmas.Bool.{ltb-true}
use Rattle.std.proofs.lemmas.List.{get_or_default}
use Rattle.vf_base.specs.declared.write.Write.{Write}
use Rattle.vf_patch.specs.Sorted.{no_write}
use Rattle.vf_patch.proofs.SortedLemmas.{last-gap}
use Rattle.vf_patch.proofs.sorted.follows.Goals as goal

pub returns-else-len-eq0 : goal.returns-else-len-eq0
returns-else-len-eq0 c less =
    let ws = c.args.writes.now.items in
    let last = c.len-len.result - 1 in
    let there = ap (λ (w : Write). w.at) (c.index.ensures ∙ get_or_default ws last c.index.result.now no_write (omega arith)) in
    last-gap 16 ws c.args.at last c.requires (omega arith) (omega (arith, there, ltb-true c.index.result.now.at c.args.at less))
