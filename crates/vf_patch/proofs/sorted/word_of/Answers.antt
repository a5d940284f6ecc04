use Rattle.std.proofs.Common.{Some, ap, ◌∙◌, sym}
use Rattle.vf_base.specs.declared.write.Write.{Write}
use Rattle.vf_patch.proofs.SortedLemmas.{found-place, found-gap}
use Rattle.vf_patch.proofs.sorted.word_of.Goals as goal

pub returns-in-Ok : goal.returns-in-Ok
returns-in-Ok c =
    ap (λ (w : Write). Some w.word) c.index.ensures
    ∙ sym (found-place 16 c.args.writes.now.items c.in-Ok.place c.args.at c.index.result.now c.requires c.in-Ok.ensures)

pub returns-in-Err : goal.returns-in-Err
returns-in-Err c = sym (found-gap c.args.writes.now.items _ c.args.at c.in-Err.ensures)
