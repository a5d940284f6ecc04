use Rattle.std.proofs.Common.{arith, subst}
use Rattle.vf_elaborated.specs.WellFormed.{IsWellFormed}
use Rattle.vf_elaborated.proofs.CallerLemmas.{words_small, slot_inside}
use Rattle.vf_queue.proofs.due.slot_word.Goals as goal

pub overflow_add-slot_at : goal.overflow_add-slot_at
overflow_add-slot_at g c =
    let d = c.args.design.now in
    let small = words_small d (subst IsWellFormed c.design.view_is c.design.invariant.formed) in
    omega (arith, small, slot_inside d c.args.slot c.requires.slot, c.requires.at, c.slot_at.ensures)

pub read-requires : goal.read-requires
read-requires g c =
    let d = c.args.design.now in
    omega (arith, slot_inside d c.args.slot c.requires.slot, c.requires.at, c.slot_at.ensures, c.requires.long)
