use Rattle.std.proofs.Common.{arith, subst}
use Rattle.vf_elaborated.specs.WellFormed.{IsWellFormed}
use Rattle.vf_elaborated.proofs.CallerLemmas.{words_small}
use Rattle.vf_queue.proofs.FutureLemmas.{time_inside}
use Rattle.vf_queue.proofs.writes.time.Goals as goal

pub overflow_add-link_at : goal.overflow_add-link_at
overflow_add-link_at g c =
    let d = c.args.design.now in
    omega (arith, time_inside d c.args.number c.requires.number, c.link_at.ensures, words_small d (subst IsWellFormed c.design.view_is c.design.invariant.formed))

pub read-requires : goal.read-requires
read-requires g c = omega (arith, time_inside c.args.design.now c.args.number c.requires.number, c.link_at.ensures, c.requires.long)
