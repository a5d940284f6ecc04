use Rattle.std.proofs.Common.{arith, subst}
use Rattle.vf_elaborated.specs.WellFormed.{IsWellFormed}
use Rattle.vf_queue.proofs.writes.event.Goals as goal

pub overflow_cast-result : goal.overflow_cast-result
overflow_cast-result c =
    let formed = subst IsWellFormed c.design.view_is c.design.invariant.formed in
    omega (arith, c.requires.is, c.requires.below, formed.slots.1, formed.few_processes)

pub overflow_sub-result : goal.overflow_sub-result
overflow_sub-result c = omega (arith, c.requires.is)

pub returns : goal.returns
returns c = omega (arith, c.requires.is)
