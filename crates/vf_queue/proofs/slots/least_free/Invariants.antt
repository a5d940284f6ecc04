use Rattle.vf_scheduler.specs.State.{State}
use Rattle.vf_scheduler.specs.Sound.{IsSound}
use Rattle.vf_queue.specs.Holding.{Holds}
use Rattle.vf_queue.proofs.SlotLemmas.{NoneFree}
use Rattle.vf_queue.proofs.slots.least_free.Given as goal

-- no slot so far is free
abbrev pub invariant-loop-slot : goal.invariant-loop-slot
invariant-loop-slot g l = (s : State) → IsSound l.design s → Holds l.design (g.W.Words.contents l.words) l.patch s → NoneFree s l.slot
