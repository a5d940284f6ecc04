use Rattle.std.proofs.Common.{◌≡◌, ◌+◌, drop}
use Rattle.vf_scheduler.specs.State.{State}
use Rattle.vf_scheduler.specs.Sound.{IsSound}
use Rattle.vf_queue.specs.Holding.{Holds}
use Rattle.vf_queue.proofs.SlotLemmas.{counted}
use Rattle.vf_queue.proofs.slots.free_slots.Given as goal

-- with those that are left, all free slots
abbrev pub invariant-loop-slot : goal.invariant-loop-slot
invariant-loop-slot g l =
    (s : State) → IsSound l.design s → Holds l.design (g.W.Words.contents l.words) l.patch s → l.count + counted (drop l.slot s.slots) ≡ counted s.slots
