use Rattle.vf_scheduler.specs.State.{State}
use Rattle.vf_scheduler.specs.Sound.{IsSound}
use Rattle.vf_queue.specs.Holding.{Holds}
use Rattle.vf_queue.proofs.FutureLemmas.{Passed}
use Rattle.vf_queue.proofs.future.last_until.Given as goal

-- so many events are passed
abbrev pub invariant-loop : goal.invariant-loop
invariant-loop g l =
    (s : State) → IsSound l.design s → Holds l.design (g.W.Words.contents l.words) l.patch s → Passed l.design s l.at l.last l.next l.counter
