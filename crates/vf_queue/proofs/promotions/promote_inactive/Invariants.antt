use Rattle.vf_scheduler.specs.State.{State}
use Rattle.vf_scheduler.specs.Sound.{IsSound}
use Rattle.vf_queue.specs.Holding.{Holds}
use Rattle.vf_queue.proofs.PromotionLemmas.{Promoting}
use Rattle.vf_queue.proofs.promotions.promote_inactive.Given as goal

-- so many have become active
abbrev pub invariant-loop : goal.invariant-loop
invariant-loop g l =
    let base = g.W.Words.contents l.words in
    (s : State) → IsSound l.design s → Holds l.design base l.initial.patch s → Promoting l.design base s l.counter l.patch
