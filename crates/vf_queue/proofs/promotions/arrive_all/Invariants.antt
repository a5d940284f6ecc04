use Rattle.std.proofs.Common.{map}
use Rattle.vf_scheduler.specs.State.{State}
use Rattle.vf_scheduler.specs.Posting.{time_of}
use Rattle.vf_scheduler.specs.Sound.{IsSound, Rises}
use Rattle.vf_queue.specs.Holding.{Holds}
use Rattle.vf_queue.proofs.PromotionLemmas.{Arriving}
use Rattle.vf_queue.proofs.promotions.arrive_all.Given as goal

-- so many have come
abbrev pub invariant-loop : goal.invariant-loop
invariant-loop g l =
    let base = g.W.Words.contents l.words in
    (s : State) → IsSound l.design s → Rises l.at (map (time_of s) s.future) → Holds l.design base l.initial.patch s → Arriving l.design base l.at s l.counter l.patch
