use Rattle.vf_scheduler.specs.State.{State}
use Rattle.vf_scheduler.specs.Sound.{IsSound}
use Rattle.vf_queue.specs.Holding.{Holds}
use Rattle.vf_queue.proofs.PostLemmas.{Way}
use Rattle.vf_queue.proofs.posts.post.Given as goal

-- so many updates are posted
abbrev pub invariant-loop-update : goal.invariant-loop-update
invariant-loop-update g l =
    (s : State) → IsSound l.design s → Holds l.design (g.W.Words.contents l.words) l.initial.patch s
    → Way l.design (g.W.Words.contents l.words) l.delay l.updates s l.update-index l.patch
