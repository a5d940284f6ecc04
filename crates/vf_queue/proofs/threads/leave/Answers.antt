use Rattle.std.proofs.Common.{arith}
use Rattle.vf_elaborated.proofs.CallerLemmas.{front_inside, thread_inside}
use Rattle.vf_layout.proofs.CallerLemmas.{sound_written}
use Rattle.vf_queue.proofs.WriteLemmas.{then_write}
use Rattle.vf_queue.proofs.HoldLemmas.{long, held_by}
use Rattle.vf_queue.proofs.ThreadLemmas.{leaves_for}
use Rattle.vf_queue.proofs.threads.leave.Goals as goal

pub returns : goal.returns
returns c base s status is timed sound running holds =
    let d = c.args.design.now in
    let size = long d base _ s (sound_written d s sound).shape holds in
    let inside = thread_inside d c.args.process c.requires in
    held_by d base _ _ _ s _
    (then_write base _ _ _ _ _
    (then_write base _ _ _ _ _
    (then_write base _ _ _ _ _ (c.in_ok-put.ensures base (omega (arith, c.thread_at-at.ensures, size, inside)))
    (c.in_ok-put-2.ensures base (omega (arith, c.thread_at-at.ensures, size, inside))))
    (c.in_ok-put-3.ensures base (omega (arith, c.thread_at-at.ensures, size, inside))))
    (c.put_front.ensures base (omega (arith, front_inside d, size))))
    holds
    (leaves_for d s c.args.process sound running c.args.place status _ _ _ _ c.from.ensures is timed c.thread_at-at.ensures)
