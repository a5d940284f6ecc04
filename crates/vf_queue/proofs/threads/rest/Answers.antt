use Rattle.std.proofs.Common.{◌+◌, arith, ap₂, slice_set, sym, ◌∙◌}
use Rattle.vf_elaborated.specs.Addresses.{RUNNING}
use Rattle.vf_elaborated.proofs.CallerLemmas.{front_inside, thread_inside}
use Rattle.vf_scheduler.specs.Words.{words_of}
use Rattle.vf_layout.proofs.CallerLemmas.{sound_written}
use Rattle.vf_queue.proofs.WriteLemmas.{then_write}
use Rattle.vf_queue.proofs.HoldLemmas.{long, held_by}
use Rattle.vf_queue.proofs.ThreadLemmas.{rests}
use Rattle.vf_queue.proofs.threads.rest.Goals as goal

pub returns : goal.returns
returns c base s status is timeless sound running holds =
    let d = c.args.design.now in
    let size = long d base _ s (sound_written d s sound).shape holds in
    let inside = thread_inside d c.args.process c.requires in
    held_by d base _ _ _ s _
    (then_write base _ _ _ _ _ (c.in_ok-put.ensures base (omega (arith, c.thread_at.ensures, size, inside)))
    (c.put_front.ensures base (omega (arith, front_inside d, size))))
    holds
    (rests d s c.args.process sound running status timeless
    ∙ sym (ap₂ (λ at word. slice_set (slice_set (words_of d s) (at + 1) word) RUNNING 0) c.thread_at.ensures (sym is)))
