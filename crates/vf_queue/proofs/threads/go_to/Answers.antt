use Rattle.std.proofs.Common.{arith, ap₂, slice_set, sym, ◌∙◌}
use Rattle.std.proofs.lemmas.Result.{on_ok_weaker}
use Rattle.vf_scheduler.specs.Words.{words_of}
use Rattle.vf_elaborated.proofs.CallerLemmas.{thread_inside}
use Rattle.vf_layout.proofs.CallerLemmas.{sound_written}
use Rattle.vf_queue.proofs.HoldLemmas.{long, held_by}
use Rattle.vf_queue.proofs.ThreadLemmas.{goes_on}
use Rattle.vf_queue.proofs.threads.go_to.Goals as goal

pub returns : goal.returns
returns c =
    let d = c.args.design.now in
    on_ok_weaker c.put.result
    (λ put base s sound running holds.
    let size = long d base _ s (sound_written d s sound).shape holds in
    let inside = thread_inside d c.args.process c.requires in
    held_by d base _ _ _ s _ (put base (omega (arith, c.thread_at.ensures, size, inside))) holds
    (goes_on d s c.args.process sound running c.args.place
    ∙ sym (ap₂ (λ at word. slice_set (words_of d s) at word) c.thread_at.ensures c.from.ensures)))
    c.put.ensures
