use Rattle.std.proofs.Common.{◌+◌, ◌∙◌, ap₂, sym, arith, slice_set}
use Rattle.vf_elaborated.specs.Addresses.{RUNNING}
use Rattle.vf_elaborated.proofs.CallerLemmas.{front_inside, thread_inside}
use Rattle.vf_scheduler.specs.State.{State}
use Rattle.vf_scheduler.specs.Words.{words_of}
use Rattle.vf_layout.specs.Addresses.{HasShape}
use Rattle.vf_layout.proofs.CallerLemmas.{sound_written}
use Rattle.vf_queue.proofs.WriteLemmas.{then_write}
use Rattle.vf_queue.proofs.HoldLemmas.{long, held_by}
use Rattle.vf_queue.proofs.RegionLemmas.{runs_now}
use Rattle.vf_queue.proofs.regions.run.Goals as goal

pub returns : goal.returns
returns c base s rest sound active holds =
    let d = c.args.design.now in
    let p = c.args.process in
    let has = (sound_written d s sound).shape in
    let left : State = record s { active = rest } in
    let shape : HasShape d left = record { threads = has.threads; values = has.values; drivers = has.drivers; slots = has.slots } in
    let size = long d base _ left shape holds in
    let inside = thread_inside d p c.requires in
    held_by d base _ _ _ left _
    (then_write base _ _ _ _ _ (c.in_ok-put.ensures base (omega (arith, c.thread_at.ensures, size, inside)))
    (c.put_front.ensures base (omega (arith, front_inside d, size))))
    holds
    (runs_now d s sound p rest active c.requires
    ∙ sym (ap₂ (λ at n. slice_set (slice_set (words_of d left) (at + 1) 5) RUNNING (n + 1)) c.thread_at.ensures c.from.ensures))
