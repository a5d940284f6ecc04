use Rattle.std.proofs.Common.{arith, refl, sym, subst}
use Rattle.std.proofs.lemmas.Result.{on_ok_weaker}
use Rattle.vf_elaborated.specs.Addresses.{ACTIVE}
use Rattle.vf_elaborated.proofs.CallerLemmas.{thread_inside}
use Rattle.vf_scheduler.specs.State.{of_process}
use Rattle.vf_layout.specs.Regions.{ActiveRegion}
use Rattle.vf_layout.proofs.CallerLemmas.{sound_written, regions_written}
use Rattle.vf_queue.specs.Writing.{HasTail}
use Rattle.vf_queue.proofs.WriteLemmas.{then_write}
use Rattle.vf_queue.proofs.HoldLemmas.{long, held_by}
use Rattle.vf_queue.proofs.KeptLemmas.{tail_leads}
use Rattle.vf_queue.proofs.RegionLemmas.{is_one, woken_up, woken_written, wakes_up}
use Rattle.vf_queue.proofs.regions.wake.Goals as goal

pub thread_at-at-requires : goal.thread_at-at-requires
thread_at-at-requires g c = is_one c.args.design.now c.requires.underway.state c.requires.underway.sound c.args.process c.args.place c.requires.waits

pub join-requires-clause-long : goal.join-requires-clause-long
join-requires-clause-long g c =
    let d = c.args.design.now in
    let underway = c.requires.underway in
    long d _ _ underway.state (sound_written d underway.state underway.sound).shape underway.holds

pub join-requires-clause-number : goal.join-requires-clause-number
join-requires-clause-number g c =
    omega (arith, is_one c.args.design.now c.requires.underway.state c.requires.underway.sound c.args.process c.args.place c.requires.waits)

pub join-requires-clause-tail : goal.join-requires-clause-tail
join-requires-clause-tail g c =
    let d = c.args.design.now in
    let p = c.args.process in
    let base = g.W.Words.contents c.args.words.now in
    let underway = c.requires.underway in
    let s = underway.state in
    let next = woken_up d s underway.sound p c.args.place c.requires.waits in
    let size = long d base _ s (sound_written d s underway.sound).shape underway.holds in
    let inside = thread_inside d p (is_one d s underway.sound p c.args.place c.requires.waits) in
    let put =
    held_by d base _ _ _ s next
    (then_write base _ _ _ _ _ (c.in_ok-put.ensures base (omega (arith, c.thread_at-at.ensures, size, inside)))
    (c.in_ok-put-2.ensures base (omega (arith, c.thread_at-at.ensures, size, inside))))
    underway.holds (wakes_up d s underway.sound p c.args.place c.requires.waits _ _ c.from.ensures c.thread_at-at.ensures) in
    subst (HasTail d ACTIVE) (sym put.words) (tail_leads d next (woken_written d s underway.sound p c.args.place c.requires.waits) ActiveRegion refl)

pub returns : goal.returns
returns g c =
    let d = c.args.design.now in
    let p = c.args.process in
    let base = g.W.Words.contents c.args.words.now in
    on_ok_weaker c.join.result
    (λ join s sound waits holds.
    let next = woken_up d s sound p c.args.place waits in
    let has = woken_written d s sound p c.args.place waits in
    let size = long d base _ s (sound_written d s sound).shape holds in
    let inside = thread_inside d p (is_one d s sound p c.args.place waits) in
    held_by d base _ _ _ next _ join
    (held_by d base _ _ _ s next
    (then_write base _ _ _ _ _ (c.in_ok-put.ensures base (omega (arith, c.thread_at-at.ensures, size, inside)))
    (c.in_ok-put-2.ensures base (omega (arith, c.thread_at-at.ensures, size, inside))))
    holds (wakes_up d s sound p c.args.place waits _ _ c.from.ensures c.thread_at-at.ensures))
    ((regions_written d next has.shape has.queued).joins ActiveRegion (of_process p) refl))
    c.join.ensures
