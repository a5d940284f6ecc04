use Rattle.std.proofs.Common.{arith, refl, sym, subst}
use Rattle.std.proofs.lemmas.Result.{on_ok_weaker}
use Rattle.vf_elaborated.specs.Addresses.{INACTIVE}
use Rattle.vf_scheduler.specs.State.{Inactive, leaves}
use Rattle.vf_layout.specs.Regions.{InactiveRegion}
use Rattle.vf_layout.proofs.CallerLemmas.{sound_written}
use Rattle.vf_queue.specs.Writing.{HasTail}
use Rattle.vf_queue.proofs.HoldLemmas.{long, held_by}
use Rattle.vf_queue.proofs.ThreadLemmas.{is_there}
use Rattle.vf_queue.proofs.KeptLemmas.{tail_leads}
use Rattle.vf_queue.proofs.DelayLemmas.{written_left, joins_inactive}
use Rattle.vf_queue.proofs.delays.become_inactive.Goals as goal

pub leave-requires : goal.leave-requires
leave-requires g c = is_there c.args.design.now c.requires.underway.state c.args.process c.requires.underway.sound c.requires.running

pub join-requires-clause-long : goal.join-requires-clause-long
join-requires-clause-long g c =
    let d = c.args.design.now in
    let underway = c.requires.underway in
    long d _ _ underway.state (sound_written d underway.state underway.sound).shape underway.holds

pub join-requires-clause-number : goal.join-requires-clause-number
join-requires-clause-number g c =
    omega (arith, is_there c.args.design.now c.requires.underway.state c.args.process c.requires.underway.sound c.requires.running)

pub join-requires-clause-tail : goal.join-requires-clause-tail
join-requires-clause-tail g c =
    let d = c.args.design.now in
    let p = c.args.process in
    let underway = c.requires.underway in
    let s = underway.state in
    let left = c.in_ok-leave.ensures _ s Inactive refl refl underway.sound c.requires.running underway.holds in
    subst (HasTail d INACTIVE) (sym left.words)
    (tail_leads d (leaves p c.args.place Inactive s) (written_left d s p c.args.place underway.sound c.requires.running Inactive) InactiveRegion refl)

pub returns : goal.returns
returns g c =
    let d = c.args.design.now in
    let p = c.args.process in
    let base = g.W.Words.contents c.args.words.now in
    on_ok_weaker c.join.result
    (λ joined s sound running holds.
    held_by d base _ _ _ (leaves p c.args.place Inactive s) _ joined (c.in_ok-leave.ensures base s Inactive refl refl sound running holds)
    (joins_inactive d s p c.args.place sound running))
    c.join.ensures
