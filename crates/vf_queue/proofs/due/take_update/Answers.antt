use Rattle.std.proofs.Common.{◌∙◌, ap, sym, subst}
use Rattle.vf_scheduler.specs.State.{Due}
use Rattle.vf_queue.specs.Due.{UpdateStands}
use Rattle.vf_queue.proofs.HoldLemmas.{long}
use Rattle.vf_queue.proofs.DueLemmas.{taken_due}
use Rattle.vf_queue.proofs.due.take_update.Goals as goal

pub update_in-update-requires-clause-long : goal.update_in-update-requires-clause-long
update_in-update-requires-clause-long g c =
    let d = c.args.design.now in
    let taken = c.requires in
    long d _ _ (record taken.state { active = taken.rest }) (taken_due d taken.state taken.sound c.args.slot taken.rest taken.active).shape taken.holds

pub update_in-update-requires-clause-slot : goal.update_in-update-requires-clause-slot
update_in-update-requires-clause-slot g c =
    let taken = c.requires in
    (taken_due c.args.design.now taken.state taken.sound c.args.slot taken.rest taken.active).below

pub update_in-update-requires-clause-holds : goal.update_in-update-requires-clause-holds
update_in-update-requires-clause-holds g c =
    let d = c.args.design.now in
    let taken = c.requires in
    let due = taken_due d taken.state taken.sound c.args.slot taken.rest taken.active in
    record { update = due.update; fits = due.fits; stands = subst (λ words. UpdateStands d words c.args.slot due.update) (sym taken.holds.words) due.stands }

pub free-requires-clause-long : goal.free-requires-clause-long
free-requires-clause-long g c =
    let d = c.args.design.now in
    let taken = c.requires in
    long d _ _ (record taken.state { active = taken.rest }) (taken_due d taken.state taken.sound c.args.slot taken.rest taken.active).shape taken.holds

pub free-requires-clause-slot : goal.free-requires-clause-slot
free-requires-clause-slot g c =
    let taken = c.requires in
    (taken_due c.args.design.now taken.state taken.sound c.args.slot taken.rest taken.active).below

pub returns : goal.returns
returns g c = λ s rest sound active holds.
    let d = c.args.design.now in
    let due = taken_due d s sound c.args.slot rest active in (
      due.is ∙ ap Due (sym (c.update_in-update.ensures due.update due.fits (subst (λ words. UpdateStands d words c.args.slot due.update) (sym holds.words) due.stands))),
      c.in_ok-free.ensures (record s { active = rest }) due.shape holds,
    )
