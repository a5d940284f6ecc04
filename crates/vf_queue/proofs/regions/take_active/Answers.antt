use Rattle.std.proofs.Common.{◌∙◌, ap, sym, subst, slice_index}
use Rattle.std.proofs.lemmas.Result.{IfOk-weaker}
use Rattle.vf_elaborated.specs.Addresses.{ACTIVE}
use Rattle.vf_layout.specs.Regions.{ActiveRegion}
use Rattle.vf_layout.proofs.CallerLemmas.{sound_written, regions_written}
use Rattle.vf_queue.specs.Writing.{Leads}
use Rattle.vf_queue.proofs.HoldLemmas.{long, held_by}
use Rattle.vf_queue.proofs.RegionLemmas.{active_leads, first_number}
use Rattle.vf_queue.proofs.regions.take_active.Goals as goal

pub take-requires-clause-long : goal.take-requires-clause-long
take-requires-clause-long g c =
    let d = c.args.design.now in
    let underway = c.requires.underway in
    long d _ _ underway.state (sound_written d underway.state underway.sound).shape underway.holds

pub take-requires-clause-head : goal.take-requires-clause-head
take-requires-clause-head g c =
    let d = c.args.design.now in
    let underway = c.requires.underway in
    subst (λ words. Leads d (slice_index words ACTIVE)) (sym underway.holds.words)
    (active_leads d underway.state underway.sound c.requires.first c.requires.rest c.requires.active)

pub returns : goal.returns
returns g c =
    let d = c.args.design.now in
    let base = g.W.Words.contents c.args.words.now in
    IfOk-weaker c.take.result _ _
    (λ n taken s item rest sound active holds.
    let has = sound_written d s sound in (
      first_number d s sound item rest active n (ap (λ words. slice_index words ACTIVE) (sym holds.words) ∙ taken.0),
      held_by d base _ _ _ s _ taken.1 holds ((regions_written d s has.shape has.queued).takes ActiveRegion item rest active),
    ))
    c.take.ensures
