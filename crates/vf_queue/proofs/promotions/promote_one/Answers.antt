use Rattle.std.proofs.Common.{◌≡◌, ◌∙◌, ap, arith, subst, sym, slice_index}
use Rattle.std.proofs.lemmas.Result.{on_ok_weaker}
use Rattle.vf_elaborated.specs.Addresses.{INACTIVE}
use Rattle.vf_scheduler.specs.State.{State, of_process}
use Rattle.vf_layout.proofs.CallerLemmas.{sound_written}
use Rattle.vf_queue.specs.Holding.{Holds}
use Rattle.vf_queue.specs.Promotions.{promoted}
use Rattle.vf_queue.proofs.HoldLemmas.{long, held_by}
use Rattle.vf_queue.proofs.PromotionLemmas.{first_inactive}
use Rattle.vf_queue.proofs.promotions.promote_one.Goals as goal

pub take-requires-clause-long : goal.take-requires-clause-long
take-requires-clause-long g c =
    let d = c.args.design.now in
    long d _ _ c.requires.state (sound_written d c.requires.state c.requires.sound).shape c.requires.holds

pub take-requires-clause-head : goal.take-requires-clause-head
take-requires-clause-head g c =
    let d = c.args.design.now in
    let h = c.requires in
    let first = first_inactive d h.state h.sound h.first h.rest h.inactive in
    record { to = first.process; below = omega (arith, first.below); is = ap (λ words. slice_index words INACTIVE) h.holds.words ∙ first.leads }

pub activate-requires-clause-joins : goal.activate-requires-clause-joins
activate-requires-clause-joins g c =
    let d = c.args.design.now in
    let h = c.requires in
    let first = first_inactive d h.state h.sound h.first h.rest h.inactive in
    record {
      state = record h.state { inactive = h.rest };
      stands = first.stands;
      holds = held_by d _ _ _ _ h.state (record h.state { inactive = h.rest }) c.in_ok-process.ensures.1 h.holds first.words;
    }

pub activate-requires-clause-process : goal.activate-requires-clause-process
activate-requires-clause-process g c =
    let d = c.args.design.now in
    let h = c.requires in
    let first = first_inactive d h.state h.sound h.first h.rest h.inactive in
    omega (arith, first.below, first.leads, ap (λ words. slice_index words INACTIVE) h.holds.words, c.in_ok-process.ensures.0)

pub returns : goal.returns
returns g c =
    let d = c.args.design.now in
    let base = g.W.Words.contents c.args.words.now in
    on_ok_weaker c.activate.result
    (λ act s x rest sound inactive holds.
    let first = first_inactive d s sound x rest inactive in
    let same : c.in_ok-process.process ≡ first.process = omega (arith, first.leads, ap (λ words. slice_index words INACTIVE) holds.words, c.in_ok-process.ensures.0) in
    let left : State = record s { inactive = rest } in
    subst (λ x. Holds d base c.activate.new.patch (promoted x rest s)) (ap of_process same ∙ sym first.is)
    (act left first.stands (held_by d base _ _ _ s left c.in_ok-process.ensures.1 holds first.words)))
    c.activate.ensures
