use Rattle.std.proofs.Common.{◌≡◌, ◌≤◌, ◌∙◌, ap, arith, length, subst, sym, slice_index}
use Rattle.std.proofs.lemmas.Result.{on_ok_weaker}
use Rattle.vf_elaborated.specs.Elaborated.{Elaborated}
use Rattle.vf_elaborated.specs.Addresses.{FUTURE}
use Rattle.vf_scheduler.specs.State.{State}
use Rattle.vf_scheduler.specs.Sound.{times}
use Rattle.vf_layout.specs.Regions.{number}
use Rattle.vf_layout.proofs.CallerLemmas.{sound_written}
use Rattle.vf_queue.specs.Holding.{Holds}
use Rattle.vf_queue.specs.Promotions.{came}
use Rattle.vf_queue.proofs.HoldLemmas.{long, held_by}
use Rattle.vf_queue.proofs.PromotionLemmas.{first_future, process_by, slot_by, future_later, later_came}
use Rattle.vf_queue.proofs.promotions.arrive_one.Goals as goal

pub take-requires-clause-long : goal.take-requires-clause-long
take-requires-clause-long g c =
    let d = c.args.design.now in
    long d _ _ c.requires.state (sound_written d c.requires.state c.requires.sound).shape c.requires.holds

pub take-requires-clause-head : goal.take-requires-clause-head
take-requires-clause-head g c =
    let d = c.args.design.now in
    let h = c.requires in
    let first = first_future d h.state h.sound h.first h.rest h.future in
    record { to = _; below = first.below; is = ap (λ words. slice_index words FUTURE) h.holds.words ∙ first.leads }

pub activate-requires-clause-joins : goal.activate-requires-clause-joins
activate-requires-clause-joins g c =
    let d = c.args.design.now in
    let h = c.requires in
    let first = first_future d h.state h.sound h.first h.rest h.future in
    record {
      state = record h.state { future = h.rest };
      stands = first.stands;
      holds = held_by d _ _ _ _ h.state (record h.state { future = h.rest }) c.in_ok-number.ensures.1 h.holds first.words;
    }

pub make_due-requires-clause-slot : goal.make_due-requires-clause-slot
make_due-requires-clause-slot g c =
    let d = c.args.design.now in
    let h = c.requires in
    let first = first_future d h.state h.sound h.first h.rest h.future in
    omega (
      arith,
      first.below,
      first.leads,
      ap (λ words. slice_index words FUTURE) h.holds.words,
      c.in_ok-number.ensures.0,
      c.len-processes.ensures,
      ap (λ (d : Elaborated). length d.processes) c.design.view_is,
    )

pub make_due-requires-clause-later : goal.make_due-requires-clause-later
make_due-requires-clause-later g c =
    let d = c.args.design.now in
    let h = c.requires in
    let first = first_future d h.state h.sound h.first h.rest h.future in
    let processes = ap (λ (d : Elaborated). length d.processes) c.design.view_is in
    let same : c.in_ok-number.number ≡ number d h.first = omega (arith, first.leads, ap (λ words. slice_index words FUTURE) h.holds.words, c.in_ok-number.ensures.0) in
    let is = slot_by d h.state h.first c.in_ok-number.number _ first.linked same (omega (arith, c.if-number-processes.false, c.len-processes.ensures, processes)) (omega (arith, c.len-processes.ensures, processes)) in
    let later = future_later d h.state h.sound _ (subst (λ x. 1 ≤ times x h.state.future) is first.here) in
    record {
      joins = record {
        state = record h.state { future = h.rest };
        stands = first.stands;
        holds = held_by d _ _ _ _ h.state (record h.state { future = h.rest }) c.in_ok-number.ensures.1 h.holds first.words;
      };
      at = later.at;
      update = later.update;
      later = later.is;
    }

pub returns-then-number-processes : goal.returns-then-number-processes
returns-then-number-processes g c =
    let d = c.args.design.now in
    let base = g.W.Words.contents c.args.words.now in
    let processes = ap (λ (d : Elaborated). length d.processes) c.design.view_is in
    on_ok_weaker c.activate.result
    (λ act s x rest sound future holds.
    let first = first_future d s sound x rest future in
    let same : c.in_ok-number.number ≡ number d x = omega (arith, first.leads, ap (λ words. slice_index words FUTURE) holds.words, c.in_ok-number.ensures.0) in
    let is = process_by d s x c.in_ok-number.number first.linked same (omega (arith, c.if-number-processes.true, c.len-processes.ensures, processes)) in
    let left : State = record s { future = rest } in
    subst (λ x. Holds d base c.activate.new.patch (came x rest s)) (sym is) (act left first.stands (held_by d base _ _ _ s left c.in_ok-number.ensures.1 holds first.words)))
    c.activate.ensures

pub returns-else-number-processes : goal.returns-else-number-processes
returns-else-number-processes g c =
    let d = c.args.design.now in
    let base = g.W.Words.contents c.args.words.now in
    let processes = ap (λ (d : Elaborated). length d.processes) c.design.view_is in
    on_ok_weaker c.make_due.result
    (λ make s x rest sound future holds.
    let first = first_future d s sound x rest future in
    let same : c.in_ok-number.number ≡ number d x = omega (arith, first.leads, ap (λ words. slice_index words FUTURE) holds.words, c.in_ok-number.ensures.0) in
    let is = slot_by d s x c.in_ok-number.number _ first.linked same (omega (arith, c.if-number-processes.false, c.len-processes.ensures, processes)) (omega (arith, c.len-processes.ensures, processes)) in
    let later = future_later d s sound _ (subst (λ x. 1 ≤ times x s.future) is first.here) in
    let left : State = record s { future = rest } in
    later_came d base _ s x rest _ later.at later.update is later.is
    (make left later.at later.update first.stands later.is (held_by d base _ _ _ s left c.in_ok-number.ensures.1 holds first.words)))
    c.make_due.ensures
