use Rattle.std.proofs.Common.{◌≡◌, ◌+◌, ◌∙◌, ap, ap₂, arith, sym, subst, length, slice_index, ◌∷◌}
use Rattle.vf_elaborated.specs.Elaborated.{Elaborated}
use Rattle.vf_elaborated.specs.Addresses.{STROBES, slot_at}
use Rattle.vf_scheduler.specs.State.{State, Free, Strobed, of_slot}
use Rattle.vf_scheduler.specs.Posting.{put_slot}
use Rattle.vf_scheduler.specs.Sound.{slot_of}
use Rattle.vf_layout.proofs.CallerLemmas.{sound_written}
use Rattle.vf_queue.specs.Holding.{Holds}
use Rattle.vf_queue.proofs.HoldLemmas.{long, held_by}
use Rattle.vf_queue.proofs.DueLemmas.{first_strobe, slot_is, struck, show_word}
use Rattle.vf_queue.proofs.due.take_strobe.Goals as goal

pub take-requires-clause-long : goal.take-requires-clause-long
take-requires-clause-long g c =
    let d = c.args.design.now in
    long d _ _ c.requires.state (sound_written d c.requires.state c.requires.sound).shape c.requires.holds

pub take-requires-clause-head : goal.take-requires-clause-head
take-requires-clause-head g c =
    let d = c.args.design.now in
    let h = c.requires in
    let first = first_strobe d h.state h.sound h.first h.rest h.strobes in
    let left = struck d h.state h.sound first.slot h.rest (h.strobes ∙ ap (λ item. item ∷ h.rest) first.is) in
    record { to = _; below = omega (arith, left.below); is = ap (λ words. slice_index words STROBES) h.holds.words ∙ left.leads }

pub overflow_sub-slot : goal.overflow_sub-slot
overflow_sub-slot g c =
    let d = c.args.design.now in
    let h = c.requires in
    let first = first_strobe d h.state h.sound h.first h.rest h.strobes in
    let left = struck d h.state h.sound first.slot h.rest (h.strobes ∙ ap (λ item. item ∷ h.rest) first.is) in
    omega (arith, left.leads, ap (λ words. slice_index words STROBES) h.holds.words, c.in_ok-number.ensures.0, c.len.ensures, ap (λ (d : Elaborated). length d.processes) c.design.view_is)

pub slot_word-show-requires-clause-long : goal.slot_word-show-requires-clause-long
slot_word-show-requires-clause-long g c =
    let d = c.args.design.now in
    long d _ _ c.requires.state (sound_written d c.requires.state c.requires.sound).shape c.requires.holds

pub slot_word-show-requires-clause-slot : goal.slot_word-show-requires-clause-slot
slot_word-show-requires-clause-slot g c =
    let d = c.args.design.now in
    let h = c.requires in
    let first = first_strobe d h.state h.sound h.first h.rest h.strobes in
    let left = struck d h.state h.sound first.slot h.rest (h.strobes ∙ ap (λ item. item ∷ h.rest) first.is) in
    omega (arith, left.below, left.leads, ap (λ words. slice_index words STROBES) h.holds.words, c.in_ok-number.ensures.0, c.len.ensures, ap (λ (d : Elaborated). length d.processes) c.design.view_is)

pub free-requires-clause-long : goal.free-requires-clause-long
free-requires-clause-long g c =
    let d = c.args.design.now in
    long d _ _ c.requires.state (sound_written d c.requires.state c.requires.sound).shape c.requires.holds

pub free-requires-clause-slot : goal.free-requires-clause-slot
free-requires-clause-slot g c =
    let d = c.args.design.now in
    let h = c.requires in
    let first = first_strobe d h.state h.sound h.first h.rest h.strobes in
    let left = struck d h.state h.sound first.slot h.rest (h.strobes ∙ ap (λ item. item ∷ h.rest) first.is) in
    omega (arith, left.below, left.leads, ap (λ words. slice_index words STROBES) h.holds.words, c.in_ok-number.ensures.0, c.len.ensures, ap (λ (d : Elaborated). length d.processes) c.design.view_is)

pub returns : goal.returns
returns g c = λ s slot rest sound strobes holds.
    let d = c.args.design.now in
    let base = g.W.Words.contents c.args.words.now in
    let left = struck d s sound slot rest strobes in
    let next : State = record s { strobes = rest } in
    let taken = held_by d base _ _ _ s next c.in_ok-number.ensures.1 holds left.words in
    let same : slot ≡ _ = omega (arith, left.leads, ap (λ words. slice_index words STROBES) holds.words, c.in_ok-number.ensures.0, c.len.ensures, ap (λ (d : Elaborated). length d.processes) c.design.view_is) in
    let strobe = first_strobe d s sound (of_slot slot) rest strobes in
    let is : slot_of s slot ≡ Strobed strobe.show = subst (λ q. slot_of s q ≡ Strobed strobe.show) (slot_is slot strobe.slot strobe.is) strobe.holds in
    let reads : strobe.show ≡ _ = sym (c.slot_word-show.ensures ∙ (ap₂ (λ words q. slice_index words (slot_at d q + 3)) taken.words (sym same) ∙ show_word d next left.shape slot left.below strobe.show is)) in (
      is ∙ ap Strobed reads,
      subst (λ q. Holds d base c.free.new.patch (put_slot q Free next)) (sym same) (c.in_ok-free.ensures next left.shape taken),
    )
