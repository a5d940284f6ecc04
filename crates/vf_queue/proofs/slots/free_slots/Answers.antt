use Rattle.std.proofs.Common.{ap, arith, subst}
use Rattle.vf_elaborated.specs.Elaborated.{Elaborated}
use Rattle.vf_elaborated.specs.WellFormed.{IsWellFormed}
use Rattle.vf_layout.proofs.CallerLemmas.{sound_written}
use Rattle.vf_queue.proofs.SlotLemmas.{next_counted, all_counted, few_counted}
use Rattle.vf_queue.proofs.slots.free_slots.Goals as goal

pub count_free-count-requires-clause-slot : goal.count_free-count-requires-clause-slot
count_free-count-requires-clause-slot g c = omega (arith, c.loop-slot-test.true, ap (λ (d : Elaborated). d.slots) c.design.view_is)

pub overflow_add-count : goal.overflow_add-count
overflow_add-count g c =
    let d = c.args.design.now in
    let s = c.requires.state in
    let shape = (sound_written d s c.requires.sound).shape in
    let formed = subst IsWellFormed c.design.view_is c.design.invariant.formed in
    omega (arith, c.loop-slot.invariant s c.requires.sound c.requires.holds, few_counted s.slots, shape.slots, formed.slots.1, c.count_free-count.ensures.few)

pub loop-slot-preserved : goal.loop-slot-preserved
loop-slot-preserved g c s sound holds =
    let d = c.args.design.now in
    let shape = (sound_written d s sound).shape in
    let slots = ap (λ (d : Elaborated). d.slots) c.design.view_is in
    next_counted s c.loop-slot.slot c.loop-slot.count c.count_free-count.result (omega (arith, c.loop-slot-test.true, slots, shape.slots)) (c.count_free-count.ensures.free s sound holds)
    (c.loop-slot.invariant s sound holds)

pub returns : goal.returns
returns g c s sound holds =
    let d = c.args.design.now in
    let shape = (sound_written d s sound).shape in
    let slots = ap (λ (d : Elaborated). d.slots) c.design.view_is in
    all_counted s c.loop-slot.slot c.loop-slot.count (omega (arith, c.loop-slot-test.false, slots, shape.slots)) (c.loop-slot.invariant s sound holds)
