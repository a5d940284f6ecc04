use Rattle.std.proofs.Common.{◌∙◌, ◌<◌, ap, ap₂, arith, slice_index}
use Rattle.vf_elaborated.specs.Elaborated.{Elaborated}
use Rattle.vf_elaborated.proofs.CallerLemmas.{slot_inside}
use Rattle.vf_layout.proofs.CallerLemmas.{sound_written}
use Rattle.vf_queue.proofs.HoldLemmas.{long}
use Rattle.vf_queue.proofs.SlotLemmas.{reads_free, reads_held, one_more_held, least_is, none_is, slot_some}
use Rattle.vf_queue.proofs.slots.least_free.Goals as goal

pub read-requires : goal.read-requires
read-requires g c =
    let d = c.args.design.now in
    let size = long d _ _ c.requires.state (sound_written d c.requires.state c.requires.sound).shape c.requires.holds in
    let slots = ap (λ (d : Elaborated). d.slots) c.design.view_is in
    omega (arith, size, slot_inside d c.loop-slot.slot (omega (arith, c.loop-slot-test.true, slots)), slot_some d, c.slot_at.ensures)

pub returns-then-read-eq0 : goal.returns-then-read-eq0
returns-then-read-eq0 g c s sound holds =
    let d = c.args.design.now in
    let shape = (sound_written d s sound).shape in
    let slots = ap (λ (d : Elaborated). d.slots) c.design.view_is in
    let below : c.loop-slot.slot < d.slots = omega (arith, c.loop-slot-test.true, slots) in
    least_is s c.loop-slot.slot (c.loop-slot.invariant s sound holds) (omega (arith, c.loop-slot-test.true, slots, shape.slots))
    (reads_free d s shape c.loop-slot.slot below c.read.result (c.read.ensures ∙ ap₂ slice_index holds.words c.slot_at.ensures) c.if-read-eq0.true)

pub loop-slot-preserved : goal.loop-slot-preserved
loop-slot-preserved g c s sound holds =
    let d = c.args.design.now in
    let shape = (sound_written d s sound).shape in
    let slots = ap (λ (d : Elaborated). d.slots) c.design.view_is in
    let below : c.loop-slot.slot < d.slots = omega (arith, c.loop-slot-test.true, slots) in
    one_more_held s c.loop-slot.slot (c.loop-slot.invariant s sound holds)
    (reads_held d s shape c.loop-slot.slot below c.read.result (c.read.ensures ∙ ap₂ slice_index holds.words c.slot_at.ensures) c.if-read-eq0.false)

pub returns : goal.returns
returns g c s sound holds =
    let d = c.args.design.now in
    let shape = (sound_written d s sound).shape in
    let slots = ap (λ (d : Elaborated). d.slots) c.design.view_is in
    none_is s (λ k below. c.loop-slot.invariant s sound holds k (omega (arith, below, c.loop-slot-test.false, slots, shape.slots)))
