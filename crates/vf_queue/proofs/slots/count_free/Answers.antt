use Rattle.std.proofs.Common.{◌∙◌, ap, ap₂, arith, cond, slice_index, sym}
use Rattle.vf_elaborated.proofs.CallerLemmas.{slot_inside}
use Rattle.vf_layout.proofs.CallerLemmas.{sound_written}
use Rattle.vf_queue.proofs.HoldLemmas.{long}
use Rattle.vf_queue.proofs.SlotLemmas.{reads_free, reads_held, slot_some}
use Rattle.vf_queue.proofs.slots.count_free.Goals as goal

pub read-requires : goal.read-requires
read-requires g c =
    let d = c.args.design.now in
    let underway = c.requires.underway in
    let size = long d _ _ underway.state (sound_written d underway.state underway.sound).shape underway.holds in
    omega (arith, size, slot_inside d c.args.slot c.requires.slot, slot_some d, c.slot_at.ensures)

pub returns-then-read-eq0-clause-free : goal.returns-then-read-eq0-clause-free
returns-then-read-eq0-clause-free g c s sound holds =
    let d = c.args.design.now in
    ap (λ b. cond b 1 0)
    (sym (reads_free d s (sound_written d s sound).shape c.args.slot c.requires.slot c.read.result (c.read.ensures ∙ ap₂ slice_index holds.words c.slot_at.ensures) c.if-read-eq0.true))

pub returns-else-read-eq0-clause-free : goal.returns-else-read-eq0-clause-free
returns-else-read-eq0-clause-free g c s sound holds =
    let d = c.args.design.now in
    ap (λ b. cond b 1 0)
    (sym (reads_held d s (sound_written d s sound).shape c.args.slot c.requires.slot c.read.result (c.read.ensures ∙ ap₂ slice_index holds.words c.slot_at.ensures) c.if-read-eq0.false))
