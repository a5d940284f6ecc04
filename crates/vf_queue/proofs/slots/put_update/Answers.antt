use Rattle.std.proofs.Common.{◌+◌, ◌*◌, ◌/◌, ◌%◌, ◌^◌, ◌∙◌, ap, ap₂, subst}
use Rattle.std.proofs.lemmas.Result.{on_ok_weaker}
use Rattle.vf_elaborated.specs.Addresses.{slot_at}
use Rattle.vf_layout.specs.Puts.{put_all}
use Rattle.vf_queue.specs.Writing.{Writes}
use Rattle.vf_queue.specs.Updates.{update_of}
use Rattle.vf_queue.proofs.UpdateLemmas.{update_taken}
use Rattle.vf_queue.proofs.slots.put_update.Goals as goal

pub returns : goal.returns
returns g c =
    let d = c.args.design.now in
    on_ok_weaker c.put_slot.result
    (λ put.
    subst (λ list. Writes (g.W.Words.contents c.args.words.now) (put_all (slot_at d c.args.slot) list) c.args.patch.now c.put_slot.new.patch)
    (update_taken d (update_of c.args.update.now) c.args.kind c.args.time _ _ _ _ _ _ _ c.requires.fits c.from-3.ensures c.from-4.ensures
    (ap₂ (λ low width. low * 256 + width) c.from.ensures (c.from-2.ensures ∙ c.width.ensures.value))
    (c.low_half.ensures ∙ ap (λ plane. plane % 2 ^ 64) c.ones-ones.ensures) (c.low_half-2.ensures ∙ ap (λ plane. plane % 2 ^ 64) c.unknown-unknown.ensures)
    (c.high_half.ensures ∙ ap (λ plane. plane / 2 ^ 64) c.ones-ones.ensures) (c.high_half-2.ensures ∙ ap (λ plane. plane / 2 ^ 64) c.unknown-unknown.ensures))
    put)
    c.put_slot.ensures
