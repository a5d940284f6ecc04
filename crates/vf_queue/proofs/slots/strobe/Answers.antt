use Rattle.std.proofs.Common.{◌+◌, ◌<◌, ◌∷◌, ◌++◌, [], length, take, ◌∙◌, ap, refl, subst, sym}
use Rattle.vf_elaborated.specs.Addresses.{STROBES, slot_size}
use Rattle.vf_scheduler.specs.State.{Strobed, of_slot}
use Rattle.vf_scheduler.specs.Posting.{put_slot}
use Rattle.vf_scheduler.specs.Words.{words_of}
use Rattle.vf_layout.specs.Regions.{StrobeRegion, joined}
use Rattle.vf_layout.proofs.CallerLemmas.{sound_written, regions_written}
use Rattle.vf_queue.specs.Writing.{HasTail}
use Rattle.vf_queue.specs.Holding.{Holds}
use Rattle.vf_queue.proofs.HoldLemmas.{long, held_by}
use Rattle.vf_queue.proofs.KeptLemmas.{tail_leads}
use Rattle.vf_queue.proofs.SlotLemmas.{fills, filled_written, strobe_words, none_strobed, some_strobed}
use Rattle.vf_queue.proofs.slots.strobe.Goals as goal

pub put_slot-requires-clause-long : goal.put_slot-requires-clause-long
put_slot-requires-clause-long g c =
    let d = c.args.design.now in
    long d _ _ c.requires.state (sound_written d c.requires.state c.requires.sound).shape c.requires.holds

pub join-requires-clause-long : goal.join-requires-clause-long
join-requires-clause-long g c =
    let d = c.args.design.now in
    long d _ _ c.requires.state (sound_written d c.requires.state c.requires.sound).shape c.requires.holds

pub join-requires-clause-tail : goal.join-requires-clause-tail
join-requires-clause-tail g c =
    let d = c.args.design.now in
    let s = c.requires.state in
    let q = c.in-Some.slot in
    let free = c.in-Some.ensures s c.requires.sound c.requires.holds in
    let slot = Strobed c.args.show in
    let filled =
    held_by d _ _ _ _ s (put_slot q slot s) c.in_ok-put_slot.ensures c.requires.holds
    (fills d s c.requires.sound q free.0 free.1 slot _ (ap (λ show. take (slot_size d) (3 ∷ 0 ∷ 0 ∷ show ∷ 0 ∷ 0 ∷ 0 ∷ 0 ∷ 0 ∷ 0 ∷ [])) c.from.ensures ∙ strobe_words d (length d.processes + q) c.args.show)) in
    subst (HasTail d STROBES) (sym filled.words) (tail_leads d (put_slot q slot s) (filled_written d s c.requires.sound q free.0 free.1 slot refl) StrobeRegion refl)

pub returns-in_default : goal.returns-in_default
returns-in_default g c s sound holds = none_strobed c.args.show s (c.in_default.ensures s sound holds)

pub returns : goal.returns
returns g c s sound holds =
    let d = c.args.design.now in
    let q = c.in-Some.slot in
    let free = c.in-Some.ensures s sound holds in
    let slot = Strobed c.args.show in
    let next = put_slot q slot s in
    let filled =
    held_by d _ _ _ _ s next c.in_ok-put_slot.ensures holds
    (fills d s sound q free.0 free.1 slot _ (ap (λ show. take (slot_size d) (3 ∷ 0 ∷ 0 ∷ show ∷ 0 ∷ 0 ∷ 0 ∷ 0 ∷ 0 ∷ 0 ∷ [])) c.from.ensures ∙ strobe_words d (length d.processes + q) c.args.show)) in
    let has = filled_written d s sound q free.0 free.1 slot refl in
    let joins = (regions_written d next has.shape has.queued).joins StrobeRegion (of_slot q) refl in
    let joined =
    held_by d _ _ _ _ next (record next { strobes = next.strobes ++ of_slot q ∷ [] }) c.in_ok-join.ensures filled
    (joins ∙ ap (λ n. joined d STROBES n (words_of d next)) (sym c.number.ensures)) in (
      _,
      some_strobed c.args.show s (subst (λ q. q < length s.slots) free.0 free.1),
      subst (λ q. Holds d (g.W.Words.contents c.args.words.now) c.join.new.patch (record (put_slot q slot s) { strobes = s.strobes ++ of_slot q ∷ [] })) free.0 joined,
    )
