use Rattle.std.proofs.Common.{◌∙◌, ◌++◌, ◌∷◌, [], ap, refl, arith, subst, sym}
use Rattle.std.proofs.lemmas.Result.{on_ok_weaker}
use Rattle.vf_elaborated.specs.WellFormed.{IsWellFormed}
use Rattle.vf_elaborated.specs.Addresses.{NONBLOCKING}
use Rattle.vf_elaborated.proofs.CallerLemmas.{slot_inside, words_small}
use Rattle.vf_scheduler.specs.State.{Due, of_slot}
use Rattle.vf_scheduler.specs.Posting.{put_slot}
use Rattle.vf_scheduler.specs.Words.{words_of}
use Rattle.vf_layout.specs.Regions.{NonblockingRegion, joined}
use Rattle.vf_layout.proofs.CallerLemmas.{regions_written}
use Rattle.vf_queue.specs.Writing.{HasTail}
use Rattle.vf_queue.proofs.WriteLemmas.{then_write}
use Rattle.vf_queue.proofs.HoldLemmas.{long, held_by}
use Rattle.vf_queue.proofs.KeptLemmas.{tail_leads}
use Rattle.vf_queue.proofs.SlotLemmas.{slot_some}
use Rattle.vf_queue.proofs.PromotionLemmas.{due_written, due_set}
use Rattle.vf_queue.proofs.promotions.make_due.Goals as goal

pub join-requires-clause-long : goal.join-requires-clause-long
join-requires-clause-long g c = long c.args.design.now _ _ c.requires.later.joins.state c.requires.later.joins.stands.shape c.requires.later.joins.holds

pub join-requires-clause-tail : goal.join-requires-clause-tail
join-requires-clause-tail g c =
    let d = c.args.design.now in
    let q = c.args.slot in
    let base = g.W.Words.contents c.args.words.now in
    let t = c.requires.later.joins.state in
    let has = c.requires.later.joins.stands in
    let size = long d base _ t has.shape c.requires.later.joins.holds in
    let inside = slot_inside d q c.requires.slot in
    let next = put_slot q (Due c.requires.later.update) t in
    let put =
    held_by d base _ _ _ t next
    (then_write base _ _ _ _ _ (c.in_ok-put.ensures base (omega (arith, c.slot_at-at.ensures, size, inside, slot_some d)))
    (c.in_ok-put-2.ensures base (omega (arith, c.slot_at-at.ensures, size, inside, slot_some d))))
    c.requires.later.joins.holds (due_set d t has q _ _ c.requires.later.update c.requires.slot c.requires.later.later c.slot_at-at.ensures) in
    subst (HasTail d NONBLOCKING) (sym put.words) (tail_leads d next (due_written d t has q _ c.requires.later.update c.requires.later.later) NonblockingRegion refl)

pub overflow_add-at : goal.overflow_add-at
overflow_add-at g c =
    let d = c.args.design.now in
    let small = words_small d (subst IsWellFormed c.design.view_is c.design.invariant.formed) in
    omega (arith, small, slot_inside d c.args.slot c.requires.slot, c.slot_at-at.ensures, slot_some d)

pub returns : goal.returns
returns g c =
    let d = c.args.design.now in
    let q = c.args.slot in
    let base = g.W.Words.contents c.args.words.now in
    on_ok_weaker c.join.result
    (λ join t at u has later holds.
    let next = put_slot q (Due u) t in
    let stands = due_written d t has q at u later in
    let size = long d base _ t has.shape holds in
    let inside = slot_inside d q c.requires.slot in
    held_by d base _ _ _ next (record next { nonblocking = next.nonblocking ++ of_slot q ∷ [] }) join
    (held_by d base _ _ _ t next
    (then_write base _ _ _ _ _ (c.in_ok-put.ensures base (omega (arith, c.slot_at-at.ensures, size, inside, slot_some d)))
    (c.in_ok-put-2.ensures base (omega (arith, c.slot_at-at.ensures, size, inside, slot_some d))))
    holds (due_set d t has q at _ u c.requires.slot later c.slot_at-at.ensures))
    ((regions_written d next stands.shape stands.queued).joins NonblockingRegion (of_slot q) refl ∙ ap (λ n. joined d NONBLOCKING n (words_of d next)) (sym c.number.ensures)))
    c.join.ensures
