use Rattle.std.proofs.Common.{◌++◌, ◌∷◌, [], refl, arith, subst, sym}
use Rattle.std.proofs.lemmas.Result.{on_ok_weaker}
use Rattle.vf_elaborated.specs.Addresses.{ACTIVE}
use Rattle.vf_elaborated.proofs.CallerLemmas.{thread_inside}
use Rattle.vf_scheduler.specs.State.{of_process}
use Rattle.vf_scheduler.specs.Turning.{activated}
use Rattle.vf_layout.specs.Regions.{ActiveRegion}
use Rattle.vf_layout.proofs.CallerLemmas.{regions_written}
use Rattle.vf_queue.specs.Writing.{HasTail}
use Rattle.vf_queue.proofs.WriteLemmas.{then_write}
use Rattle.vf_queue.proofs.HoldLemmas.{long, held_by}
use Rattle.vf_queue.proofs.KeptLemmas.{tail_leads}
use Rattle.vf_queue.proofs.PromotionLemmas.{activated_written, activated_words}
use Rattle.vf_queue.proofs.promotions.activate.Goals as goal

pub join-requires-clause-long : goal.join-requires-clause-long
join-requires-clause-long g c = long c.args.design.now _ _ c.requires.joins.state c.requires.joins.stands.shape c.requires.joins.holds

pub join-requires-clause-tail : goal.join-requires-clause-tail
join-requires-clause-tail g c =
    let d = c.args.design.now in
    let p = c.args.process in
    let base = g.W.Words.contents c.args.words.now in
    let t = c.requires.joins.state in
    let has = c.requires.joins.stands in
    let size = long d base _ t has.shape c.requires.joins.holds in
    let inside = thread_inside d p c.requires.process in
    let put =
    held_by d base _ _ _ t (activated (of_process p) t)
    (then_write base _ _ _ _ _ (c.in_ok-put.ensures base (omega (arith, c.thread_at-at.ensures, size, inside)))
    (c.in_ok-put-2.ensures base (omega (arith, c.thread_at-at.ensures, size, inside))))
    c.requires.joins.holds (activated_words d t has p _ c.requires.process c.thread_at-at.ensures) in
    subst (HasTail d ACTIVE) (sym put.words) (tail_leads d (activated (of_process p) t) (activated_written d t has p) ActiveRegion refl)

pub returns : goal.returns
returns g c =
    let d = c.args.design.now in
    let p = c.args.process in
    let base = g.W.Words.contents c.args.words.now in
    on_ok_weaker c.join.result
    (λ join t has holds.
    let next = activated (of_process p) t in
    let stands = activated_written d t has p in
    let size = long d base _ t has.shape holds in
    let inside = thread_inside d p c.requires.process in
    held_by d base _ _ _ next (record next { active = next.active ++ of_process p ∷ [] }) join
    (held_by d base _ _ _ t next
    (then_write base _ _ _ _ _ (c.in_ok-put.ensures base (omega (arith, c.thread_at-at.ensures, size, inside)))
    (c.in_ok-put-2.ensures base (omega (arith, c.thread_at-at.ensures, size, inside))))
    holds (activated_words d t has p _ c.requires.process c.thread_at-at.ensures))
    ((regions_written d next stands.shape stands.queued).joins ActiveRegion (of_process p) refl))
    c.join.ensures
