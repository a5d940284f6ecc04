use Rattle.std.proofs.Common.{◌∙◌, ap, refl, subst, sym}
use Rattle.std.proofs.lemmas.Result.{on_ok_weaker}
use Rattle.vf_elaborated.specs.Addresses.{NONBLOCKING}
use Rattle.vf_scheduler.specs.State.{Due}
use Rattle.vf_scheduler.specs.Words.{words_of}
use Rattle.vf_layout.specs.Regions.{NonblockingRegion, joined}
use Rattle.vf_layout.proofs.CallerLemmas.{sound_written}
use Rattle.vf_queue.specs.Updates.{update_of}
use Rattle.vf_queue.specs.Writing.{HasTail}
use Rattle.vf_queue.proofs.HoldLemmas.{long, held_by}
use Rattle.vf_queue.proofs.KeptLemmas.{tail_leads}
use Rattle.vf_queue.proofs.UpdateLemmas.{with_slot, posted_written, due_words, joins_nonblocking}
use Rattle.vf_queue.proofs.posts.post_now.Goals as goal

pub put_update-requires-clause-long : goal.put_update-requires-clause-long
put_update-requires-clause-long g c =
    let d = c.args.design.now in
    let underway = c.requires.free.underway in
    long d _ _ underway.state (sound_written d underway.state underway.sound).shape underway.holds

pub join-requires-clause-long : goal.join-requires-clause-long
join-requires-clause-long g c =
    let d = c.args.design.now in
    let underway = c.requires.free.underway in
    long d _ _ underway.state (sound_written d underway.state underway.sound).shape underway.holds

pub join-requires-clause-tail : goal.join-requires-clause-tail
join-requires-clause-tail g c =
    let d = c.args.design.now in
    let u = update_of c.args.update.now in
    let underway = c.requires.free.underway in
    let s = underway.state in
    let q = c.args.slot in
    let next = with_slot d s underway.sound q c.requires.free.free u (Due u) in
    let put = held_by d _ _ _ _ s next c.in_ok-put_update.ensures underway.holds (due_words d s underway.sound q c.requires.free.free u) in
    subst (HasTail d NONBLOCKING) (sym put.words)
    (tail_leads d next (posted_written d s underway.sound q c.requires.free.free u (Due u) refl) NonblockingRegion refl)

pub returns : goal.returns
returns g c =
    let d = c.args.design.now in
    let u = update_of c.args.update.now in
    let q = c.args.slot in
    on_ok_weaker c.join.result
    (λ join s sound free holds.
    let next = with_slot d s sound q free u (Due u) in
    held_by d _ _ _ _ next _ join (held_by d _ _ _ _ s next c.in_ok-put_update.ensures holds (due_words d s sound q free u))
    (joins_nonblocking d s sound q free u ∙ ap (λ n. joined d NONBLOCKING n (words_of d next)) (sym c.number.ensures)))
    c.join.ensures
