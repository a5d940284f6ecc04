use Rattle.std.proofs.Common.{◌∙◌, ap, sym}
use Rattle.std.proofs.lemmas.Result.{on_ok_weaker}
use Rattle.vf_scheduler.specs.State.{Later}
use Rattle.vf_scheduler.specs.Words.{words_of}
use Rattle.vf_layout.proofs.CallerLemmas.{sound_written}
use Rattle.vf_queue.specs.Future.{put_in}
use Rattle.vf_queue.specs.Updates.{update_of}
use Rattle.vf_queue.proofs.HoldLemmas.{long, held_by}
use Rattle.vf_queue.proofs.DelayLemmas.{last_below}
use Rattle.vf_queue.proofs.UpdateLemmas.{with_slot, later_words, joins_later}
use Rattle.vf_queue.proofs.posts.post_later.Goals as goal

pub put_update-requires-clause-long : goal.put_update-requires-clause-long
put_update-requires-clause-long g c =
    let d = c.args.design.now in
    let underway = c.requires.free.underway in
    long d _ _ underway.state (sound_written d underway.state underway.sound).shape underway.holds

pub put_in-requires-clause-long : goal.put_in-requires-clause-long
put_in-requires-clause-long g c =
    let d = c.args.design.now in
    let underway = c.requires.free.underway in
    long d _ _ underway.state (sound_written d underway.state underway.sound).shape underway.holds

pub put_in-requires-clause-last : goal.put_in-requires-clause-last
put_in-requires-clause-last g c =
    let underway = c.requires.free.underway in
    last_below c.args.design.now underway.state c.args.at c.last_until-last.result underway.sound
    (c.last_until-last.ensures underway.state underway.sound underway.holds)

pub returns : goal.returns
returns g c =
    let d = c.args.design.now in
    let u = update_of c.args.update.now in
    let q = c.args.slot in
    on_ok_weaker c.put_in.result
    (λ put s sound free holds.
    let next = with_slot d s sound q free u (Later c.args.at u) in
    held_by d _ _ _ _ next _ put (held_by d _ _ _ _ s next c.in_ok-put_update.ensures holds (later_words d s sound q free u c.args.at))
    (joins_later d s sound q free u c.args.at c.last_until-last.result (c.last_until-last.ensures s sound holds)
    ∙ ap (λ n. put_in d c.last_until-last.result n (words_of d next)) (sym c.number.ensures)))
    c.put_in.ensures
