use Rattle.std.proofs.Common.{◌<◌, length, subst}
use Rattle.vf_queue.specs.Holding.{Holds}
use Rattle.vf_queue.specs.Updates.{update_of}
use Rattle.vf_queue.proofs.SlotLemmas.{some_free}
use Rattle.vf_queue.proofs.UpdateLemmas.{posted_now, posted_later}
use Rattle.vf_queue.proofs.posts.post_one.Goals as goal

pub post_now-requires-clause-free : goal.post_now-requires-clause-free
post_now-requires-clause-free g c =
    let underway = c.requires.comes.underway in
    let free = c.in-Some.ensures underway.state underway.sound underway.holds in
    record { underway = underway; free = record { least = free.0; below = free.1 } }

pub post_later-requires-clause-free : goal.post_later-requires-clause-free
post_later-requires-clause-free g c =
    let underway = c.requires.comes.underway in
    let free = c.in-Some.ensures underway.state underway.sound underway.holds in
    record { underway = underway; free = record { least = free.0; below = free.1 } }

pub returns-in_ok-post_now : goal.returns-in_ok-post_now
returns-in_ok-post_now g c s sound at holds =
    let free = c.in-Some.ensures s sound holds in (
      some_free s (subst (λ q. q < length s.slots) free.0 free.1),
      subst (Holds c.args.design.now (g.W.Words.contents c.args.words.now) c.post_now.new.patch)
          (posted_now s (update_of c.args.update.now) c.args.delay c.in-Some.slot free.0 c.if-delay-eq0.true)
          (c.in_ok-post_now.ensures s sound (record { least = free.0; below = free.1 }) holds),
    )

pub returns-in_ok-post_later : goal.returns-in_ok-post_later
returns-in_ok-post_later g c s sound at holds =
    let free = c.in-Some.ensures s sound holds in (
      some_free s (subst (λ q. q < length s.slots) free.0 free.1),
      subst (Holds c.args.design.now (g.W.Words.contents c.args.words.now) c.post_later.new.patch)
          (posted_later s (update_of c.args.update.now) c.args.delay c.in-Some.slot c.args.at free.0 c.if-delay-eq0.false at)
          (c.in_ok-post_later.ensures s sound (record { least = free.0; below = free.1 }) holds),
    )
