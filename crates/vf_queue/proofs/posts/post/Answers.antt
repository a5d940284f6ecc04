use Rattle.std.proofs.Common.{◌+◌, ◌^◌, ◌≤◌, ◌∙◌, ap, arith, refl, subst, ⊎_elim, sym}
use Rattle.std.proofs.lemmas.Bool.{cases_lt}
use Rattle.vf_machine.specs.Machine.{stop}
use Rattle.vf_layout.proofs.CallerLemmas.{sound_written}
use Rattle.vf_queue.specs.Slots.{IsPosted}
use Rattle.vf_queue.specs.Updates.{update_of}
use Rattle.vf_queue.proofs.HoldLemmas.{long, time_read}
use Rattle.vf_queue.proofs.PostLemmas.{begun, one_posted, too_few, all_posted, no_time}
use Rattle.vf_queue.proofs.posts.post.Goals as goal

pub front-now-requires-clause-long : goal.front-now-requires-clause-long
front-now-requires-clause-long g c =
    let d = c.args.design.now in
    let underway = c.requires.underway in
    long d _ _ underway.state (sound_written d underway.state underway.sound).shape underway.holds

pub returns-in_default : goal.returns-in_default
returns-in_default g c s sound holds =
    let d = c.args.design.now in
    let now = c.front-now.ensures ∙ time_read d _ _ s (sound_written d s sound).shape holds in
    let late : 2 ^ 64 ≤ s.time + c.args.delay =
    ⊎_elim (λ below. absurd (c.in_default.ensures below)) (λ past. omega (arith, past, now)) (cases_lt (c.front-now.result + c.args.delay) (2 ^ 64)) in
    no_time d (g.W.Words.contents c.args.words.now) c.args.delay c.args.updates.now s _ refl late ∙ ap stop (sym (c.too_late.ensures s sound holds))

pub loop-update-init : goal.loop-update-init
loop-update-init g c s sound holds = begun c.args.design.now _ c.args.delay c.args.updates.now s _ sound holds

pub post_one-requires-clause-comes : goal.post_one-requires-clause-comes
post_one-requires-clause-comes g c =
    let d = c.args.design.now in
    let underway = c.requires.underway in
    let way = c.loop-update.invariant underway.state underway.sound underway.holds in
    let now = c.front-now.ensures ∙ time_read d _ _ underway.state (sound_written d underway.state underway.sound).shape underway.holds in
    record {
      underway = record { state = way.state; sound = way.sound_is; holds = way.holds };
      time = omega (arith, way.time, now, c.in-Some.ensures.1);
    }

pub returns-then-not-branch : goal.returns-then-not-branch
returns-then-not-branch g c s sound holds =
    let d = c.args.design.now in
    let base = g.W.Words.contents c.args.words.now in
    let way = c.loop-update.invariant s sound holds in
    let now = c.front-now.ensures ∙ time_read d _ _ s (sound_written d s sound).shape holds in
    let none =
    subst (IsPosted d base c.post_one.new.patch way.state c.args.delay (update_of c.update-item.result)) c.if-not-branch.true
    (c.in_ok-post_one.ensures way.state way.sound_is (omega (arith, way.time, now, c.in-Some.ensures.1)) way.holds) in
    too_few d base c.args.delay c.args.updates.now s _ _ way c.loop-update-test.true none

pub loop-update-preserved : goal.loop-update-preserved
loop-update-preserved g c s sound holds =
    let d = c.args.design.now in
    let base = g.W.Words.contents c.args.words.now in
    let way = c.loop-update.invariant s sound holds in
    let now = c.front-now.ensures ∙ time_read d _ _ s (sound_written d s sound).shape holds in
    let one =
    subst (IsPosted d base c.post_one.new.patch way.state c.args.delay (update_of c.update-item.result)) c.if-not-branch.false
    (c.in_ok-post_one.ensures way.state way.sound_is (omega (arith, way.time, now, c.in-Some.ensures.1)) way.holds) in
    one_posted d base c.args.delay c.args.updates.now s _ _ c.post_one.new.patch way c.update-item.result c.update-item.result c.loop-update-test.true c.update-item.is c.requires.fits
    (omega (arith, c.in-Some.ensures.0, now)) one.0 one.1

pub returns : goal.returns
returns g c s sound holds =
    let d = c.args.design.now in
    let way = c.loop-update.invariant s sound holds in
    let now = c.front-now.ensures ∙ time_read d _ _ s (sound_written d s sound).shape holds in (
      way.state,
      all_posted d _ c.args.delay c.args.updates.now s _ _ way (omega (arith, c.loop-update-test.false)) c.loop-update.auto.update-index-end (omega (arith, c.in-Some.ensures.0, now)),
      way.holds,
    )
