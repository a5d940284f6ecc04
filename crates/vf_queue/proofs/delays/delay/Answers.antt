use Rattle.std.proofs.Common.{◌+◌, ◌^◌, ◌∙◌, arith, ⊎_elim}
use Rattle.std.proofs.lemmas.Bool.{cases_lt}
use Rattle.vf_layout.proofs.CallerLemmas.{sound_written}
use Rattle.vf_queue.proofs.HoldLemmas.{long, time_read}
use Rattle.vf_queue.proofs.DelayLemmas.{delayed_now, delayed_late, delayed_until}
use Rattle.vf_queue.proofs.delays.delay.Goals as goal

pub returns-then-delay-eq0 : goal.returns-then-delay-eq0
returns-then-delay-eq0 g c s sound running holds =
    (_, delayed_now c.args.process c.args.place c.args.delay s c.if-delay-eq0.true, c.in_ok-become_inactive.ensures s sound running holds)

pub front-now-requires-clause-long : goal.front-now-requires-clause-long
front-now-requires-clause-long g c =
    let d = c.args.design.now in
    let underway = c.requires.underway in
    long d _ _ underway.state (sound_written d underway.state underway.sound).shape underway.holds

pub returns-in_default : goal.returns-in_default
returns-in_default g c s sound running holds =
    let d = c.args.design.now in
    let now = c.front-now.ensures ∙ time_read d _ _ s (sound_written d s sound).shape holds in
    delayed_late c.args.process c.args.place c.args.delay s c.if-delay-eq0.false
    (⊎_elim (λ below. absurd (c.in_default.ensures below)) (λ past. omega (arith, past, now)) (cases_lt (c.front-now.result + c.args.delay) (2 ^ 64)))

pub returns : goal.returns
returns g c s sound running holds =
    let d = c.args.design.now in
    let now = c.front-now.ensures ∙ time_read d _ _ s (sound_written d s sound).shape holds in
    let sum = c.in-Some.ensures in (
      _,
      delayed_until c.args.process c.args.place c.args.delay s c.in-Some.at c.if-delay-eq0.false (omega (arith, sum.0, now)) (omega (arith, sum.1, now)),
      c.in_ok-become_future.ensures s sound running holds,
    )
