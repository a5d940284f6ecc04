use Rattle.std.proofs.Common.{arith, refl}
use Rattle.std.proofs.lemmas.Result.{on_ok_weaker}
use Rattle.vf_scheduler.specs.State.{Future, leaves}
use Rattle.vf_layout.proofs.CallerLemmas.{sound_written}
use Rattle.vf_queue.proofs.HoldLemmas.{long, held_by}
use Rattle.vf_queue.proofs.ThreadLemmas.{is_there}
use Rattle.vf_queue.proofs.DelayLemmas.{last_below, joins_later}
use Rattle.vf_queue.proofs.delays.become_future.Goals as goal

pub leave-requires : goal.leave-requires
leave-requires g c = is_there c.args.design.now c.requires.underway.state c.args.process c.requires.underway.sound c.requires.running

pub put_in-requires-clause-long : goal.put_in-requires-clause-long
put_in-requires-clause-long g c =
    let d = c.args.design.now in
    let underway = c.requires.underway in
    long d _ _ underway.state (sound_written d underway.state underway.sound).shape underway.holds

pub put_in-requires-clause-last : goal.put_in-requires-clause-last
put_in-requires-clause-last g c =
    let underway = c.requires.underway in
    last_below c.args.design.now underway.state c.args.at c.last_until-last.result underway.sound
    (c.last_until-last.ensures underway.state underway.sound underway.holds)

pub put_in-requires-clause-number : goal.put_in-requires-clause-number
put_in-requires-clause-number g c =
    omega (arith, is_there c.args.design.now c.requires.underway.state c.args.process c.requires.underway.sound c.requires.running)

pub returns : goal.returns
returns g c =
    let d = c.args.design.now in
    let p = c.args.process in
    let base = g.W.Words.contents c.args.words.now in
    on_ok_weaker c.put_in.result
    (λ put s sound running holds.
    held_by d base _ _ _ (leaves p c.args.place (Future c.args.at) s) _ put (c.in_ok-leave.ensures base s (Future c.args.at) refl refl sound running holds)
    (joins_later d s p c.args.place sound running c.args.at c.last_until-last.result (c.last_until-last.ensures s sound holds)))
    c.put_in.ensures
