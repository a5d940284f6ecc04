use Rattle.std.proofs.Common.{refl, inl, inr}
use Rattle.vf_top.proofs.SayLemmas.{refused_by}
use Rattle.vf_top.proofs.command.answer.Goals as goal

pub returns-in-Ok-clause-answer : goal.returns-in-Ok-clause-answer
returns-in-Ok-clause-answer g c =
    let err = g.E.Sink.seen c.args.err.now in
    let ran = c.in-Ok.ensures.ran err err in
    inl (record { text = ran.0; works = ran.1; out = ran.2; shelf = ran.3; err = refl })

pub returns-in-Err-clause-answer : goal.returns-in-Err-clause-answer
returns-in-Err-clause-answer g c =
    let ran = c.in-Err.ensures.ran (g.E.Sink.seen c.args.err.now) (g.E.Sink.seen c.tell.new.err) in
    inr (refused_by _ _ _ c.in-Err.refusal _ ran.0 ran.1 ran.2 ran.3 c.tell.ensures)
