use Rattle.vf_top.proofs.WriteLemmas.{written_next, written_part}
use Rattle.vf_top.proofs.command.write.Goals as goal

pub returns-in_default : goal.returns-in_default
returns-in_default g c =
    let seen = g.K.Sink.seen in
    written_part (seen c.args.out.now) (seen c.loop-rest.out) (seen c.put_all.new.sink) c.args.text.now c.loop-rest.rest.now c.split_at.result.0.now c.line_length.result
    c.loop-rest.invariant c.split_at.ensures.front c.in_default.ensures.part c.in_default.ensures.fault

pub loop-rest-preserved : goal.loop-rest-preserved
loop-rest-preserved g c =
    let seen = g.K.Sink.seen in
    written_next (seen c.args.out.now) (seen c.loop-rest.out) (seen c.put_all.new.sink) c.args.text.now c.loop-rest.rest.now c.split_at.result.0.now c.split_at.result.1.now
    c.line_length.result c.loop-rest.invariant c.split_at.ensures.front c.split_at.ensures.back c.in-Ok.ensures.whole c.in-Ok.ensures.no_fault
