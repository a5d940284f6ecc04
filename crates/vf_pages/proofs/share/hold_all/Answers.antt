use Rattle.std.proofs.Common.{arith}
use Rattle.vf_frames.proofs.CallerLemmas.{rest-then, pool-then, no-win-then}
use Rattle.vf_pages.proofs.Frames.{gain-one}
use Rattle.vf_pages.proofs.Shuffles.{keeps-beside, occurs-next, next-there, next-absent}
use Rattle.vf_pages.proofs.share.hold_all.Goals as goal

pub hold-requires-clause-there : goal.hold-requires-clause-there
hold-requires-clause-there g c =
    next-there c.loop-one.one-index c.args.held.now c.one-item.result _ c.loop-one-test.true c.one-item.is c.requires.covers

pub hold-requires-clause-absent : goal.hold-requires-clause-absent
hold-requires-clause-absent g c =
    next-absent c.loop-one.one-index c.args.held.now c.one-item.result (g.F.Frames.seen c.args.from.now).frames (g.F.Frames.seen c.args.token.now).frames _ c.loop-one-test.true c.one-item.is c.requires.covers c.requires.absent c.loop-one.invariant.held

pub loop-one-preserved : goal.loop-one-preserved
loop-one-preserved g c =
    let inv = c.loop-one.invariant in
    let got = c.hold.ensures.held in
    record {
      held = λ f. omega (arith, inv.held f, gain-one _ _ _ got.frames f, occurs-next f c.loop-one.one-index c.args.held.now c.one-item.result c.loop-one-test.true c.one-item.is);
      rest = rest-then _ _ _ inv.rest got.rest;
      notes = no-win-then _ _ _ inv.notes got.notes;
      kept = keeps-beside _ _ _ _ _ _ _ inv.kept c.hold.ensures.kept;
      pool = pool-then _ _ _ _ _ _ inv.pool c.hold.ensures.pool;
    }
