use Rattle.std.proofs.Common.{vec_len, arith}
use Rattle.vf_machine_tests.proofs.WalkLemmas.{next_inside}
use Rattle.vf_machine_tests.proofs.walk.Walk.step.Goals as goal

pub perform-requires : goal.perform-requires
perform-requires c =
    let w = c.self.inside in
    rw c.deref.ensures.value
    (next_inside w.design c.as_slice.result.now c.args.limits.now w.header w.flat.words.items c.turn.new.into (vec_len w.flat.words) c.self.invariant.holds c.in_ok-turn.ensures
    (omega (arith, w.flat.words.ok)))
