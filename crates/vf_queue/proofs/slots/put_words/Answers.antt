use Rattle.std.proofs.Common.{arith, subst}
use Rattle.vf_elaborated.specs.WellFormed.{IsWellFormed}
use Rattle.vf_elaborated.proofs.CallerLemmas.{words_small}
use Rattle.vf_queue.proofs.slots.put_words.Goals as goal

pub overflow_add-place : goal.overflow_add-place
overflow_add-place g c =
    let small = words_small c.args.design.now (subst IsWellFormed c.design.view_is c.design.invariant.formed) in
    omega (arith, small, c.requires.inside, c.loop-word.invariant.0, c.loop-word-test.true)
