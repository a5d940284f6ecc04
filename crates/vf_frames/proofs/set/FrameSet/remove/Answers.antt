use Rattle.std.proofs.Common.{arith}
use Rattle.vf_frames.proofs.SetLemmas.{bit_is-remove, frames_in-lose, within-words, frames_in-one_less}
use Rattle.vf_frames.proofs.set.FrameSet.remove.Goals as goal

pub index_mut-requires : goal.index_mut-requires
index_mut-requires c =
    let set = c.args.self.now in
    omega (arith, within-words set.limit set.words.items c.args.frame c.requires)

pub returns-clause-each : goal.returns-clause-each
returns-clause-each c =
    let set = c.args.self.now in
    frames_in-lose set.limit c.args.frame set.words.items _
    (λ g _. bit_is-remove set.words.items c.args.frame c.index_mut.result.now (within-words set.limit set.words.items c.args.frame c.requires) c.index_mut.ensures.value g)

pub invariant_of-self : goal.invariant_of-self
invariant_of-self c =
    let set = c.args.self.now in
    let less = frames_in-one_less set.limit c.args.frame set.words.items _ c.requires
    (bit_is-remove set.words.items c.args.frame c.index_mut.result.now (within-words set.limit set.words.items c.args.frame c.requires) c.index_mut.ensures.value) in
    record {
      wide = (omega (arith, set.wide.0), omega (arith, set.wide.1));
      counted = omega (arith, set.counted, less);
    }

pub overflow_sub-self : goal.overflow_sub-self
overflow_sub-self c =
    let set = c.args.self.now in
    let less = frames_in-one_less set.limit c.args.frame set.words.items _ c.requires
    (bit_is-remove set.words.items c.args.frame c.index_mut.result.now (within-words set.limit set.words.items c.args.frame c.requires) c.index_mut.ensures.value) in
    omega (arith, set.counted, less)
