use Rattle.std.proofs.Common.{sym, ◌∙◌, arith}
use Rattle.vf_frames.proofs.SetLemmas.{bit_is-test, has-frames_in, has-past}
use Rattle.vf_frames.proofs.set.FrameSet.contains.Goals as goal

pub returns-then-index-len : goal.returns-then-index-len
returns-then-index-len c =
    let set = c.args.self.now in
    bit_is-test set.words.items c.args.frame _ (omega arith) c.index.ensures
    ∙ sym (has-frames_in set.limit set.words.items c.args.frame c.requires)

pub returns-else-index-len : goal.returns-else-index-len
returns-else-index-len c =
    let set = c.args.self.now in
    sym (has-past set.limit set.words.items c.args.frame (omega arith))
