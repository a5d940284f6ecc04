use Rattle.std.proofs.Common.{◌∙◌, ap, slice_index, arith}
use Rattle.vf_frames.proofs.SetLemmas.{index-more}
use Rattle.vf_frames.proofs.set.lengthen.Goals as goal

pub loop-words-preserved : goal.loop-words-preserved
loop-words-preserved c =
    let at = c.loop-words.invariant in
    record {
      same = λ k. ap (λ ws. slice_index ws k) c.push_reserved.ensures.items ∙ index-more c.loop-words.words.items k ∙ at.same k;
      most = omega arith;
      capacity = c.push_reserved.ensures.capacity ∙ at.capacity;
    }
