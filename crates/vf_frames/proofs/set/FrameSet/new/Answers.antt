use Rattle.vf_frames.proofs.SetLemmas.{frames_in-no_words}
use Rattle.std.proofs.Common.{length, ap, ◌∙◌, arith}
use Rattle.vf_frames.specs.FrameSets.{frames_in}
use Rattle.vf_frames.proofs.set.FrameSet.new.Goals as goal

pub returns-clause-empty : goal.returns-clause-empty
returns-clause-empty c = ap (frames_in c.args.limit) c.in_ok-words.ensures.items ∙ frames_in-no_words c.args.limit

pub invariant_of-result : goal.invariant_of-result
invariant_of-result c =
    let none = ap (λ ws. length (frames_in c.args.limit ws)) c.in_ok-words.ensures.items in
    record {
      wide = (omega (arith, ap length c.in_ok-words.ensures.items), omega (arith, c.in_ok-words.ensures.capacity));
      counted = omega (arith, none, ap length (frames_in-no_words c.args.limit));
    }
