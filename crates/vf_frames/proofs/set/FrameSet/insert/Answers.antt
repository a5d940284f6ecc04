use Rattle.std.proofs.Common.{◌∙◌, ◌||◌, ◌==◌, ap, arith}
use Rattle.vf_frames.proofs.SetLemmas.{bit_is-insert, bit_is-same, frames_in-gain, frames_in-one_more}
use Rattle.vf_frames.proofs.set.FrameSet.insert.Goals as goal

pub returns-clause-each : goal.returns-clause-each
returns-clause-each c =
    let set = c.args.self.now in
    let words = c.lengthen.new.words.items in
    frames_in-gain set.limit c.args.frame set.words.items _ c.requires
    (λ g _. bit_is-insert words c.args.frame c.index_mut.result.now (omega arith) c.index_mut.ensures.value g
    ∙ ap (λ b. (g == c.args.frame) || b) (bit_is-same set.words.items words c.lengthen.ensures.same g))

pub invariant_of-self : goal.invariant_of-self
invariant_of-self c =
    let set = c.args.self.now in
    let words = c.lengthen.new.words.items in
    let more = frames_in-one_more set.limit c.args.frame set.words.items _
    (λ g. bit_is-insert words c.args.frame c.index_mut.result.now (omega arith) c.index_mut.ensures.value g
    ∙ ap (λ b. (g == c.args.frame) || b) (bit_is-same set.words.items words c.lengthen.ensures.same g)) in
    record {
      wide = (omega arith, omega arith);
      counted = omega (arith, set.counted, c.saturating_add-self.ensures, more.0, more.1);
    }
