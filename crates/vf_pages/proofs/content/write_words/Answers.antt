use Rattle.std.proofs.Common.{◌∙◌, arith}
use Rattle.vf_pages.proofs.Words.{no_write, after-is, write-step}
use Rattle.std.proofs.lemmas.List.{take_all, length-set}
use Rattle.vf_pages.proofs.content.write_words.Goals as goal

pub loop-write-preserved : goal.loop-write-preserved
loop-write-preserved c =
    let ws = c.args.writes.now in
    let k = c.loop-write.write-index in
    let on = c.requires k no_write c.loop-write-test.true in
    record {
      len = length-set c.loop-write.words _ _ ∙ c.loop-write.invariant.len;
      each = λ i h. write-step ws k c.args.page c.args.words.now c.loop-write.words c.loop-write-test.true on c.loop-write.invariant.len c.loop-write.invariant.each i h;
    }

pub returns : goal.returns
returns c =
    after-is c.args.writes.now c.args.page c.args.words.now c.loop-write.words c.loop-write.invariant.len
    (λ i h. rw (take_all c.loop-write.write-index c.args.writes.now (omega arith)) at c.loop-write.invariant.each i h)
