use Rattle.std.proofs.Common.{sym, ◌∙◌}
use Rattle.vf_design.proofs.Laid.{length-words_of}
use Rattle.vf_design.proofs.design.Design.word_count.Goals as goal

pub returns-clause-words : goal.returns-clause-words
returns-clause-words c = λ s sound. length-words_of c.args.self.now s sound ∙ sym c.size.ensures.count
