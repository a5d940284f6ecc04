use Rattle.std.proofs.Common.{◌∙◌}
use Rattle.vf_pages.proofs.Bases.{same_pages}
use Rattle.vf_pages.proofs.base.same_words.Goals as goal

pub returns : goal.returns
returns c = c.eq.ensures ∙ same_pages c.args.words.now c.args.other.now c.told-words c.told-other
