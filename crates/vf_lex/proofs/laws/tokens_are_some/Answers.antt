use Rattle.vf_lex.proofs.Some.{tokens_are_some}
use Rattle.vf_lex.proofs.laws.tokens_are_some.Goals as goal

pub returns : goal.returns
returns c = tokens_are_some c.begins_some.ensures c.begins_takes.ensures c.passes_some.ensures c.passes_takes.ensures
    c.macro_texts_some.ensures
