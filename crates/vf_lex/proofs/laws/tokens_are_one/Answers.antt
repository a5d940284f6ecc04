use Rattle.vf_lex.proofs.Wholes.{tokens_are_one}
use Rattle.vf_lex.proofs.laws.tokens_are_one.Goals as goal

pub returns : goal.returns
returns c = tokens_are_one c.begins_once.ensures c.passes_once.ensures c.macro_texts_once.ensures
