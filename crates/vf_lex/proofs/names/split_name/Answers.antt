use Rattle.vf_lex.proofs.NameLemmas.{named, after}
use Rattle.vf_lex.proofs.names.split_name.Goals as goal

pub returns-clause-name : goal.returns-clause-name
returns-clause-name c = named _ _ _ c.name.ensures.found

pub returns-clause-rest : goal.returns-clause-rest
returns-clause-rest c = after _ _ _ c.name.ensures.found
