use Rattle.vf_parse.proofs.Wholes.{answer_tree}
use Rattle.vf_parse.proofs.whole.fitting.Goals as goal

pub returns-in-Ok : goal.returns-in-Ok
returns-in-Ok c = answer_tree c.args.tokens.now _ c.in-Ok.ensures c.requires.none c.requires.shallow
