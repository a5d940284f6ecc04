use Rattle.vf_macro.proofs.MacroTexts.{text_once}
use Rattle.vf_macro.proofs.laws.macro_texts_once.Goals as goal

pub returns : goal.returns
returns c = λ bytes text rest other more a b. text_once c.passes_once.ensures a b
