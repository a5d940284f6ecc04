use Rattle.vf_macro.proofs.MacroTexts.{text_some}
use Rattle.vf_macro.proofs.laws.macro_texts_some.Goals as goal

pub returns : goal.returns
returns c = λ bytes. text_some c.passes_some.ensures bytes
