use Rattle.vf_macro.proofs.MacroTexts.{countable, is_text}
use Rattle.vf_macro.proofs.scan.macro_text.Goals as goal

pub counted-requires : goal.counted-requires
counted-requires c = countable c.args.bytes.now c.after_text-rest.result.now c.after_text-rest.ensures.reaches

pub returns-clause-text : goal.returns-clause-text
returns-clause-text c = is_text c.args.bytes.now c.in_ok-text.text.items c.after_text-rest.result.now
    c.after_text-rest.ensures.reaches c.in_ok-text.ensures
