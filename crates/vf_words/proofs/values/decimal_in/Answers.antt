use Rattle.std.proofs.Common.{◌∙◌, arith}
use Rattle.vf_words.proofs.DecimalLemmas.{read_number, no_number}
use Rattle.vf_words.proofs.values.decimal_in.Goals as goal

pub returns-in-Some-clause-number : goal.returns-in-Some-clause-number
returns-in-Some-clause-number c =
    c.within.ensures.number ∙ read_number c.args.numbers _ c.args.text.now c.in-Some.number c.as_bytes.ensures.value c.in-Some.ensures.0 c.in-Some.ensures.1

pub returns-in-None-clause-number : goal.returns-in-None-clause-number
returns-in-None-clause-number c =
    no_number c.args.numbers _ c.args.text.now (omega arith) c.as_bytes.ensures.value c.in-None.ensures
