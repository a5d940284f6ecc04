use Rattle.std.proofs.Common.{refl}
use Rattle.vf_lexeme.specs.declared.kinds.Passed.TheVariants.{Text, Directive}
use Rattle.vf_lex.specs.Inner.{around}
use Rattle.vf_lex.proofs.ReadLemmas.{passed_by, passed_on, passed_fault}
use Rattle.vf_lex.proofs.read.untaken_element.Goals as goal

pub returns-in-Ok-Text-default-clause-effect : goal.returns-in-Ok-Text-default-clause-effect
returns-in-Ok-Text-default-clause-effect c =
    let a = c.in-Ok-Text-default in
    passed_by c.args.place (around c.args.reader.now) c.args.text.now a.field-0-0 Text a.rest.now _ c.requires.passed
    a.ensures.found a.field-0-0-is refl

pub returns-in-Ok-Directive-default-clause-effect : goal.returns-in-Ok-Directive-default-clause-effect
returns-in-Ok-Directive-default-clause-effect c =
    let a = c.in-Ok-Directive-default in
    passed_on c.directive_effect.result (around c.directive_effect.new.reader) c.args.place (around c.args.reader.now) c.args.text.now
    a.field-0-0 Directive a.rest.now
    c.requires.passed a.ensures.found a.field-0-0-is c.directive_effect.ensures.effect

pub returns-in-Err-clause-effect : goal.returns-in-Err-clause-effect
returns-in-Err-clause-effect c =
    passed_fault c.args.place (around c.args.reader.now) c.args.text.now c.in-Err.fault c.open_kind.result c.requires.passed
    c.in-Err.ensures.refused c.open_kind.ensures
