use Rattle.std.proofs.Common.{refl}
use Rattle.vf_lexeme.specs.declared.kinds.Lexeme.TheVariants.{Blank, Token, Directive}
use Rattle.vf_lex.specs.Inner.{around}
use Rattle.vf_lex.proofs.ReadLemmas.{took, took_on, took_fault}
use Rattle.vf_lex.proofs.read.taken_element.Goals as goal

pub returns-in-Blank-clause-effect : goal.returns-in-Blank-clause-effect
returns-in-Blank-clause-effect c =
    took c.args.place (around c.args.reader.now) c.args.text.now c.in-Ok.found Blank c.in-Ok.rest.now _ c.requires.taken
    c.in-Ok.ensures.found c.in-Blank.is refl

pub returns-in-Token-clause-effect : goal.returns-in-Token-clause-effect
returns-in-Token-clause-effect c =
    took_on c.token_effect.result (around c.token_effect.new.reader) c.args.place (around c.args.reader.now) c.args.text.now c.in-Ok.found
    (Token c.in-Token.kind) c.in-Ok.rest.now
    c.requires.taken c.in-Ok.ensures.found c.in-Token.is c.token_effect.ensures.effect

pub returns-in-Directive-clause-effect : goal.returns-in-Directive-clause-effect
returns-in-Directive-clause-effect c =
    took_on c.directive_effect.result (around c.directive_effect.new.reader) c.args.place (around c.args.reader.now) c.args.text.now
    c.in-Ok.found Directive c.in-Ok.rest.now
    c.requires.taken c.in-Ok.ensures.found c.in-Directive.is c.directive_effect.ensures.effect

pub returns-in-Err-clause-effect : goal.returns-in-Err-clause-effect
returns-in-Err-clause-effect c =
    took_fault c.args.place (around c.args.reader.now) c.args.text.now c.in-Err.fault c.kind_of.result c.requires.taken
    c.in-Err.ensures.refused c.kind_of.ensures
