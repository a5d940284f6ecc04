use Rattle.std.proofs.Common.{ap, subst, sym, ◌∙◌, arith}
use Rattle.vf_lex.specs.declared.token.Token.{Token}
use Rattle.vf_expression.specs.Grammar.{Tokens}
use Rattle.vf_parse.specs.LeftOut.{begins_left_out, IsLeftOutAt}
use Rattle.vf_parse.proofs.Counting.{rest_is, left_more, left_none, left_found}
use Rattle.vf_parse.proofs.left_out.left_out.Goals as goal

pub loop-index-preserved : goal.loop-index-preserved
loop-index-preserved c =
    left_more c.args.tokens.now c.loop-index.index c.loop-index.invariant
    (ap (λ (us : Tokens). begins_left_out us) (sym (rest_is c.args.tokens.now c.loop-index.index)) ∙ sym c.begins_left_out.ensures ∙ c.if-begins_left_out.false)

pub returns : goal.returns
returns c = left_none c.args.tokens.now c.loop-index.index (omega arith) c.loop-index.invariant

pub returns-then-begins_left_out : goal.returns-then-begins_left_out
returns-then-begins_left_out c =
    let ts = c.args.tokens.now in
    let i = c.loop-index.index in
    let found = left_found ts i c.index-tokens-index.result (omega arith) c.index-tokens-index.is (ap (λ (us : Tokens). begins_left_out us) (sym (rest_is ts i)) ∙ sym c.begins_left_out.ensures ∙ c.if-begins_left_out.true) c.loop-index.invariant in
    subst (λ (u : Token). IsLeftOutAt ts u.place) c.index-tokens-index.is found
