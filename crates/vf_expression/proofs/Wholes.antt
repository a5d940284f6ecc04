-- Tokens that are one expression.
use Rattle.std.proofs.Common.{◌≡◌, ◌≢◌, Result, Ok, Err, IfOk, IfErr, [], ◌∷◌, Option, Some, None, refl, subst, sym, ◌∙◌, arith}
use Rattle.vf_tree.specs.declared.expressions.TreeExpr.{TreeExpr}
use Rattle.vf_expression.specs.declared.stop.Stop.{Stop}
use Rattle.vf_expression.specs.declared.stop.Stop.TheVariants.{Unexpected, Memory}
use Rattle.vf_expression.specs.Grammar.{Tokens, IsExpr, IsExpression, ExpressionsAreOne}
use Rattle.vf_expression.specs.Reading.{Ends, ◌>>=◌, Gives, operator_at, opening_at, after, expr_at, ended, whole_of}
use Rattle.vf_expression.proofs.TokenLemmas.{bind_some, some_is}
use Rattle.vf_expression.proofs.Sound.{expr_is}
use Rattle.vf_expression.proofs.Complete.{expr_small, expr_again}

ended_is : (ts : Tokens) (u : Unit {0}) → ended ts ≡ Some u → ts ≡ []
ended_is [] u e = refl
ended_is (t ∷ rest) u e = absurd cc

pub whole_is : (ts : Tokens) (tree : TreeExpr) → whole_of ts ≡ Some tree → IsExpression ts tree
unfolding whole_of
whole_is ts tree e =
    let x = bind_some (expr_at 200 1 ts) (λ x. ended x.2 >>= λ end. Some x.0) tree e in
    let end = bind_some (ended x.0.2) (λ end. Some x.0.0) tree x.2 in
    let is = (expr_is 200 1 ts x.0 x.1).is in
    let here : IsExpr 200 1 x.0.1 ts [] x.0.0 = subst (λ (rest : Tokens). IsExpr 200 1 x.0.1 ts rest x.0.0) (ended_is x.0.2 end.0 end.1) is in
    record { depth = x.0.1; is = subst (λ (t : TreeExpr). IsExpr 200 1 x.0.1 ts [] t) (some_is x.0.0 tree end.2) here }

ends_nothing : Ends 1 []
unfolding operator_at opening_at after
ends_nothing = record { low = omega arith; op = refl; select = refl; pick = λ _. refl }

pub whole_again : (ts : Tokens) (tree : TreeExpr) → IsExpression ts tree → whole_of ts ≡ Some tree
unfolding whole_of
whole_again ts tree e = rw (expr_again 200 1 e.depth ts [] tree e.is (expr_small 200 1 e.depth ts [] tree e.is) ends_nothing) refl

pub one_expression : ExpressionsAreOne
one_expression ts one other a b = some_is one other (sym (whole_again ts one a) ∙ whole_again ts other b)

pub answer_found : (ts : Tokens) (r : Result TreeExpr Stop) → Gives (λ tree. tree) r (whole_of ts) → IfOk r (λ tree. IsExpression ts tree)
answer_found ts (Ok tree) e = whole_is ts tree e
answer_found ts (Err stop) e = tt

none_for : (ts : Tokens) → whole_of ts ≡ None → (other : TreeExpr) → IsExpression ts other → ⊥
none_for ts e other is = let both : ◌≡◌ {A = Option TreeExpr} None (Some other) = sym e ∙ whole_again ts other is in absurd cc

pub answer_none : (ts : Tokens) (r : Result TreeExpr Stop) → Gives (λ tree. tree) r (whole_of ts) → IfErr r (λ stop. stop ≢ Memory → (other : TreeExpr) → IsExpression ts other → ⊥)
answer_none ts (Ok tree) e = tt
answer_none ts (Err (Unexpected left)) e = λ no_memory other is. none_for ts e other is
answer_none ts (Err Memory) e = λ no_memory. absurd (no_memory refl)
