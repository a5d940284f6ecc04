-- Tokens that are one statement.
use Rattle.std.proofs.Common.{◌≡◌, ◌≢◌, Bool, Result, Ok, Err, IfOk, IfErr, [], ◌∷◌, Option, Some, None, refl, subst, sym, ◌∙◌}
use Rattle.vf_tree.specs.declared.statements.Stmt.{Stmt}
use Rattle.vf_expression.specs.declared.stop.Stop.{Stop}
use Rattle.vf_expression.specs.declared.stop.Stop.TheVariants.{Unexpected, Memory}
use Rattle.vf_expression.specs.Grammar.{Tokens}
use Rattle.vf_expression.specs.Reading.{◌>>=◌, Gives}
use Rattle.vf_expression.proofs.CallerLemmas.{bind_some, some_is}
use Rattle.vf_statement.specs.Grammar.{IsStmt, IsStatement, StatementsAreOne}
use Rattle.vf_statement.specs.Reading.{EndsStmt, after_word, stmt_at, ended, whole_of}
use Rattle.vf_statement.proofs.Sound.{stmt_is}
use Rattle.vf_statement.proofs.Complete.{stmt_again}

ended_is : (ts : Tokens) (u : Unit {0}) → ended ts ≡ Some u → ts ≡ []
ended_is [] u e = refl
ended_is (t ∷ rest) u e = absurd cc

pub whole_is : (ts : Tokens) (tree : Stmt) → whole_of ts ≡ Some tree → IsStatement ts tree
unfolding whole_of
whole_is ts tree e =
    let x = bind_some (stmt_at 200 ts) (λ x. ended x.2 >>= λ end. Some x.0) tree e in
    let end = bind_some (ended x.0.2) (λ end. Some x.0.0) tree x.2 in
    let read = stmt_is 200 ts x.0 x.1 in
    let here : IsStmt 200 read.lone x.0.1 ts [] x.0.0 = subst (λ (rest : Tokens). IsStmt 200 read.lone x.0.1 ts rest x.0.0) (ended_is x.0.2 end.0 end.1) read.is in
    record { lone = read.lone; depth = x.0.1; is = subst (λ (t : Stmt). IsStmt 200 read.lone x.0.1 ts [] t) (some_is x.0.0 tree end.2) here }

ends_nothing : (o : Bool) → EndsStmt o []
unfolding after_word
ends_nothing o lone = refl

pub whole_again : (ts : Tokens) (tree : Stmt) → IsStatement ts tree → whole_of ts ≡ Some tree
unfolding whole_of
whole_again ts tree e = rw (stmt_again 200 e.lone e.depth ts [] tree e.is (ends_nothing e.lone)) refl

pub one_statement : StatementsAreOne
one_statement ts one other a b = some_is one other (sym (whole_again ts one a) ∙ whole_again ts other b)

pub answer_found : (ts : Tokens) (r : Result Stmt Stop) → Gives (λ tree. tree) r (whole_of ts) → IfOk r (λ tree. IsStatement ts tree)
answer_found ts (Ok tree) e = whole_is ts tree e
answer_found ts (Err stop) e = tt

none_for : (ts : Tokens) → whole_of ts ≡ None → (other : Stmt) → IsStatement ts other → ⊥
none_for ts e other is = let both : ◌≡◌ {A = Option Stmt} None (Some other) = sym e ∙ whole_again ts other is in absurd cc

pub answer_none : (ts : Tokens) (r : Result Stmt Stop) → Gives (λ tree. tree) r (whole_of ts) → IfErr r (λ stop. stop ≢ Memory → (other : Stmt) → IsStatement ts other → ⊥)
answer_none ts (Ok tree) e = tt
answer_none ts (Err (Unexpected left)) e = λ no_memory other is. none_for ts e other is
answer_none ts (Err Memory) e = λ no_memory. absurd (no_memory refl)
