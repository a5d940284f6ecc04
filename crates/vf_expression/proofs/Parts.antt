-- The lists and parts of expressions that other rules have too: what is read of them is what the grammar says, and all of it is read.
use Rattle.std.proofs.Common.{◌≡◌, ℕ, zero, suc, ◌<◌, ◌≤◌, List, ◌∷◌, length, Some, None, refl, codes}
use Rattle.vf_base.specs.declared.names.Place.{Place}
use Rattle.vf_lexeme.specs.declared.kinds.TokenKind.TheVariants as token
use Rattle.vf_tree.specs.declared.expressions.TreeExpr.{TreeExpr}
use Rattle.vf_tree.specs.declared.expressions.Select.{Select}
use Rattle.vf_expression.specs.Grammar.{Tokens, sign, word, IsExprs, IsSelects, IsExpr}
use Rattle.vf_expression.specs.Reading.{Ends, after, opening_at, exprs_at, selects_at, closed_at, argument_at, operand_at, chained_at, expr_over, expr_at}
use Rattle.vf_expression.proofs.Shorter.{exprs_shorter, selects_shorter, expr_shorter}
use Rattle.vf_expression.proofs.Sound.{exprs_is, selects_is, closed_is, argument_is, expr_is}
use Rattle.vf_expression.proofs.Complete.{exprs_again, selects_again, closed_again, argument_again, expr_small, expr_again}

pub expr_read : (d k : ℕ) (ts : Tokens) (x : TreeExpr × ℕ × Tokens) → expr_at d k ts ≡ Some x → IsExpr d k x.1 ts x.2 x.0
expr_read d k ts x e = (expr_is d k ts x e).is

pub expr_reads : (d k n : ℕ) (ts rest : Tokens) (tree : TreeExpr) → IsExpr d k n ts rest tree → Ends k rest → expr_at d k ts ≡ Some (tree, n, rest)
expr_reads d k n ts rest tree is ends = expr_again d k n ts rest tree is (expr_small d k n ts rest tree is) ends

pub exprs_read : (d : ℕ) (ts : Tokens) (x : List TreeExpr × ℕ × Tokens) → exprs_at (expr_at d) ts ≡ Some x → IsExprs (IsExpr d) x.1 ts x.2 x.0
exprs_read d = exprs_is (IsExpr d) (expr_at d) (expr_is d)

pub exprs_reads : (d n : ℕ) (ts rest : Tokens) (trees : List TreeExpr) → IsExprs (IsExpr d) n ts rest trees → n ≤ d → Ends 1 rest → after (codes ",") rest ≡ None → exprs_at (expr_at d) ts ≡ Some (trees, n, rest)
exprs_reads d = exprs_again (IsExpr d) (expr_at d) d (expr_shorter d) (expr_again d)

pub exprs_shorten : (d n : ℕ) (ts rest : Tokens) (trees : List TreeExpr) → IsExprs (IsExpr d) n ts rest trees → length rest < length ts
exprs_shorten d = exprs_shorter (IsExpr d) (expr_shorter d)

pub selects_read : (d : ℕ) (ts : Tokens) (x : List Select × ℕ × Tokens) → selects_at (expr_at d) ts ≡ Some x → IsSelects (IsExpr d) x.1 ts x.2 x.0
selects_read d = selects_is (IsExpr d) (expr_at d) (expr_is d)

pub selects_reads : (d n : ℕ) (ts rest : Tokens) (trees : List Select) → IsSelects (IsExpr d) n ts rest trees → n ≤ d → opening_at rest ≡ None → selects_at (expr_at d) ts ≡ Some (trees, n, rest)
selects_reads d = selects_again (IsExpr d) (expr_at d) d (expr_shorter d) (expr_again d)

pub selects_shorten : (d n : ℕ) (ts rest : Tokens) (trees : List Select) → IsSelects (IsExpr d) n ts rest trees → length rest ≤ length ts
selects_shorten d = selects_shorter (IsExpr d) (expr_shorter d)

pub closed_read : (d : ℕ) (ts : Tokens) (x : TreeExpr × ℕ × Tokens) → closed_at (expr_at d) ts ≡ Some x → (q : Place) × IsExpr d 1 x.1 ts (sign q (codes ")") ∷ x.2) x.0
closed_read d = closed_is (IsExpr d) (expr_at d) (expr_is d)

pub closed_reads : (d n : ℕ) (ts rest : Tokens) (q : Place) (tree : TreeExpr) → IsExpr d 1 n ts (sign q (codes ")") ∷ rest) tree → closed_at (expr_at d) ts ≡ Some (tree, n, rest)
closed_reads d n ts rest q tree is = closed_again (IsExpr d) (expr_at d) d (expr_shorter d) (expr_again d) n ts q rest tree is (expr_small d 1 n ts (sign q (codes ")") ∷ rest) tree is)

pub argument_read : (d : ℕ) (ts : Tokens) (x : TreeExpr × ℕ × Tokens) → argument_at (expr_at d) ts ≡ Some x → (p q : Place) × (us : Tokens) × (ts ≡ sign p (codes "(") ∷ us) × IsExpr d 1 x.1 us (sign q (codes ")") ∷ x.2) x.0
argument_read d = argument_is (IsExpr d) (expr_at d) (expr_is d)

pub argument_reads : (d n : ℕ) (us rest : Tokens) (p q : Place) (tree : TreeExpr) → IsExpr d 1 n us (sign q (codes ")") ∷ rest) tree → argument_at (expr_at d) (sign p (codes "(") ∷ us) ≡ Some (tree, n, rest)
argument_reads d n us rest p q tree is = argument_again (IsExpr d) (expr_at d) d (expr_shorter d) (expr_again d) n us p q rest tree is (expr_small d 1 n us (sign q (codes ")") ∷ rest) tree is)

-- neither a string nor a reserved word begins an expression
pub string_no_expr : (d k : ℕ) (p : Place) (text : List ℕ) (rest : Tokens) → expr_at d k (record { kind = token.Quoted text; place = p } ∷ rest) ≡ None
unfolding expr_at expr_over chained_at operand_at
string_no_expr zero k p text rest = refl
string_no_expr (suc d) k p text rest = refl

pub word_no_expr : (d k : ℕ) (p : Place) (text : List ℕ) (rest : Tokens) → expr_at d k (word p text ∷ rest) ≡ None
unfolding expr_at expr_over chained_at operand_at
word_no_expr zero k p text rest = refl
word_no_expr (suc d) k p text rest = refl
