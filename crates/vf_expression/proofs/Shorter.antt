-- What a tree stands on is at least one token.
use Rattle.std.proofs.Common.{ℕ, zero, suc, ◌+◌, ◌<◌, ◌≤◌, List, ◌∷◌, length, ap, codes, arith}
use Rattle.vf_tree.specs.declared.expressions.TreeExpr.{TreeExpr}
use Rattle.vf_tree.specs.declared.expressions.Select.{Select}
use Rattle.vf_expression.specs.Operators.{level_of}
use Rattle.vf_expression.specs.Grammar.{Tokens, sign, Rule, IsExprs, last, more, IsSelect, bit, part, up, down, IsSelects, none, single, double, IsOperand, constant, named, paren, concat, repeat, time, feof, signed, unsigned, prefix, IsExprOver, operand, binary, choice, IsExpr}

module _ (P : Rule) (shorter : (k n : ℕ) (ts rest : Tokens) (tree : TreeExpr) → P k n ts rest tree → length rest < length ts) where
  pub exprs_shorter : (n : ℕ) (ts rest : Tokens) (es : List TreeExpr) → IsExprs P n ts rest es → length rest < length ts
  exprs_shorter n ts rest _ (last e is) = shorter 1 n ts rest e is
  exprs_shorter n ts rest _ (more a b q us e es is others deep) = omega (arith, shorter 1 a ts (sign q (codes ",") ∷ us) e is, exprs_shorter b us rest es others)

  select_shorter : (n : ℕ) (ts rest : Tokens) (tree : Select) → IsSelect P n ts rest tree → length rest < length ts
  select_shorter n ts rest tree (bit p q us e is spelled t) = omega (arith, ap length spelled, shorter 1 n us (sign q (codes "]") ∷ rest) e is)
  select_shorter n ts rest tree (part m k p q r us vs a b x y spelled deep t) = omega (arith, ap length spelled, shorter 1 m us (sign q (codes ":") ∷ vs) a x, shorter 1 k vs (sign r (codes "]") ∷ rest) b y)
  select_shorter n ts rest tree (up m k p q r us vs a b x y spelled deep t) = omega (arith, ap length spelled, shorter 1 m us (sign q (codes "+:") ∷ vs) a x, shorter 1 k vs (sign r (codes "]") ∷ rest) b y)
  select_shorter n ts rest tree (down m k p q r us vs a b x y spelled deep t) = omega (arith, ap length spelled, shorter 1 m us (sign q (codes "-:") ∷ vs) a x, shorter 1 k vs (sign r (codes "]") ∷ rest) b y)

  pub selects_shorter : (n : ℕ) (ts rest : Tokens) (trees : List Select) → IsSelects P n ts rest trees → length rest ≤ length ts
  selects_shorter n ts rest trees (none deep spelled t) = omega (arith, ap length spelled)
  selects_shorter n ts rest trees (single a is t) = omega (arith, select_shorter n ts rest a is)
  selects_shorter n ts rest trees (double m k us a b is also deep t) = omega (arith, select_shorter m ts us a is, select_shorter k us rest b also)

  operand_shorter : (n : ℕ) (ts rest : Tokens) (tree : TreeExpr) → IsOperand P n ts rest tree → length rest < length ts
  operand_shorter n ts rest tree (constant p value spelled deep t) = omega (arith, ap length spelled)
  operand_shorter n ts rest tree (named m p text us selects is spelled deep t) = omega (arith, ap length spelled, selects_shorter m us rest selects is)
  operand_shorter n ts rest tree (paren m p q us e is spelled deep t) = omega (arith, ap length spelled, shorter 1 m us (sign q (codes ")") ∷ rest) e is)
  operand_shorter n ts rest tree (concat m p q us es is spelled deep t) = omega (arith, ap length spelled, exprs_shorter m us (sign q (codes "}") ∷ rest) es is)
  operand_shorter n ts rest tree (repeat m k p q r s us vs count es is list spelled deep t) = omega (arith, ap length spelled, shorter 1 m us (sign q (codes "{") ∷ vs) count is, exprs_shorter k vs (sign r (codes "}") ∷ sign s (codes "}") ∷ rest) es list)
  operand_shorter n ts rest tree (time p spelled deep t) = omega (arith, ap length spelled)
  operand_shorter n ts rest tree (feof m p q r us e is spelled deep t) = omega (arith, ap length spelled, shorter 1 m us (sign r (codes ")") ∷ rest) e is)
  operand_shorter n ts rest tree (signed m p q r us e is spelled deep t) = omega (arith, ap length spelled, shorter 1 m us (sign r (codes ")") ∷ rest) e is)
  operand_shorter n ts rest tree (unsigned m p q r us e is spelled deep t) = omega (arith, ap length spelled, shorter 1 m us (sign r (codes ")") ∷ rest) e is)
  operand_shorter n ts rest tree (prefix m p text op us e is meant spelled deep t) = omega (arith, ap length spelled, shorter 12 m us rest e is)

  over_shorter : (k n : ℕ) (ts rest : Tokens) (tree : TreeExpr) → IsExprOver P k n ts rest tree → length rest < length ts
  over_shorter k n ts rest tree (operand is) = operand_shorter n ts rest tree is
  over_shorter k n ts rest tree (binary a b q text op us left right x y meant le deep t) = omega (arith, over_shorter (level_of op) a ts (sign q text ∷ us) left x, shorter (level_of op + 1) b us rest right y)
  over_shorter k n ts rest tree (choice a b c q r us vs cond x y f g i le deep t) = omega (arith, over_shorter 2 a ts (sign q (codes "?") ∷ us) cond f, shorter 1 b us (sign r (codes ":") ∷ vs) x g, shorter 1 c vs rest y i)

pub expr_shorter : (d k n : ℕ) (ts rest : Tokens) (tree : TreeExpr) → IsExpr d k n ts rest tree → length rest < length ts
unfolding IsExpr
expr_shorter zero k n ts rest tree is = absurd is
expr_shorter (suc d) k n ts rest tree is = over_shorter (IsExpr d) (expr_shorter d) k n ts rest tree is.1
