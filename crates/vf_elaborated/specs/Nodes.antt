-- What is told of an expression node by node, each time by what is told of the node's parts.
use Rattle.std.specs.Prelude.{ℕ, zero, suc}
use Rattle.vf_elaborated.specs.declared.expr.Expr.{Expr, out-Expr}
use Rattle.vf_elaborated.specs.declared.expr.Expr.TheOpen.{Expr-F}
use Rattle.vf_elaborated.specs.declared.expr.Expr.TheFolds.{fold-Expr, map-Expr}

-- The fold of an expression, with its first n layers written out.
unfoldable pub told_from : {A : Type 0} → ℕ → (Expr-F A → A) → Expr → A
told_from {A} zero step e = fold-Expr A step e
told_from {A} (suc n) step e = step (map-Expr Expr A (told_from n step) (out-Expr e))

-- The fold of an expression. The checker computes no fold, so that eight layers stand written out: then it computes small expressions. That
-- each is told by its node, at any depth, is a law.
abbrev pub told : {A : Type 0} → (Expr-F A → A) → Expr → A
told step e = told_from 8 step e
