-- What a statement stands on is at least one token.
use Rattle.std.proofs.Common.{ℕ, zero, suc, ◌<◌, ◌≤◌, Bool, false, List, ◌∷◌, length, ap, codes, arith}
use Rattle.vf_tree.specs.declared.expressions.TreeExpr.{TreeExpr}
use Rattle.vf_tree.specs.declared.statements.Stmt.{Stmt}
use Rattle.vf_tree.specs.declared.statements.Citem.{Citem}
use Rattle.vf_tree.specs.declared.modules.AssignPart.{AssignPart}
use Rattle.vf_expression.specs.Grammar.{Tokens, sign, word, system}
use Rattle.vf_expression.proofs.CallerLemmas.{expr_shorter, exprs_shorten}
use Rattle.vf_control.proofs.CallerLemmas.{target_shorter, delay_shorter, events_shorter, task_shorter, many_shorter}
use Rattle.vf_statement.specs.Grammar.{Rule, IsCond, enclosed, IsAssignPart, assigned, IsEither, IsCitem, labelled, default, bare_default, IsCitems, no_item, next_item, IsStmtOver, empty, block, named_block, blocking, getc, nonblocking, postponed, lone_if, if_else, choices, while_loop, repeat_loop, forever_loop, for_loop, delayed, on_events, waiting, task_call, IsStmt}

cond_shorter : (d n : ℕ) (ts rest : Tokens) (tree : TreeExpr) → IsCond d n ts rest tree → length rest < length ts
cond_shorter d n ts rest tree (enclosed p q us is spelled) = omega (arith, ap length spelled, expr_shorter d 1 n us (sign q (codes ")") ∷ rest) tree is)

pub assign_part_shorter : (d n : ℕ) (ts rest : Tokens) (tree : AssignPart) → IsAssignPart d n ts rest tree → length rest < length ts
assign_part_shorter d n ts rest tree (assigned m k q us t e x y deep a) = omega (arith, target_shorter d m ts (sign q (codes "=") ∷ us) t x, expr_shorter d 1 k us rest e y)

module _ (d : ℕ) (P : Rule) (shorter : (o : Bool) (n : ℕ) (ts rest : Tokens) (tree : Stmt) → P o n ts rest tree → length rest < length ts) where
  pub either_shorter : (n : ℕ) (ts rest : Tokens) (tree : Stmt) → IsEither d P n ts rest tree → length rest < length ts
  either_shorter n ts rest tree is = shorter is.0 n ts rest tree is.1

  pub citem_shorter : (c n : ℕ) (ts rest : Tokens) (tree : Citem) → IsCitem d P c n ts rest tree → length rest < length ts
  citem_shorter c n ts rest tree (labelled o m k t q us vs es s x y spelled one deep a) = omega (arith, exprs_shorten d m ts (sign q (codes ":") ∷ vs) es x, shorter o k vs rest s y)
  citem_shorter c n ts rest tree (default o p q us s x spelled one a) = omega (arith, ap length spelled, shorter o n us rest s x)
  citem_shorter c n ts rest tree (bare_default o p us s x spelled one a) = omega (arith, ap length spelled, shorter o n us rest s x)

  citems_shorter : (c n : ℕ) (ts rest : Tokens) (trees : List Citem) → IsCitems d P c n ts rest trees → length rest ≤ length ts
  citems_shorter c n ts rest _ (no_item one deep spelled) = omega (arith, ap length spelled)
  citems_shorter c n ts rest _ (next_item a b m k us i others x y one deep) = omega (arith, citem_shorter a m ts us i x, citems_shorter b k us rest others y)

  over_shorter : (o : Bool) (n : ℕ) (ts rest : Tokens) (tree : Stmt) → IsStmtOver d P o n ts rest tree → length rest < length ts
  over_shorter o n ts rest tree (empty p spelled l deep a) = omega (arith, ap length spelled)
  over_shorter o n ts rest tree (block m p q us body x spelled l deep a) =
      omega (arith, ap length spelled, many_shorter (IsEither d P) either_shorter m us (word q (codes "end") ∷ rest) body x)
  over_shorter o n ts rest tree (named_block m p q r s text us body x spelled l deep a) =
      omega (arith, ap length spelled, many_shorter (IsEither d P) either_shorter m us (word s (codes "end") ∷ rest) body x)
  over_shorter o n ts rest tree (blocking m k t q r us vs target e x y spelled l deep a) =
      omega (arith, target_shorter d m ts (sign q (codes "=") ∷ vs) target x, expr_shorter d 1 k vs (sign r (codes ";") ∷ rest) e y)
  over_shorter o n ts rest tree (getc m k t q r s us vs target e x y spelled l deep a) =
      omega (arith, target_shorter d m ts (sign q (codes "=") ∷ system r (codes "$fgetc") ∷ vs) target x, cond_shorter d k vs (sign s (codes ";") ∷ rest) e y)
  over_shorter o n ts rest tree (nonblocking m k t q r us vs target e x y spelled l deep a) =
      omega (arith, target_shorter d m ts (sign q (codes "<=") ∷ vs) target x, expr_shorter d 1 k vs (sign r (codes ";") ∷ rest) e y)
  over_shorter o n ts rest tree (postponed m j k t q r us vs ws target delay e x y z spelled l deep a) =
      omega (arith, target_shorter d m ts (sign q (codes "<=") ∷ vs) target x, delay_shorter d j vs ws delay y, expr_shorter d 1 k ws (sign r (codes ";") ∷ rest) e z)
  over_shorter o n ts rest tree (lone_if i m k p us vs c s x y spelled l deep a) = omega (arith, ap length spelled, cond_shorter d m us vs c x, shorter i k vs rest s y)
  over_shorter o n ts rest tree (if_else m j k p q us vs ws c s t x y z spelled deep a) =
      omega (arith, ap length spelled, cond_shorter d m us vs c x, shorter false j vs (word q (codes "else") ∷ ws) s y, shorter o k ws rest t z)
  over_shorter o n ts rest tree (choices f b m j k p q text w us vs ws e i others x y z which one spelled l deep a) =
      omega (arith, ap length spelled, cond_shorter d m us vs e x, citem_shorter f j vs ws i y, citems_shorter b k ws (word q (codes "endcase") ∷ rest) others z)
  over_shorter o n ts rest tree (while_loop m k p us vs c s x y spelled deep a) = omega (arith, ap length spelled, cond_shorter d m us vs c x, shorter o k vs rest s y)
  over_shorter o n ts rest tree (repeat_loop m k p us vs c s x y spelled deep a) = omega (arith, ap length spelled, cond_shorter d m us vs c x, shorter o k vs rest s y)
  over_shorter o n ts rest tree (forever_loop k p us s x spelled deep a) = omega (arith, ap length spelled, shorter o k us rest s x)
  over_shorter o n ts rest tree (for_loop m j h k p q r s u us vs ws xs a b c body x y z is spelled deep t) =
      omega (arith, ap length spelled, assign_part_shorter d m us (sign r (codes ";") ∷ vs) a x, expr_shorter d 1 j vs (sign s (codes ";") ∷ ws) c y, assign_part_shorter d h ws (sign u (codes ")") ∷ xs) b z, shorter o k xs rest body is)
  over_shorter o n ts rest tree (delayed m k t us vs delay s x y spelled deep a) = omega (arith, delay_shorter d m ts vs delay x, shorter o k vs rest s y)
  over_shorter o n ts rest tree (on_events m k p us vs events s x y spelled deep a) = omega (arith, ap length spelled, events_shorter d m us vs events x, shorter o k vs rest s y)
  over_shorter o n ts rest tree (waiting m k p us vs c s x y spelled deep a) = omega (arith, ap length spelled, cond_shorter d m us vs c x, shorter o k vs rest s y)
  over_shorter o n ts rest tree (task_call m t q us call x spelled l deep a) = omega (arith, task_shorter d m ts (sign q (codes ";") ∷ rest) call x)

pub stmt_shorter : (d : ℕ) (o : Bool) (n : ℕ) (ts rest : Tokens) (tree : Stmt) → IsStmt d o n ts rest tree → length rest < length ts
unfolding IsStmt
stmt_shorter zero o n ts rest tree is = absurd is
stmt_shorter (suc d) o n ts rest tree is = over_shorter d (IsStmt d) (stmt_shorter d) o n ts rest tree is
