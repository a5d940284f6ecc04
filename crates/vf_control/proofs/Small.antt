-- Targets, delays, events and tasks are not deeper than the expressions in them may be.
use Rattle.std.proofs.Common.{ℕ, zero, suc, ◌≤◌, List, ◌∷◌, Option, arith, codes}
use Rattle.vf_tree.specs.declared.expressions.TreeExpr.{TreeExpr}
use Rattle.vf_tree.specs.declared.expressions.Select.{Select}
use Rattle.vf_tree.specs.declared.statements.Target.{Target}
use Rattle.vf_tree.specs.declared.statements.Delay.{Delay}
use Rattle.vf_tree.specs.declared.statements.Event.{Event}
use Rattle.vf_tree.specs.declared.statements.NextEvent.{NextEvent}
use Rattle.vf_tree.specs.declared.statements.Events.{Events}
use Rattle.vf_tree.specs.declared.statements.Arg.{Arg}
use Rattle.vf_tree.specs.declared.statements.Task.{Task}
use Rattle.vf_expression.specs.Grammar.{Tokens, sign, IsExprs, last, more, IsSelect, bit, part, up, down, IsSelects, none, single, double, IsExpr}
use Rattle.vf_expression.proofs.CallerLemmas.{expr_small}
use Rattle.vf_control.specs.Lists.{Part, IsMany, no_more, one_more, IsNext, next, IsList, listed}
use Rattle.vf_control.specs.Grammar as rule

module _ {A : Type 0} (d : ℕ) (One : Part A) (small : (n : ℕ) (ts rest : Tokens) (a : A) → One n ts rest a → n ≤ d) where
  many_small : (n : ℕ) (ts rest : Tokens) (items : List A) → IsMany One n ts rest items → n ≤ d
  many_small n ts rest _ (no_more deep spelled) = omega arith
  many_small n ts rest _ (one_more m k us a others is also deep) = omega (arith, small m ts us a is, many_small k us rest others also)

next_small : {A : Type 0} (d : ℕ) (One : Part A) → ((n : ℕ) (ts rest : Tokens) (a : A) → One n ts rest a → n ≤ d) → (n : ℕ) (ts rest : Tokens) (a : A) → IsNext One n ts rest a → n ≤ d
next_small d One small n ts rest a (next q us is spelled) = small n us rest a is

list_small : {A : Type 0} (d : ℕ) (One : Part A) → ((n : ℕ) (ts rest : Tokens) (a : A) → One n ts rest a → n ≤ d) → (n : ℕ) (ts rest : Tokens) (items : List A) → IsList One n ts rest items → n ≤ d
list_small d One small n ts rest items (listed m k us a others is also deep t) = omega (arith, small m ts us a is, many_small d (IsNext One) (next_small d One small) k us rest others also)

module _ (d : ℕ) where
  pub exprs_small : (n : ℕ) (ts rest : Tokens) (es : List TreeExpr) → IsExprs (IsExpr d) n ts rest es → n ≤ d
  exprs_small n ts rest _ (last e is) = expr_small d 1 n ts rest e is
  exprs_small n ts rest _ (more a b q us e es is others deep) = omega (arith, expr_small d 1 a ts (sign q (codes ",") ∷ us) e is, exprs_small b us rest es others)

  select_small : (n : ℕ) (ts rest : Tokens) (tree : Select) → IsSelect (IsExpr d) n ts rest tree → n ≤ d
  select_small n ts rest tree (bit p q us e is spelled t) = expr_small d 1 n us (sign q (codes "]") ∷ rest) e is
  select_small n ts rest tree (part m k p q r us vs a b x y spelled deep t) = omega (arith, expr_small d 1 m us (sign q (codes ":") ∷ vs) a x, expr_small d 1 k vs (sign r (codes "]") ∷ rest) b y)
  select_small n ts rest tree (up m k p q r us vs a b x y spelled deep t) = omega (arith, expr_small d 1 m us (sign q (codes "+:") ∷ vs) a x, expr_small d 1 k vs (sign r (codes "]") ∷ rest) b y)
  select_small n ts rest tree (down m k p q r us vs a b x y spelled deep t) = omega (arith, expr_small d 1 m us (sign q (codes "-:") ∷ vs) a x, expr_small d 1 k vs (sign r (codes "]") ∷ rest) b y)

  selects_small : (n : ℕ) (ts rest : Tokens) (trees : List Select) → IsSelects (IsExpr d) n ts rest trees → n ≤ d
  selects_small n ts rest trees (none deep spelled t) = omega arith
  selects_small n ts rest trees (single a is t) = select_small n ts rest a is
  selects_small n ts rest trees (double m k us a b is also deep t) = omega (arith, select_small m ts us a is, select_small k us rest b also)

  target_over_small : (One : Part Target) → ((n : ℕ) (ts rest : Tokens) (a : Target) → One n ts rest a → n ≤ d) → (n : ℕ) (ts rest : Tokens) (tree : Target) → rule.IsTargetOver (IsExpr d) One n ts rest tree → n ≤ d
  target_over_small One small n ts rest tree (rule.single p text us selects is spelled t) = selects_small n us rest selects is
  target_over_small One small n ts rest tree (rule.concat p q us targets is spelled t) = list_small d One small n us (sign q (codes "}") ∷ rest) targets is

  within_small : (nesting n : ℕ) (ts rest : Tokens) (tree : Target) → rule.IsTargetWithin (IsExpr d) nesting n ts rest tree → n ≤ d
  unfolding rule.IsTargetWithin
  within_small zero n ts rest tree is = absurd is
  within_small (suc nesting) n ts rest tree is = target_over_small (rule.IsTargetWithin (IsExpr d) nesting) (within_small nesting) n ts rest tree is

  pub target_small : (n : ℕ) (ts rest : Tokens) (tree : Target) → rule.IsTarget (IsExpr d) n ts rest tree → n ≤ d
  target_small n ts rest tree is = within_small 201 n ts rest tree is

  pub delay_small : (n : ℕ) (ts rest : Tokens) (tree : Delay) → rule.IsDelay (IsExpr d) n ts rest tree → n ≤ d
  delay_small n ts rest tree (rule.by_number p q v spelled deep t) = omega arith
  delay_small n ts rest tree (rule.by_name p q text spelled deep t) = omega arith
  delay_small n ts rest tree (rule.by_expr p q r us e is spelled t) = expr_small d 1 n us (sign r (codes ")") ∷ rest) e is

  bit_small : (n : ℕ) (ts rest : Tokens) (b : Option TreeExpr) → rule.IsBit (IsExpr d) n ts rest b → n ≤ d
  bit_small n ts rest b (rule.whole deep spelled t) = omega arith
  bit_small n ts rest b (rule.one_bit p q us e is spelled t) = expr_small d 1 n us (sign q (codes "]") ∷ rest) e is

  event_small : (n : ℕ) (ts rest : Tokens) (tree : Event) → rule.IsEvent (IsExpr d) n ts rest tree → n ≤ d
  event_small n ts rest tree (rule.change p text us b is spelled t) = bit_small n us rest b is
  event_small n ts rest tree (rule.edged p q s text e us b is meant spelled t) = bit_small n us rest b is

  next_event_small : (n : ℕ) (ts rest : Tokens) (tree : NextEvent) → rule.IsNextEvent (IsExpr d) n ts rest tree → n ≤ d
  next_event_small n ts rest tree (rule.by_or p us e is spelled t) = event_small n us rest e is
  next_event_small n ts rest tree (rule.by_comma p us e is spelled t) = event_small n us rest e is

  pub events_small : (n : ℕ) (ts rest : Tokens) (tree : Events) → rule.IsEvents (IsExpr d) n ts rest tree → n ≤ d
  events_small n ts rest tree (rule.star p spelled deep t) = omega arith
  events_small n ts rest tree (rule.star_paren p q r spelled deep t) = omega arith
  events_small n ts rest tree (rule.name_alone p text spelled deep t) = omega arith
  events_small n ts rest tree (rule.event_list m k p q us vs first others is also spelled deep t) =
      omega (arith, event_small m us vs first is, many_small d (rule.IsNextEvent (IsExpr d)) next_event_small k vs (sign q (codes ")") ∷ rest) others also)

  arg_small : (n : ℕ) (ts rest : Tokens) (tree : Arg) → rule.IsArg (IsExpr d) n ts rest tree → n ≤ d
  arg_small n ts rest tree (rule.string p text spelled deep t) = omega arith
  arg_small n ts rest tree (rule.value e is t) = expr_small d 1 n ts rest e is

  pub task_small : (n : ℕ) (ts rest : Tokens) (tree : Task) → rule.IsTask (IsExpr d) n ts rest tree → n ≤ d
  task_small n ts rest tree (rule.show p text w meant spelled deep t) = omega arith
  task_small n ts rest tree (rule.show_args p q r text w us args is meant spelled t) = list_small d (rule.IsArg (IsExpr d)) arg_small n us (sign r (codes ")") ∷ rest) args is
  task_small n ts rest tree (rule.save p q r s text bytes w meant spelled deep t) = omega arith
  task_small n ts rest tree (rule.end p text w meant spelled deep t) = omega arith
  task_small n ts rest tree (rule.end_number p q r text w us e is meant spelled t) = expr_small d 1 n us (sign r (codes ")") ∷ rest) e is
