-- What a tree stands on is at least one token.
use Rattle.std.proofs.Common.{ℕ, zero, suc, ◌<◌, ◌≤◌, Option, ◌∷◌, length, ap, codes, arith}
use Rattle.vf_tree.specs.declared.expressions.TreeExpr.{TreeExpr}
use Rattle.vf_tree.specs.declared.statements.Target.{Target}
use Rattle.vf_tree.specs.declared.statements.Delay.{Delay}
use Rattle.vf_tree.specs.declared.statements.Event.{Event}
use Rattle.vf_tree.specs.declared.statements.NextEvent.{NextEvent}
use Rattle.vf_tree.specs.declared.statements.Events.{Events}
use Rattle.vf_tree.specs.declared.statements.Arg.{Arg}
use Rattle.vf_tree.specs.declared.statements.Task.{Task}
use Rattle.vf_expression.specs.Grammar.{Tokens, sign, IsExpr}
use Rattle.vf_expression.proofs.CallerLemmas.{expr_shorter, selects_shorten}
use Rattle.vf_control.specs.Lists.{Part}
use Rattle.vf_control.specs.Grammar.{IsTargetOver, single, concat, IsTargetWithin, IsTarget, IsDelay, by_number, by_name, by_expr, IsBit, whole, one_bit, IsEvent, change, edged, IsNextEvent, by_or, by_comma, IsEvents, star, star_paren, name_alone, event_list, IsArg, string, value, IsTask, show, show_args, save, end, end_number}
use Rattle.vf_control.proofs.ListLemmas.{many_shorter, list_shorter}

module _ (d : ℕ) where
  target_over_shorter : (One : Part Target) → ((n : ℕ) (ts rest : Tokens) (a : Target) → One n ts rest a → length rest < length ts) → (n : ℕ) (ts rest : Tokens) (tree : Target) → IsTargetOver (IsExpr d) One n ts rest tree → length rest < length ts
  target_over_shorter One shorter n ts rest tree (single p text us selects is spelled t) = omega (arith, ap length spelled, selects_shorten d n us rest selects is)
  target_over_shorter One shorter n ts rest tree (concat p q us targets is spelled t) = omega (arith, ap length spelled, list_shorter One shorter n us (sign q (codes "}") ∷ rest) targets is)

  pub within_shorter : (nesting n : ℕ) (ts rest : Tokens) (tree : Target) → IsTargetWithin (IsExpr d) nesting n ts rest tree → length rest < length ts
  unfolding IsTargetWithin
  within_shorter zero n ts rest tree is = absurd is
  within_shorter (suc nesting) n ts rest tree is = target_over_shorter (IsTargetWithin (IsExpr d) nesting) (within_shorter nesting) n ts rest tree is

  pub target_shorter : (n : ℕ) (ts rest : Tokens) (tree : Target) → IsTarget (IsExpr d) n ts rest tree → length rest < length ts
  target_shorter n ts rest tree is = within_shorter 201 n ts rest tree is

  pub delay_shorter : (n : ℕ) (ts rest : Tokens) (tree : Delay) → IsDelay (IsExpr d) n ts rest tree → length rest < length ts
  delay_shorter n ts rest tree (by_number p q v spelled deep t) = omega (arith, ap length spelled)
  delay_shorter n ts rest tree (by_name p q text spelled deep t) = omega (arith, ap length spelled)
  delay_shorter n ts rest tree (by_expr p q r us e is spelled t) = omega (arith, ap length spelled, expr_shorter d 1 n us (sign r (codes ")") ∷ rest) e is)

  bit_shorter : (n : ℕ) (ts rest : Tokens) (bit : Option TreeExpr) → IsBit (IsExpr d) n ts rest bit → length rest ≤ length ts
  bit_shorter n ts rest bit (whole deep spelled t) = omega (arith, ap length spelled)
  bit_shorter n ts rest bit (one_bit p q us e is spelled t) = omega (arith, ap length spelled, expr_shorter d 1 n us (sign q (codes "]") ∷ rest) e is)

  event_shorter : (n : ℕ) (ts rest : Tokens) (tree : Event) → IsEvent (IsExpr d) n ts rest tree → length rest < length ts
  event_shorter n ts rest tree (change p text us bit is spelled t) = omega (arith, ap length spelled, bit_shorter n us rest bit is)
  event_shorter n ts rest tree (edged p q s text e us bit is meant spelled t) = omega (arith, ap length spelled, bit_shorter n us rest bit is)

  pub next_event_shorter : (n : ℕ) (ts rest : Tokens) (tree : NextEvent) → IsNextEvent (IsExpr d) n ts rest tree → length rest < length ts
  next_event_shorter n ts rest tree (by_or p us e is spelled t) = omega (arith, ap length spelled, event_shorter n us rest e is)
  next_event_shorter n ts rest tree (by_comma p us e is spelled t) = omega (arith, ap length spelled, event_shorter n us rest e is)

  pub events_shorter : (n : ℕ) (ts rest : Tokens) (tree : Events) → IsEvents (IsExpr d) n ts rest tree → length rest < length ts
  events_shorter n ts rest tree (star p spelled deep t) = omega (arith, ap length spelled)
  events_shorter n ts rest tree (star_paren p q r spelled deep t) = omega (arith, ap length spelled)
  events_shorter n ts rest tree (name_alone p text spelled deep t) = omega (arith, ap length spelled)
  events_shorter n ts rest tree (event_list m k p q us vs first others is more spelled deep t) =
      omega (arith, ap length spelled, event_shorter m us vs first is, many_shorter (IsNextEvent (IsExpr d)) next_event_shorter k vs (sign q (codes ")") ∷ rest) others more)

  pub arg_shorter : (n : ℕ) (ts rest : Tokens) (tree : Arg) → IsArg (IsExpr d) n ts rest tree → length rest < length ts
  arg_shorter n ts rest tree (string p text spelled deep t) = omega (arith, ap length spelled)
  arg_shorter n ts rest tree (value e is t) = expr_shorter d 1 n ts rest e is

  pub task_shorter : (n : ℕ) (ts rest : Tokens) (tree : Task) → IsTask (IsExpr d) n ts rest tree → length rest < length ts
  task_shorter n ts rest tree (show p text w meant spelled deep t) = omega (arith, ap length spelled)
  task_shorter n ts rest tree (show_args p q r text w us args is meant spelled t) = omega (arith, ap length spelled, list_shorter (IsArg (IsExpr d)) arg_shorter n us (sign r (codes ")") ∷ rest) args is)
  task_shorter n ts rest tree (save p q r s text bytes w meant spelled deep t) = omega (arith, ap length spelled)
  task_shorter n ts rest tree (end p text w meant spelled deep t) = omega (arith, ap length spelled)
  task_shorter n ts rest tree (end_number p q r text w us e is meant spelled t) = omega (arith, ap length spelled, expr_shorter d 1 n us (sign r (codes ")") ∷ rest) e is)
