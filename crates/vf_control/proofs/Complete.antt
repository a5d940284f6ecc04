-- What the grammar says is read, where nothing follows that would go on with it.
use Rattle.std.proofs.Common.{◌≡◌, ℕ, zero, suc, ◌<◌, ◌≤◌, max, [], ◌∷◌, length, Option, Some, None, refl, codes, arith}
use Rattle.vf_base.specs.declared.names.Place.{Place}
use Rattle.vf_tree.specs.declared.expressions.TreeExpr.{TreeExpr}
use Rattle.vf_tree.specs.declared.statements.Target.{Target}
use Rattle.vf_tree.specs.declared.statements.Delay.{Delay}
use Rattle.vf_tree.specs.declared.statements.Event.{Event}
use Rattle.vf_tree.specs.declared.statements.EventJoin.TheVariants as join
use Rattle.vf_tree.specs.declared.statements.NextEvent.{NextEvent}
use Rattle.vf_tree.specs.declared.statements.Events.{Events}
use Rattle.vf_tree.specs.declared.statements.Arg.{Arg}
use Rattle.vf_tree.specs.declared.statements.Task.{Task}
use Rattle.vf_expression.specs.Grammar.{Tokens, sign, IsExpr}
use Rattle.vf_expression.specs.Reading.{Read, Ends, after, opening_at, expr_at}
use Rattle.vf_expression.proofs.CallerLemmas.{after_again, after_other, opening_other, ends_close, ends_bracket, ends_comma, expr_reads, selects_reads, closed_reads, string_no_expr}
use Rattle.vf_control.specs.Lists.{Part, many_from, list_at}
use Rattle.vf_control.specs.Grammar.{quoted, IsTargetOver, single, concat, IsTargetWithin, IsDelay, by_number, by_name, by_expr, IsBit, whole, one_bit, IsEvent, change, edged, IsNextEvent, by_or, by_comma, IsEvents, star, star_paren, name_alone, event_list, IsArg, string, value, IsTask, show, show_args, save, end, end_number}
use Rattle.vf_control.specs.Reading as reading
use Rattle.vf_control.specs.Reading.{string_at, join_at, concat_at, named_at, target_over, target_within, delay_expr, delay_after, delay_at, bit_from, bit_at, named_event, edged_event, word_event, event_at, next_event, events_paren, events_sign, events_at, arg_value, arg_at, show_from, save_from, end_from, ended_by, saved_by, called_by, task_at}
use Rattle.vf_control.proofs.ListLemmas.{ReadsOne, many_follows, many_reads, list_reads}
use Rattle.vf_control.proofs.Shorter.{within_shorter, next_event_shorter, arg_shorter}
use Rattle.vf_control.proofs.WordLemmas.{string_is, string_again, or_again, comma_again, no_join, save_no_show, end_no_show, end_no_save}

no_select : (q : Place) (us : Tokens) → opening_at (sign q (codes ",") ∷ us) ≡ None
no_select q us = opening_other q (codes ",") us refl

none_or : {A : Type 0} (o : Option A) → ((x : A) → o ≡ Some x → ⊥) → o ≡ None
none_or None h = refl
none_or (Some x) h = absurd (h x refl)

never_some : {A : Type 0} (o : Option A) (x : A) → o ≡ None → o ≡ Some x → ⊥
never_some o x a b = absurd cc

module _ (d : ℕ) where
  -- ---- targets

  module _ (One : Part Target) (one : Tokens → Read Target)
      (shorter : (n : ℕ) (ts rest : Tokens) (a : Target) → One n ts rest a → length rest < length ts)
      (complete : (n : ℕ) (ts rest : Tokens) (a : Target) → One n ts rest a → n ≤ d → opening_at rest ≡ None → one ts ≡ Some (a, n, rest)) where
    over_again : (n : ℕ) (ts rest : Tokens) (tree : Target) → IsTargetOver (IsExpr d) One n ts rest tree → n ≤ d → opening_at rest ≡ None → target_over (expr_at d) one ts ≡ Some (tree, n, rest)
    unfolding target_over named_at concat_at
    over_again n ts rest tree (single p text us selects is spelled t) small ends = rw (spelled, t, selects_reads d n us rest selects is small ends) refl
    over_again n ts rest tree (concat p q us targets is spelled t) small ends =
        let list : list_at one us ≡ Some (targets, n, sign q (codes "}") ∷ rest) = list_reads One one d (λ vs. opening_at vs ≡ None) shorter no_select complete n us (sign q (codes "}") ∷ rest) targets is small (opening_other q (codes "}") rest refl) (after_other (codes ",") (codes "}") q rest refl) in
        rw (spelled, t, list, after_again (codes "}") q rest) refl

  pub target_again : (nesting n : ℕ) (ts rest : Tokens) (tree : Target) → IsTargetWithin (IsExpr d) nesting n ts rest tree → n ≤ d → opening_at rest ≡ None → target_within (expr_at d) nesting ts ≡ Some (tree, n, rest)
  unfolding IsTargetWithin target_within
  target_again zero n ts rest tree is small ends = absurd is
  target_again (suc nesting) n ts rest tree is small ends = over_again (IsTargetWithin (IsExpr d) nesting) (target_within (expr_at d) nesting) (within_shorter d nesting) (target_again nesting) n ts rest tree is small ends

  -- ---- delays

  pub delay_again : (n : ℕ) (ts rest : Tokens) (tree : Delay) → IsDelay (IsExpr d) n ts rest tree → delay_at (expr_at d) ts ≡ Some (tree, n, rest)
  unfolding delay_at delay_after delay_expr
  delay_again n ts rest tree (by_number p q v spelled deep t) = rw (spelled, deep, t) refl
  delay_again n ts rest tree (by_name p q text spelled deep t) = rw (spelled, deep, t) refl
  delay_again n ts rest tree (by_expr p q r us e is spelled t) = rw (spelled, t, closed_reads d n us rest r e is) refl

  -- ---- events

  bit_again : (n : ℕ) (ts rest : Tokens) (bit : Option TreeExpr) → IsBit (IsExpr d) n ts rest bit → after (codes "[") rest ≡ None → bit_at (expr_at d) ts ≡ Some (bit, n, rest)
  unfolding bit_at bit_from
  bit_again n ts rest bit (whole deep spelled t) ends = rw (spelled, deep, t, ends) refl
  bit_again n ts rest bit (one_bit p q us e is spelled t) ends =
      rw (spelled, t, after_again (codes "[") p us, expr_reads d 1 n us (sign q (codes "]") ∷ rest) e is (ends_bracket q rest), after_again (codes "]") q rest) refl

  event_again : (n : ℕ) (ts rest : Tokens) (tree : Event) → IsEvent (IsExpr d) n ts rest tree → after (codes "[") rest ≡ None → event_at (expr_at d) ts ≡ Some (tree, n, rest)
  unfolding event_at named_event word_event edged_event
  event_again n ts rest tree (change p text us bit is spelled t) ends = rw (spelled, t, bit_again n us rest bit is ends) refl
  event_again n ts rest tree (edged p q s text e us bit is meant spelled t) ends = rw (spelled, t, meant, bit_again n us rest bit is ends) refl

  next_again : (n : ℕ) (ts rest : Tokens) (tree : NextEvent) → IsNextEvent (IsExpr d) n ts rest tree → n ≤ d → after (codes "[") rest ≡ None → ReadsOne join_at (next_event (expr_at d)) n ts rest tree
  unfolding next_event
  next_again n ts rest tree (by_or p us e is spelled t) small ends =
      record { from = (join.Or, us); starts = rw spelled (or_again p us); reads = rw (t, event_again n us rest e is ends) refl }
  next_again n ts rest tree (by_comma p us e is spelled t) small ends =
      record { from = (join.Comma, us); starts = rw spelled (comma_again p us); reads = rw (t, event_again n us rest e is ends) refl }

  next_follows : (n : ℕ) (ts rest : Tokens) (tree : NextEvent) → IsNextEvent (IsExpr d) n ts rest tree → after (codes "[") ts ≡ None
  unfolding after
  next_follows n ts rest tree (by_or p us e is spelled t) = rw spelled refl
  next_follows n ts rest tree (by_comma p us e is spelled t) = rw spelled refl

  no_star : (n : ℕ) (ts rest : Tokens) (tree : Event) → IsEvent (IsExpr d) n ts rest tree → after (codes "*") ts ≡ None
  unfolding after
  no_star n ts rest tree (change p text us bit is spelled t) = rw spelled refl
  no_star n ts rest tree (edged p q s text e us bit is meant spelled t) = rw spelled refl

  pub events_again : (n : ℕ) (ts rest : Tokens) (tree : Events) → IsEvents (IsExpr d) n ts rest tree → n ≤ d → events_at (expr_at d) ts ≡ Some (tree, n, rest)
  unfolding events_at events_sign events_paren reading.star_paren reading.event_list
  events_again n ts rest tree (star p spelled deep t) small = rw (spelled, deep, t) refl
  events_again n ts rest tree (star_paren p q r spelled deep t) small = rw (spelled, deep, t, after_again (codes "*") q (sign r (codes ")") ∷ rest), after_again (codes ")") r rest) refl
  events_again n ts rest tree (name_alone p text spelled deep t) small = rw (spelled, deep, t) refl
  events_again n ts rest tree (event_list m k p q us vs first others is more spelled deep t) small =
      let closing : after (codes "[") (sign q (codes ")") ∷ rest) ≡ None = after_other (codes "[") (codes ")") q rest refl in
      let follows : after (codes "[") vs ≡ None = many_follows (IsNextEvent (IsExpr d)) join_at (next_event (expr_at d)) d (λ ws. after (codes "[") ws ≡ None) (next_event_shorter d) next_follows next_again k vs (sign q (codes ")") ∷ rest) others more closing in
      let later : many_from join_at (next_event (expr_at d)) (length vs) [] m vs ≡ Some (others, max m k, sign q (codes ")") ∷ rest)
      = many_reads (IsNextEvent (IsExpr d)) join_at (next_event (expr_at d)) d (λ ws. after (codes "[") ws ≡ None) (next_event_shorter d) next_follows next_again k vs (sign q (codes ")") ∷ rest) others more (length vs) [] m (omega arith) (omega arith) closing (no_join q rest) in
      rw (spelled, deep, t, no_star m us vs first is, event_again m us vs first is follows, later, after_again (codes ")") q rest) refl

  -- ---- system tasks

  no_string : (n : ℕ) (ts rest : Tokens) (e : TreeExpr) → expr_at d 1 ts ≡ Some (e, n, rest) → string_at ts ≡ None
  no_string n ts rest e read =
      none_or (string_at ts) (λ s found.
      let never : expr_at d 1 ts ≡ None = rw (string_is ts s found) (string_no_expr d 1 s.1 s.0 s.2) in
      never_some (expr_at d 1 ts) (e, n, rest) never read)

  arg_again : (n : ℕ) (ts rest : Tokens) (tree : Arg) → IsArg (IsExpr d) n ts rest tree → n ≤ d → Ends 1 rest → arg_at (expr_at d) ts ≡ Some (tree, n, rest)
  unfolding arg_at arg_value
  arg_again n ts rest tree (string p text spelled deep t) small ends = rw (spelled, deep, t, string_again p text rest) refl
  arg_again n ts rest tree (value e is t) small ends =
      let read : expr_at d 1 ts ≡ Some (e, n, rest) = expr_reads d 1 n ts rest e is ends in
      rw (t, no_string n ts rest e read, read) refl

  pub task_again : (n : ℕ) (ts rest : Tokens) (tree : Task) → IsTask (IsExpr d) n ts rest tree → n ≤ d → after (codes "(") rest ≡ None → task_at (expr_at d) ts ≡ Some (tree, n, rest)
  unfolding task_at called_by saved_by ended_by show_from save_from end_from reading.show_args reading.end_number
  task_again n ts rest tree (show p text w meant spelled deep t) small ends = rw (spelled, deep, t, meant, ends) refl
  task_again n ts rest tree (show_args p q r text w us args is meant spelled t) small ends =
      let list : list_at (arg_at (expr_at d)) us ≡ Some (args, n, sign r (codes ")") ∷ rest) = list_reads (IsArg (IsExpr d)) (arg_at (expr_at d)) d (Ends 1) (arg_shorter d) ends_comma arg_again n us (sign r (codes ")") ∷ rest) args is small (ends_close r rest) (after_other (codes ",") (codes ")") r rest refl) in
      rw (spelled, t, meant, after_again (codes "(") q us, list, after_again (codes ")") r rest) refl
  task_again n ts rest tree (save p q r s text bytes w meant spelled deep t) small ends =
      rw (spelled, deep, t, save_no_show text w meant, meant, after_again (codes "(") q (quoted r bytes ∷ sign s (codes ")") ∷ rest), string_again r bytes (sign s (codes ")") ∷ rest), after_again (codes ")") s rest) refl
  task_again n ts rest tree (end p text w meant spelled deep t) small ends = rw (spelled, deep, t, end_no_show text w meant, end_no_save text w meant, meant, ends) refl
  task_again n ts rest tree (end_number p q r text w us e is meant spelled t) small ends =
      rw (spelled, t, end_no_show text w meant, end_no_save text w meant, meant, after_again (codes "(") q us, closed_reads d n us rest r e is) refl
