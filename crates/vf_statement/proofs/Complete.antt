-- What the grammar says is read, whatever follows it but an `else` that would belong to it.
use Rattle.std.proofs.Common.{◌≡◌, ℕ, zero, suc, ◌+◌, ◌<◌, ◌≤◌, max, Bool, true, false, List, [], ◌∷◌, ◌++◌, length, Option, Some, None, refl, ap, subst, sym, ◌∙◌, append_assoc, codes, arith}
use Rattle.std.specs.Str.{bytes_eq}
use Rattle.std.proofs.lemmas.List.{append-nil}
use Rattle.vf_base.specs.declared.names.Place.{Place}
use Rattle.vf_lexeme.specs.declared.kinds.TokenKind.{TokenKind}
use Rattle.vf_lexeme.specs.declared.kinds.TokenKind.TheVariants as token
use Rattle.vf_lex.specs.declared.token.Token.{Token}
use Rattle.vf_tree.specs.declared.words.Name.{Name}
use Rattle.vf_tree.specs.declared.expressions.TreeExpr.{TreeExpr}
use Rattle.vf_tree.specs.declared.statements.Target.{Target}
use Rattle.vf_tree.specs.declared.statements.Delay.{Delay}
use Rattle.vf_tree.specs.declared.statements.Events.{Events}
use Rattle.vf_tree.specs.declared.statements.Task.{Task}
use Rattle.vf_tree.specs.declared.statements.CaseWord.{CaseWord}
use Rattle.vf_tree.specs.declared.statements.CaseWord.TheVariants as cases
use Rattle.vf_tree.specs.declared.statements.Stmt.{Stmt}
use Rattle.vf_tree.specs.declared.statements.StmtForm.TheVariants as form
use Rattle.vf_tree.specs.declared.statements.Citem.{Citem}
use Rattle.vf_tree.specs.declared.statements.CitemForm.TheVariants as choice
use Rattle.vf_tree.specs.declared.modules.AssignPart.{AssignPart}
use Rattle.vf_expression.specs.Operators.{unary_of, binary_of}
use Rattle.vf_expression.specs.Grammar.{Tokens, sign, word, name, system, IsExprs, IsExpr}
use Rattle.vf_expression.specs.Reading.{Ends, Read, after, opening_at, argument_at, exprs_at, operand_at, signed_at, opened_at, system_at, chained_at, expr_over, expr_at}
use Rattle.vf_expression.proofs.CallerLemmas.{some_is, chosen, after_again, after_other, opening_other, ends_at, ends_close, ends_colon, expr_reads, exprs_reads, argument_reads}
use Rattle.vf_control.specs.Lists.{IsMany, no_more, one_more}
use Rattle.vf_control.specs.Grammar.{IsTargetWithin, IsTarget, IsDelay, IsEvents, IsTask}
use Rattle.vf_control.specs.Grammar as rule
use Rattle.vf_control.specs.Reading.{target_at, delay_at, events_at, task_at}
use Rattle.vf_control.proofs.CallerLemmas.{readings_are, exprs_small, target_small, delay_small, events_small, task_small}
use Rattle.vf_statement.specs.declared.words.Guard.{Guard}
use Rattle.vf_statement.specs.declared.simple.ForHead.{ForHead}
use Rattle.vf_statement.specs.Words.{case_of, guard_of, guarded}
use Rattle.vf_statement.specs.Grammar.{stmt, citem, Rule, IsCond, enclosed, IsAssignPart, assigned, IsEither, IsCitem, labelled, default, bare_default, IsCitems, no_item, next_item, IsStmtOver, empty, block, named_block, blocking, getc, nonblocking, postponed, lone_if, if_else, choices, while_loop, repeat_loop, forever_loop, for_loop, delayed, on_events, waiting, task_call, IsStmt}
use Rattle.vf_statement.specs.Reading.{EndsStmt, ReadingsAreStatements, is_word, after_word, name_at, label_at, assign_part_at, getc_from, value_from, blocking_from, late_at, nonblocking_from, assignment_at, call_at, for_head_at, stmts_from, block_from, else_from, if_from, guarded_from, forever_from, for_from, delayed_at, on_from, default_from, labelled_at, citem_at, citems_from, citems_at, case_from, choice_by, stmt_by_word, stmt_by_sign, stmt_by, stmt_over, stmt_at}
use Rattle.vf_statement.proofs.FrontLemmas.{after_word_again, after_word_other, after_system_again, no_word, no_sign, no_system, not_word}
use Rattle.vf_statement.proofs.Shorter.{citem_shorter, stmt_shorter}
use Rattle.vf_statement.proofs.Sound.{count, count_true, count_false, stmt_is}

ends_semicolon : (q : Place) (rest : Tokens) → Ends 1 (sign q (codes ";") ∷ rest)
unfolding binary_of
ends_semicolon q rest = ends_at q (codes ";") rest refl refl refl

-- ---- what no expression begins with

expr_no_getc : (d : ℕ) (q : Place) (us : Tokens) → expr_at d 1 (system q (codes "$fgetc") ∷ us) ≡ None
unfolding expr_at expr_over chained_at operand_at system_at
expr_no_getc zero q us = refl
expr_no_getc (suc d) q us = refl

expr_no_sharp : (d : ℕ) (q : Place) (us : Tokens) → expr_at d 1 (sign q (codes "#") ∷ us) ≡ None
unfolding expr_at expr_over chained_at operand_at signed_at opened_at unary_of
expr_no_sharp zero q us = refl
expr_no_sharp (suc d) q us = refl

expr_no_word : (d : ℕ) (text : List ℕ) (q : Place) (us : Tokens) → expr_at d 1 (word q text ∷ us) ≡ None
unfolding expr_at expr_over chained_at operand_at
expr_no_word zero text q us = refl
expr_no_word (suc d) text q us = refl

exprs_no_word : (d : ℕ) (text : List ℕ) (q : Place) (us : Tokens) → exprs_at (expr_at d) (word q text ∷ us) ≡ None
unfolding exprs_at
exprs_no_word d text q us = rw (expr_no_word d text q us) refl

word_no_colon : (text : List ℕ) (q : Place) (us : Tokens) → after (codes ":") (word q text ∷ us) ≡ None
unfolding after
word_no_colon text q us = refl

-- ---- what a target, a delay and a task begin with

data TargetFront (t : Token) : Type 0 where
  by_name : (text : List ℕ) → t.kind ≡ token.Name text → TargetFront t
  by_brace : t.kind ≡ token.Sign (codes "{") → TargetFront t

same_kind : (t u : Token) (us vs : Tokens) → t ∷ us ≡ u ∷ vs → t.kind ≡ u.kind
same_kind t u us vs e = let same : t ≡ u = cc in ap (λ (x : Token). x.kind) same

target_front : (d nesting m : ℕ) (t : Token) (us rest : Tokens) (target : Target) → IsTargetWithin (IsExpr d) nesting m (t ∷ us) rest target → TargetFront t
unfolding IsTargetWithin
target_front d zero m t us rest target is = absurd is
target_front d (suc nesting) m t us rest target (rule.single p text vs selects x spelled a) = by_name text (same_kind t (name p text) us vs spelled)
target_front d (suc nesting) m t us rest target (rule.concat p q vs targets x spelled a) = by_brace (same_kind t (sign p (codes "{")) us vs spelled)

delay_front : (d m : ℕ) (ts rest : Tokens) (delay : Delay) → IsDelay (IsExpr d) m ts rest delay → (p : Place) × (us : Tokens) × (ts ≡ sign p (codes "#") ∷ us)
delay_front d m ts rest delay (rule.by_number p q v spelled deep a) = (p, _, spelled)
delay_front d m ts rest delay (rule.by_name p q text spelled deep a) = (p, _, spelled)
delay_front d m ts rest delay (rule.by_expr p q r us e x spelled a) = (p, _, spelled)

task_front : (d m : ℕ) (t : Token) (us rest : Tokens) (call : Task) → IsTask (IsExpr d) m (t ∷ us) rest call → (text : List ℕ) × (t.kind ≡ token.System text)
task_front d m t us rest call (rule.show p text w meant spelled deep a) = (text, same_kind t (system p text) us rest spelled)
task_front d m t us rest call (rule.show_args p q r text w vs args x meant spelled a) = (text, same_kind t (system p text) us _ spelled)
task_front d m t us rest call (rule.save p q r s text bytes w meant spelled deep a) = (text, same_kind t (system p text) us _ spelled)
task_front d m t us rest call (rule.end p text w meant spelled deep a) = (text, same_kind t (system p text) us rest spelled)
task_front d m t us rest call (rule.end_number p q r text w vs e x meant spelled a) = (text, same_kind t (system p text) us _ spelled)

-- ---- the parts

module _ (d : ℕ) where
  cond_again : (n : ℕ) (ts rest : Tokens) (tree : TreeExpr) → IsCond d n ts rest tree → argument_at (expr_at d) ts ≡ Some (tree, n, rest)
  cond_again n ts rest tree (enclosed p q us is spelled) = rw spelled (argument_reads d n us rest p q tree is)

  target_again : (m : ℕ) (ts rest : Tokens) (target : Target) → IsTarget (IsExpr d) m ts rest target → opening_at rest ≡ None → target_at (expr_at d) ts ≡ Some (target, m, rest)
  target_again m ts rest target is ends = (readings_are d).target.complete m ts rest target is (target_small d m ts rest target is) ends

  delay_again : (m : ℕ) (ts rest : Tokens) (delay : Delay) → IsDelay (IsExpr d) m ts rest delay → delay_at (expr_at d) ts ≡ Some (delay, m, rest)
  delay_again m ts rest delay is = (readings_are d).delay.complete m ts rest delay is (delay_small d m ts rest delay is) tt

  events_again : (m : ℕ) (ts rest : Tokens) (events : Events) → IsEvents (IsExpr d) m ts rest events → events_at (expr_at d) ts ≡ Some (events, m, rest)
  events_again m ts rest events is = (readings_are d).events_after.complete m ts rest events is (events_small d m ts rest events is) tt

  task_again : (m : ℕ) (ts rest : Tokens) (call : Task) → IsTask (IsExpr d) m ts rest call → after (codes "(") rest ≡ None → task_at (expr_at d) ts ≡ Some (call, m, rest)
  task_again m ts rest call is ends = (readings_are d).task.complete m ts rest call is (task_small d m ts rest call is) ends

  pub assign_part_again : (n : ℕ) (ts rest : Tokens) (a : AssignPart) → IsAssignPart d n ts rest a → Ends 1 rest → assign_part_at d ts ≡ Some (a, n, rest)
  unfolding assign_part_at
  assign_part_again n ts rest a (assigned m k q us t e x y deep tree) ends =
      rw (deep, tree, target_again m ts (sign q (codes "=") ∷ us) t x (opening_other q (codes "=") us refl), after_again (codes "=") q us, expr_reads d 1 k us rest e y ends) refl

  for_head_again : (m j l : ℕ) (q r s u : Place) (us vs ws rest : Tokens) (a b : AssignPart) (c : TreeExpr) → IsAssignPart d m us (sign r (codes ";") ∷ vs) a → IsExpr d 1 j vs (sign s (codes ";") ∷ ws) c
      → IsAssignPart d l ws (sign u (codes ")") ∷ rest) b → for_head_at d (sign q (codes "(") ∷ us) ≡ Some (record { start = a; cond = c; step = b }, max m (max j l), rest)
  unfolding for_head_at
  for_head_again m j l q r s u us vs ws rest a b c x y z =
      rw (
        after_again (codes "(") q us,
        assign_part_again m us (sign r (codes ";") ∷ vs) a x (ends_semicolon r vs),
        after_again (codes ";") r vs,
        expr_reads d 1 j vs (sign s (codes ";") ∷ ws) c y (ends_semicolon s ws),
        after_again (codes ";") s ws,
        assign_part_again l ws (sign u (codes ")") ∷ rest) b z (ends_close u rest),
        after_again (codes ")") u rest,
      )
      refl

  -- ---- assignments

  blocking_again : (m k : ℕ) (p q r : Place) (ts vs rest : Tokens) (target : Target) (e : TreeExpr) → IsTarget (IsExpr d) m ts (sign q (codes "=") ∷ vs) target → IsExpr d 1 k vs (sign r (codes ";") ∷ rest) e
      → assignment_at d p ts ≡ Some (stmt p (form.Assign target e), max m k + 1, rest)
  unfolding assignment_at blocking_from value_from
  blocking_again m k p q r ts vs rest target e x y =
      let read : expr_at d 1 vs ≡ Some (e, k, sign r (codes ";") ∷ rest) = expr_reads d 1 k vs (sign r (codes ";") ∷ rest) e y (ends_semicolon r rest) in
      rw (
        target_again m ts (sign q (codes "=") ∷ vs) target x (opening_other q (codes "=") vs refl),
        after_again (codes "=") q vs,
        no_system (expr_at d 1) (codes "$fgetc") (expr_no_getc d) vs (e, k, sign r (codes ";") ∷ rest) read,
        read,
        after_again (codes ";") r rest,
      )
      refl

  getc_again : (m k : ℕ) (p q r s : Place) (ts vs rest : Tokens) (target : Target) (e : TreeExpr) → IsTarget (IsExpr d) m ts (sign q (codes "=") ∷ system r (codes "$fgetc") ∷ vs) target
      → IsCond d k vs (sign s (codes ";") ∷ rest) e → assignment_at d p ts ≡ Some (stmt p (form.Getc target e), max m k + 1, rest)
  unfolding assignment_at blocking_from getc_from
  getc_again m k p q r s ts vs rest target e x y =
      rw (
        target_again m ts (sign q (codes "=") ∷ system r (codes "$fgetc") ∷ vs) target x (opening_other q (codes "=") (system r (codes "$fgetc") ∷ vs) refl),
        after_again (codes "=") q (system r (codes "$fgetc") ∷ vs),
        after_system_again (codes "$fgetc") r vs,
        cond_again k vs (sign s (codes ";") ∷ rest) e y,
        after_again (codes ";") s rest,
      )
      refl

  no_delay : (ts : Tokens) → after (codes "#") ts ≡ None → late_at d ts ≡ Some (None, 0, ts)
  unfolding late_at
  no_delay ts e = rw e refl

  late_again : (j : ℕ) (ts rest : Tokens) (delay : Delay) → IsDelay (IsExpr d) j ts rest delay → late_at d ts ≡ Some (Some delay, j, rest)
  unfolding late_at
  late_again j ts rest delay is =
      let front = delay_front d j ts rest delay is in
      let sharp : after (codes "#") ts ≡ Some front.1 = ap (after (codes "#")) front.2 ∙ after_again (codes "#") front.0 front.1 in
      rw (sharp, delay_again j ts rest delay is) refl

  post_again : (m j k : ℕ) (p q r : Place) (ts vs ws rest : Tokens) (target : Target) (late : Option Delay) (e : TreeExpr) → IsTarget (IsExpr d) m ts (sign q (codes "<=") ∷ vs) target → late_at d vs ≡ Some (late, j, ws)
      → IsExpr d 1 k ws (sign r (codes ";") ∷ rest) e → assignment_at d p ts ≡ Some (stmt p (form.Post target late e), max m (max j k) + 1, rest)
  unfolding assignment_at nonblocking_from
  post_again m j k p q r ts vs ws rest target late e x read y =
      rw (
        target_again m ts (sign q (codes "<=") ∷ vs) target x (opening_other q (codes "<=") vs refl),
        after_other (codes "=") (codes "<=") q vs refl,
        after_again (codes "<=") q vs,
        read,
        expr_reads d 1 k ws (sign r (codes ";") ∷ rest) e y (ends_semicolon r rest),
        after_again (codes ";") r rest,
      )
      refl

  nonblocking_again : (m k : ℕ) (p q r : Place) (ts vs rest : Tokens) (target : Target) (e : TreeExpr) → IsTarget (IsExpr d) m ts (sign q (codes "<=") ∷ vs) target → IsExpr d 1 k vs (sign r (codes ";") ∷ rest) e
      → assignment_at d p ts ≡ Some (stmt p (form.Post target None e), max m k + 1, rest)
  nonblocking_again m k p q r ts vs rest target e x y =
      let read : expr_at d 1 vs ≡ Some (e, k, sign r (codes ";") ∷ rest) = expr_reads d 1 k vs (sign r (codes ";") ∷ rest) e y (ends_semicolon r rest) in
      let none : after (codes "#") vs ≡ None = no_sign (expr_at d 1) (codes "#") (expr_no_sharp d) vs (e, k, sign r (codes ";") ∷ rest) read in
      let deep : max m (max 0 k) + 1 ≡ max m k + 1 = omega arith in
      post_again m 0 k p q r ts vs vs rest target None e x (no_delay vs none) y ∙ ap (λ (n : ℕ). Some (stmt p (form.Post target None e), n, rest)) deep

  call_again : (m : ℕ) (p q : Place) (ts rest : Tokens) (call : Task) → IsTask (IsExpr d) m ts (sign q (codes ";") ∷ rest) call → call_at d p ts ≡ Some (stmt p (form.Task call), m + 1, rest)
  unfolding call_at
  call_again m p q ts rest call is =
      rw (task_again m ts (sign q (codes ";") ∷ rest) call is (after_other (codes "(") (codes ";") q rest refl), after_again (codes ";") q rest) refl

module _ (P : Rule) (inner : Tokens → Read Stmt) (d : ℕ)
    (shorter : (o : Bool) (n : ℕ) (ts rest : Tokens) (tree : Stmt) → P o n ts rest tree → length rest < length ts)
    (complete : (o : Bool) (n : ℕ) (ts rest : Tokens) (tree : Stmt) → P o n ts rest tree → EndsStmt o rest → inner ts ≡ Some (tree, n, rest))
    (no_end : (q : Place) (us : Tokens) → inner (word q (codes "end") ∷ us) ≡ None)
    (no_else : (q : Place) (us : Tokens) → inner (word q (codes "else") ∷ us) ≡ None)
    (no_colon : (q : Place) (us : Tokens) → inner (sign q (codes ":") ∷ us) ≡ None) where
  -- ---- blocks

  -- statements up to `end`, which begin neither with `else` nor with a name
  record StmtsAgain (k : ℕ) (ts rest : Tokens) (body : List Stmt) : Type 0 where
    bare : after_word (codes "else") ts ≡ None
    unnamed : after (codes ":") ts ≡ None
    read : (f : ℕ) (before : List Stmt) (m : ℕ) → length ts ≤ f → stmts_from d inner f before m ts ≡ Some (before ++ body, max m k, rest)

  stmts_end : (f : ℕ) (before : List Stmt) (m : ℕ) (q : Place) (rest : Tokens) → length (word q (codes "end") ∷ rest) ≤ f → stmts_from d inner f before m (word q (codes "end") ∷ rest) ≡ Some (before ++ [], max m 0, rest)
  unfolding stmts_from
  stmts_end zero before m q rest fits = absurd (omega arith)
  stmts_end (suc f) before m q rest fits =
      let same : m ≡ max m 0 = omega arith in
      rw (after_word_again (codes "end") q rest) (ap (λ (l : List Stmt). Some (l, m, rest)) (sym (append-nil before)) ∙ ap (λ (n : ℕ). Some (before ++ [], n, rest)) same)

  stmts_next : (f : ℕ) (before : List Stmt) (m k j : ℕ) (ts us rest : Tokens) (s : Stmt) (others : List Stmt) → length us < length ts → length ts ≤ f → inner ts ≡ Some (s, k, us)
      → ((f : ℕ) (before : List Stmt) (m : ℕ) → length us ≤ f → stmts_from d inner f before m us ≡ Some (before ++ others, max m j, rest))
      → stmts_from d inner f before m ts ≡ Some (before ++ s ∷ others, max m (max k j), rest)
  unfolding stmts_from
  stmts_next zero before m k j ts us rest s others less fits read later = absurd (omega arith)
  stmts_next (suc f) before m k j ts us rest s others less fits read later =
      let goes = later f (before ++ s ∷ []) (max m k) (omega arith) in
      let deep : max (max m k) j ≡ max m (max k j) = omega arith in
      rw (no_word inner (codes "end") no_end ts (s, k, us) read, read)
      (goes ∙ ap (λ (l : List Stmt). Some (l, max (max m k) j, rest)) (append_assoc before (s ∷ []) others) ∙ ap (λ (n : ℕ). Some (before ++ s ∷ others, n, rest)) deep)

  stmts_again : (k : ℕ) (ts us rest : Tokens) (q : Place) (body : List Stmt) → IsMany (IsEither d P) k ts us body → us ≡ word q (codes "end") ∷ rest → StmtsAgain k ts rest body
  stmts_again k ts us rest q _ (no_more deep spelled) e =
      let whole : ts ≡ word q (codes "end") ∷ rest = spelled ∙ e in
      rw (deep, whole) (record { bare = after_word_other (codes "else") (codes "end") q rest refl; unnamed = word_no_colon (codes "end") q rest; read = λ f before m fits. stmts_end f before m q rest fits })
  stmts_again k ts us rest q _ (one_more m j vs s others is also deep) e =
      let later = stmts_again j vs us rest q others also e in
      let read : inner ts ≡ Some (s, m, vs) = complete is.0 m ts vs s is.1 (λ lone. later.bare) in
      rw deep (record {
        bare = no_word inner (codes "else") no_else ts (s, m, vs) read;
        unnamed = no_sign inner (codes ":") no_colon ts (s, m, vs) read;
        read = λ f before n fits. stmts_next f before n m j ts vs rest s others (shorter is.0 m ts vs s is.1) fits read later.read;
      })

  stmts_read : (k : ℕ) (ts rest : Tokens) (q : Place) (body : List Stmt) → IsMany (IsEither d P) k ts (word q (codes "end") ∷ rest) body → (after (codes ":") ts ≡ None) × (stmts_from d inner (length ts) [] 0 ts ≡ Some (body, k, rest))
  stmts_read k ts rest q body is =
      let all = stmts_again k ts (word q (codes "end") ∷ rest) rest q body is refl in
      let deep : max 0 k ≡ k = omega arith in
      (all.unnamed, all.read (length ts) [] 0 (omega arith) ∙ ap (λ (n : ℕ). Some (body, n, rest)) deep)

  no_label : (ts : Tokens) → after (codes ":") ts ≡ None → label_at ts ≡ Some (None, ts)
  unfolding label_at
  no_label ts e = rw e refl

  label_again : (q r : Place) (text : List ℕ) (us : Tokens) → label_at (sign q (codes ":") ∷ name r text ∷ us) ≡ Some (Some (record { text = text; place = r }), us)
  unfolding label_at after name_at
  label_again q r text us = refl

  block_again : (k : ℕ) (p q : Place) (ts us rest : Tokens) (label : Option Name) (body : List Stmt) → label_at ts ≡ Some (label, us) → IsMany (IsEither d P) k us (word q (codes "end") ∷ rest) body
      → block_from d inner p ts ≡ Some (stmt p (form.Block label body), k + 1, rest)
  unfolding block_from
  block_again k p q ts us rest label body front is = rw (front, (stmts_read k us rest q body is).1) refl

  -- ---- `if`

  lone_if_again : (x : Bool) (m k : ℕ) (p : Place) (us vs rest : Tokens) (c : TreeExpr) (s : Stmt) → IsCond d m us vs c → P x k vs rest s → after_word (codes "else") rest ≡ None
      → if_from d inner p us ≡ Some (stmt p (form.If c s None), max m k + 1, rest)
  unfolding if_from else_from
  lone_if_again x m k p us vs rest c s test is ends = rw (cond_again d m us vs c test, complete x k vs rest s is (λ lone. ends), ends) refl

  if_else_again : (o : Bool) (m j k : ℕ) (p q : Place) (us vs ws rest : Tokens) (c : TreeExpr) (a b : Stmt) → IsCond d m us vs c → P false j vs (word q (codes "else") ∷ ws) a → P o k ws rest b → EndsStmt o rest
      → if_from d inner p us ≡ Some (stmt p (form.If c a (Some b)), max m (max j k) + 1, rest)
  unfolding if_from else_from
  if_else_again o m j k p q us vs ws rest c a b test first second ends =
      let deep : max (max m j) k + 1 ≡ max m (max j k) + 1 = omega arith in
      rw (cond_again d m us vs c test, complete false j vs (word q (codes "else") ∷ ws) a first (λ lone. absurd cc), after_word_again (codes "else") q ws, complete o k ws rest b second ends)
      (ap (λ (n : ℕ). Some (stmt p (form.If c a (Some b)), n, rest)) deep)

  -- ---- statements before a statement

  guard_again : (g : Guard) (o : Bool) (m k : ℕ) (p : Place) (us vs rest : Tokens) (c : TreeExpr) (s : Stmt) → IsCond d m us vs c → P o k vs rest s → EndsStmt o rest
      → guarded_from d inner p g us ≡ Some (stmt p (guarded g c s), max m k + 1, rest)
  unfolding guarded_from
  guard_again g o m k p us vs rest c s test is ends = rw (cond_again d m us vs c test, complete o k vs rest s is ends) refl

  forever_again : (o : Bool) (k : ℕ) (p : Place) (us rest : Tokens) (s : Stmt) → P o k us rest s → EndsStmt o rest → forever_from d inner p us ≡ Some (stmt p (form.Forever s), k + 1, rest)
  unfolding forever_from
  forever_again o k p us rest s is ends = rw (complete o k us rest s is ends) refl

  for_again : (o : Bool) (k : ℕ) (p : Place) (us xs rest : Tokens) (h : ForHead) (n : ℕ) (body : Stmt) → for_head_at d us ≡ Some (h, n, xs) → P o k xs rest body → EndsStmt o rest
      → for_from d inner p us ≡ Some (stmt p (form.For h.start.target h.start.value h.cond h.step.target h.step.value body), max n k + 1, rest)
  unfolding for_from
  for_again o k p us xs rest h n body head is ends = rw (head, complete o k xs rest body is ends) refl

  delayed_again : (o : Bool) (m k : ℕ) (p : Place) (ts vs rest : Tokens) (delay : Delay) (s : Stmt) → IsDelay (IsExpr d) m ts vs delay → P o k vs rest s → EndsStmt o rest
      → delayed_at d inner p ts ≡ Some (stmt p (form.Delayed delay s), max m k + 1, rest)
  unfolding delayed_at
  delayed_again o m k p ts vs rest delay s x is ends = rw (delay_again d m ts vs delay x, complete o k vs rest s is ends) refl

  on_again : (o : Bool) (m k : ℕ) (p : Place) (us vs rest : Tokens) (events : Events) (s : Stmt) → IsEvents (IsExpr d) m us vs events → P o k vs rest s → EndsStmt o rest
      → on_from d inner p us ≡ Some (stmt p (form.On events s), max m k + 1, rest)
  unfolding on_from
  on_again o m k p us vs rest events s x is ends = rw (events_again d m us vs events x, complete o k vs rest s is ends) refl

  -- ---- `case`

  -- an item where so many defaults were seen
  record CitemAgain (c n : ℕ) (seen : Bool) (ts rest : Tokens) (i : Citem) : Type 0 where
    now : Bool
    counted : count now ≡ count seen + c
    read : citem_at d inner seen ts ≡ Some (i, now, n, rest)

  labelled_again : (o : Bool) (m k : ℕ) (seen : Bool) (t : Token) (q : Place) (us vs rest : Tokens) (es : List TreeExpr) (s : Stmt) → IsExprs (IsExpr d) m (t ∷ us) (sign q (codes ":") ∷ vs) es → P o k vs rest s → EndsStmt o rest
      → citem_at d inner seen (t ∷ us) ≡ Some (citem t.place (choice.Labels es s), seen, max m k, rest)
  unfolding citem_at labelled_at
  labelled_again o m k seen t q us vs rest es s x is ends =
      let read : exprs_at (expr_at d) (t ∷ us) ≡ Some (es, m, sign q (codes ":") ∷ vs) = exprs_reads d m (t ∷ us) (sign q (codes ":") ∷ vs) es x (exprs_small d m (t ∷ us) (sign q (codes ":") ∷ vs) es x) (ends_colon q vs) (after_other (codes ",") (codes ":") q vs refl) in
      let label : is_word (codes "default") t.kind ≡ false = not_word (codes "default") t us (no_word (exprs_at (expr_at d)) (codes "default") (exprs_no_word d (codes "default")) (t ∷ us) (es, m, sign q (codes ":") ∷ vs) read) in
      rw (label, read, after_again (codes ":") q vs, complete o k vs rest s is ends) refl

  default_again : (o : Bool) (k : ℕ) (p q : Place) (us rest : Tokens) (s : Stmt) → P o k us rest s → EndsStmt o rest
      → citem_at d inner false (word p (codes "default") ∷ sign q (codes ":") ∷ us) ≡ Some (citem p (choice.Default true s), true, k, rest)
  unfolding citem_at default_from
  default_again o k p q us rest s is ends = rw (after_again (codes ":") q us, complete o k us rest s is ends) refl

  bare_again : (o : Bool) (k : ℕ) (p : Place) (us rest : Tokens) (s : Stmt) → P o k us rest s → EndsStmt o rest → citem_at d inner false (word p (codes "default") ∷ us) ≡ Some (citem p (choice.Default false s), true, k, rest)
  unfolding citem_at default_from
  bare_again o k p us rest s is ends =
      let read : inner us ≡ Some (s, k, rest) = complete o k us rest s is ends in
      rw (no_sign inner (codes ":") no_colon us (s, k, rest) read, read) refl

  none_seen : (seen : Bool) (c : ℕ) → c ≡ 1 → count seen + c ≤ 1 → seen ≡ false
  none_seen true c one most = absurd (omega (arith, count_true))
  none_seen false c one most = refl

  citem_again : (c n : ℕ) (ts rest : Tokens) (i : Citem) → IsCitem d P c n ts rest i → after_word (codes "else") rest ≡ None → (seen : Bool) → count seen + c ≤ 1 → CitemAgain c n seen ts rest i
  citem_again c n ts rest i (labelled o m k t q us vs es s x y spelled one deep tree) ends seen most =
      let read : citem_at d inner seen (t ∷ us) ≡ Some (citem t.place (choice.Labels es s), seen, max m k, rest) = labelled_again o m k seen t q us vs rest es s (rw (← spelled) x) y (λ lone. ends) in
      record { now = seen; counted = omega arith; read = rw (spelled, deep, tree) read }
  citem_again c n ts rest i (default o p q us s x spelled one tree) ends seen most =
      let first : seen ≡ false = none_seen seen c one most in
      rw first (record { now = true; counted = omega (arith, count_true, count_false); read = rw (spelled, tree) (default_again o n p q us rest s x (λ lone. ends)) })
  citem_again c n ts rest i (bare_default o p us s x spelled one tree) ends seen most =
      let first : seen ≡ false = none_seen seen c one most in
      rw first (record { now = true; counted = omega (arith, count_true, count_false); read = rw (spelled, tree) (bare_again o n p us rest s x (λ lone. ends)) })

  citem_no_word : (text : List ℕ) → bytes_eq text (codes "default") ≡ false → (q : Place) (us : Tokens) → citem_at d inner false (word q text ∷ us) ≡ None
  unfolding citem_at labelled_at
  citem_no_word text other q us = rw (other, exprs_no_word d text q us) refl

  seen_no_word : (seen : Bool) (text : List ℕ) → bytes_eq text (codes "default") ≡ false → (q : Place) (us : Tokens) → citem_at d inner seen (word q text ∷ us) ≡ None
  unfolding citem_at labelled_at
  seen_no_word seen text other q us = rw (other, exprs_no_word d text q us) refl

  record CitemsAgain (c k : ℕ) (ts rest : Tokens) (items : List Citem) : Type 0 where
    bare : after_word (codes "else") ts ≡ None
    read : (f : ℕ) (seen : Bool) (before : List Citem) (m : ℕ) → length ts ≤ f → count seen + c ≤ 1 → citems_from d inner f seen before m ts ≡ Some (before ++ items, max m k, rest)

  citems_end : (f : ℕ) (seen : Bool) (before : List Citem) (m : ℕ) (q : Place) (rest : Tokens) → length (word q (codes "endcase") ∷ rest) ≤ f → citems_from d inner f seen before m (word q (codes "endcase") ∷ rest) ≡ Some (before ++ [], max m 0, rest)
  unfolding citems_from
  citems_end zero seen before m q rest fits = absurd (omega arith)
  citems_end (suc f) seen before m q rest fits =
      let same : m ≡ max m 0 = omega arith in
      rw (after_word_again (codes "endcase") q rest) (ap (λ (l : List Citem). Some (l, m, rest)) (sym (append-nil before)) ∙ ap (λ (n : ℕ). Some (before ++ [], n, rest)) same)

  citems_next : (f : ℕ) (seen now : Bool) (before : List Citem) (m k j : ℕ) (ts us rest : Tokens) (i : Citem) (others : List Citem) → length us < length ts → length ts ≤ f → citem_at d inner seen ts ≡ Some (i, now, k, us)
      → ((f : ℕ) (before : List Citem) (m : ℕ) → length us ≤ f → citems_from d inner f now before m us ≡ Some (before ++ others, max m j, rest))
      → citems_from d inner f seen before m ts ≡ Some (before ++ i ∷ others, max m (max k j), rest)
  unfolding citems_from
  citems_next zero seen now before m k j ts us rest i others less fits read later = absurd (omega arith)
  citems_next (suc f) seen now before m k j ts us rest i others less fits read later =
      let goes = later f (before ++ i ∷ []) (max m k) (omega arith) in
      let deep : max (max m k) j ≡ max m (max k j) = omega arith in
      rw (no_word (citem_at d inner seen) (codes "endcase") (seen_no_word seen (codes "endcase") refl) ts (i, now, k, us) read, read)
      (goes ∙ ap (λ (l : List Citem). Some (l, max (max m k) j, rest)) (append_assoc before (i ∷ []) others) ∙ ap (λ (n : ℕ). Some (before ++ i ∷ others, n, rest)) deep)

  -- an item begins with no `else`: some read of it tells
  citem_bare : (c n : ℕ) (ts rest : Tokens) (i : Citem) → IsCitem d P c n ts rest i → after_word (codes "else") rest ≡ None → c ≤ 1 → after_word (codes "else") ts ≡ None
  citem_bare c n ts rest i is ends one =
      let again = citem_again c n ts rest i is ends false (omega (arith, count_false)) in
      no_word (citem_at d inner false) (codes "else") (citem_no_word (codes "else") refl) ts (i, again.now, n, rest) again.read

  citem_one : (c n : ℕ) (ts rest : Tokens) (i : Citem) → IsCitem d P c n ts rest i → c ≤ 1
  citem_one c n ts rest i (labelled o m k t q us vs es s x y spelled one deep tree) = omega arith
  citem_one c n ts rest i (default o p q us s x spelled one tree) = omega arith
  citem_one c n ts rest i (bare_default o p us s x spelled one tree) = omega arith

  citems_again : (c k : ℕ) (ts us rest : Tokens) (q : Place) (items : List Citem) → IsCitems d P c k ts us items → us ≡ word q (codes "endcase") ∷ rest → CitemsAgain c k ts rest items
  citems_again c k ts us rest q _ (no_item none deep spelled) e =
      let whole : ts ≡ word q (codes "endcase") ∷ rest = spelled ∙ e in
      rw (deep, whole) (record { bare = after_word_other (codes "else") (codes "endcase") q rest refl; read = λ f seen before m fits most. citems_end f seen before m q rest fits })
  citems_again c k ts us rest q _ (next_item a b m j vs i others x also sum deep) e =
      let later = citems_again b j vs us rest q others also e in
      rw deep (record {
        bare = citem_bare a m ts vs i x later.bare (citem_one a m ts vs i x);
        read = λ f seen before n fits most.
            let first = citem_again a m ts vs i x later.bare seen (omega arith) in
            citems_next f seen first.now before n m j ts vs rest i others (citem_shorter d P shorter a m ts vs i x) fits first.read (λ g list h less. later.read g first.now list h less (omega (arith, first.counted)));
      })

  case_again : (a b m j k : ℕ) (p q : Place) (w : CaseWord) (us vs ws rest : Tokens) (e : TreeExpr) (i : Citem) (others : List Citem) → IsCond d m us vs e → IsCitem d P a j vs ws i
      → IsCitems d P b k ws (word q (codes "endcase") ∷ rest) others → a + b ≤ 1 → case_from d inner p w us ≡ Some (stmt p (form.Case w e (i ∷ others)), max m (max j k) + 1, rest)
  unfolding case_from citems_at
  case_again a b m j k p q w us vs ws rest e i others test x also one =
      let later = citems_again b k ws (word q (codes "endcase") ∷ rest) rest q others also refl in
      let first = citem_again a j vs ws i x later.bare false (omega (arith, count_false)) in
      let read : citems_from d inner (length ws) first.now (i ∷ []) j ws ≡ Some (i ∷ others, max j k, rest) = later.read (length ws) first.now (i ∷ []) j (omega arith) (omega (arith, first.counted, count_false)) in
      rw (cond_again d m us vs e test, first.read, read) refl

  -- ---- a statement by its first token

  case_word : (p : Place) (text : List ℕ) (w : CaseWord) (us : Tokens) → case_of text ≡ Some w → stmt_by_word d inner p text us ≡ case_from d inner p w us
  unfolding case_of guard_of choice_by stmt_by_word
  case_word p text w us which =
      let R : List ℕ → Type 0 = λ t. stmt_by_word d inner p t us ≡ case_from d inner p w us in
      chosen text (codes "case") _ _ w R which (λ e. ap (λ (v : CaseWord). case_from d inner p v us) (some_is cases.Case w e)) (λ e.
      chosen text (codes "casez") _ _ w R e (λ e. ap (λ (v : CaseWord). case_from d inner p v us) (some_is cases.Casez w e)) (λ e.
      chosen text (codes "casex") _ _ w R e (λ e. ap (λ (v : CaseWord). case_from d inner p v us) (some_is cases.Casex w e)) (λ e. absurd cc)))

  by_target : (t : Token) (us : Tokens) (x : Stmt × ℕ × Tokens) → TargetFront t → assignment_at d t.place (t ∷ us) ≡ Some x → stmt_over d inner (t ∷ us) ≡ Some x
  unfolding stmt_over stmt_by_sign
  by_target t us x (by_name text kind) e = ap (λ (k : TokenKind). stmt_by d inner k t.place (t ∷ us) us) kind ∙ e
  by_target t us x (by_brace kind) e = ap (λ (k : TokenKind). stmt_by d inner k t.place (t ∷ us) us) kind ∙ e

  by_delay : (t : Token) (us : Tokens) (x : Stmt × ℕ × Tokens) → t.kind ≡ token.Sign (codes "#") → delayed_at d inner t.place (t ∷ us) ≡ Some x → stmt_over d inner (t ∷ us) ≡ Some x
  unfolding stmt_over stmt_by_sign
  by_delay t us x kind e = ap (λ (k : TokenKind). stmt_by d inner k t.place (t ∷ us) us) kind ∙ e

  by_task : (t : Token) (us : Tokens) (x : Stmt × ℕ × Tokens) (text : List ℕ) → t.kind ≡ token.System text → call_at d t.place (t ∷ us) ≡ Some x → stmt_over d inner (t ∷ us) ≡ Some x
  unfolding stmt_over
  by_task t us x text kind e = ap (λ (k : TokenKind). stmt_by d inner k t.place (t ∷ us) us) kind ∙ e

  by_case : (p : Place) (text : List ℕ) (w : CaseWord) (us : Tokens) (x : Stmt × ℕ × Tokens) → case_of text ≡ Some w → case_from d inner p w us ≡ Some x → stmt_over d inner (word p text ∷ us) ≡ Some x
  unfolding stmt_over
  by_case p text w us x which e = case_word p text w us which ∙ e

  -- a target at the front, for any rule over the tokens from it on
  target_first : (m : ℕ) (t : Token) (ts us rest : Tokens) (target : Target) → IsTarget (IsExpr d) m ts rest target → ts ≡ t ∷ us → TargetFront t
  target_first m t ts us rest target is spelled = target_front d 201 m t us rest target (subst (λ vs. IsTarget (IsExpr d) m vs rest target) spelled is)

  assigned_again : (m : ℕ) (t : Token) (ts us rest following : Tokens) (target : Target) (tree s : Stmt) (n k : ℕ) → IsTarget (IsExpr d) m ts following target → ts ≡ t ∷ us → n ≡ k → tree ≡ s → assignment_at d t.place ts ≡ Some (s, k, rest)
      → stmt_over d inner ts ≡ Some (tree, n, rest)
  assigned_again m t ts us rest following target tree s n k is spelled deep same read =
      let front = target_first m t ts us following target is spelled in
      let whole : assignment_at d t.place (t ∷ us) ≡ Some (s, k, rest) = rw (← spelled) read in
      rw (spelled, deep, same) (by_target t us (s, k, rest) front whole)

  over_again : (o : Bool) (n : ℕ) (ts rest : Tokens) (tree : Stmt) → IsStmtOver d P o n ts rest tree → EndsStmt o rest → stmt_over d inner ts ≡ Some (tree, n, rest)
  unfolding stmt_over stmt_by_word stmt_by_sign choice_by guard_of
  over_again o n ts rest tree (empty p spelled lone deep same) ends = rw (spelled, deep, same) refl
  over_again o n ts rest tree (block m p q us body x spelled lone deep same) ends =
      rw (spelled, deep, same) (block_again m p q us us rest None body (no_label us (stmts_read m us rest q body x).0) x)
  over_again o n ts rest tree (named_block m p q r s text us body x spelled lone deep same) ends =
      rw (spelled, deep, same) (block_again m p s (sign q (codes ":") ∷ name r text ∷ us) us rest (Some (record { text = text; place = r })) body (label_again q r text us) x)
  over_again o n ts rest tree (blocking m k t q r us vs target e x y spelled lone deep same) ends =
      assigned_again m t ts us rest (sign q (codes "=") ∷ vs) target tree _ n _ x spelled deep same (blocking_again d m k t.place q r ts vs rest target e x y)
  over_again o n ts rest tree (getc m k t q r s us vs target e x y spelled lone deep same) ends =
      assigned_again m t ts us rest (sign q (codes "=") ∷ system r (codes "$fgetc") ∷ vs) target tree _ n _ x spelled deep same (getc_again d m k t.place q r s ts vs rest target e x y)
  over_again o n ts rest tree (nonblocking m k t q r us vs target e x y spelled lone deep same) ends =
      assigned_again m t ts us rest (sign q (codes "<=") ∷ vs) target tree _ n _ x spelled deep same (nonblocking_again d m k t.place q r ts vs rest target e x y)
  over_again o n ts rest tree (postponed m j k t q r us vs ws target delay e x y z spelled lone deep same) ends =
      assigned_again m t ts us rest (sign q (codes "<=") ∷ vs) target tree _ n _ x spelled deep same (post_again d m j k t.place q r ts vs ws rest target (Some delay) e x (late_again d j vs ws delay y) z)
  over_again o n ts rest tree (lone_if i m k p us vs c s x y spelled lone deep same) ends = rw (spelled, deep, same) (lone_if_again i m k p us vs rest c s x y (ends lone))
  over_again o n ts rest tree (if_else m j k p q us vs ws c a b x y z spelled deep same) ends = rw (spelled, deep, same) (if_else_again o m j k p q us vs ws rest c a b x y z ends)
  over_again o n ts rest tree (choices a b m j k p q text w us vs ws e i others x y z which one spelled lone deep same) ends =
      rw (spelled, deep, same) (by_case p text w us _ which (case_again a b m j k p q w us vs ws rest e i others x y z one))
  over_again o n ts rest tree (while_loop m k p us vs c s x y spelled deep same) ends = rw (spelled, deep, same) (guard_again _ o m k p us vs rest c s x y ends)
  over_again o n ts rest tree (repeat_loop m k p us vs c s x y spelled deep same) ends = rw (spelled, deep, same) (guard_again _ o m k p us vs rest c s x y ends)
  over_again o n ts rest tree (forever_loop k p us s x spelled deep same) ends = rw (spelled, deep, same) (forever_again o k p us rest s x ends)
  over_again o n ts rest tree (for_loop m j l k p q r s u us vs ws xs a b c body x y z is spelled deep same) ends =
      rw (spelled, deep, same) (for_again o k p (sign q (codes "(") ∷ us) xs rest (record { start = a; cond = c; step = b }) (max m (max j l)) body (for_head_again d m j l q r s u us vs ws xs a b c x y z) is ends)
  over_again o n ts rest tree (delayed m k t us vs delay s x y spelled deep same) ends =
      let front = delay_front d m ts vs delay x in
      let kind : t.kind ≡ token.Sign (codes "#") = same_kind t (sign front.0 (codes "#")) us front.1 (sym spelled ∙ front.2) in
      let read : delayed_at d inner t.place (t ∷ us) ≡ Some (stmt t.place (form.Delayed delay s), max m k + 1, rest) = rw (← spelled) (delayed_again o m k t.place ts vs rest delay s x y ends) in
      rw (spelled, deep, same) (by_delay t us _ kind read)
  over_again o n ts rest tree (on_events m k p us vs events s x y spelled deep same) ends = rw (spelled, deep, same) (on_again o m k p us vs rest events s x y ends)
  over_again o n ts rest tree (waiting m k p us vs c s x y spelled deep same) ends = rw (spelled, deep, same) (guard_again _ o m k p us vs rest c s x y ends)
  over_again o n ts rest tree (task_call m t q us call x spelled lone deep same) ends =
      let front = task_front d m t us (sign q (codes ";") ∷ rest) call (rw (← spelled) x) in
      let read : call_at d t.place (t ∷ us) ≡ Some (stmt t.place (form.Task call), m + 1, rest) = rw (← spelled) (call_again d m t.place q ts rest call x) in
      rw (spelled, deep, same) (by_task t us _ front.0 front.1 read)

-- ---- what no statement begins with

stmt_no_end : (d : ℕ) (q : Place) (us : Tokens) → stmt_at d (word q (codes "end") ∷ us) ≡ None
unfolding stmt_at stmt_over stmt_by_word choice_by guard_of case_of
stmt_no_end zero q us = refl
stmt_no_end (suc d) q us = refl

stmt_no_else : (d : ℕ) (q : Place) (us : Tokens) → stmt_at d (word q (codes "else") ∷ us) ≡ None
unfolding stmt_at stmt_over stmt_by_word choice_by guard_of case_of
stmt_no_else zero q us = refl
stmt_no_else (suc d) q us = refl

stmt_no_colon : (d : ℕ) (q : Place) (us : Tokens) → stmt_at d (sign q (codes ":") ∷ us) ≡ None
unfolding stmt_at stmt_over stmt_by_sign
stmt_no_colon zero q us = refl
stmt_no_colon (suc d) q us = refl

pub stmt_again : (d : ℕ) (o : Bool) (n : ℕ) (ts rest : Tokens) (tree : Stmt) → IsStmt d o n ts rest tree → EndsStmt o rest → stmt_at d ts ≡ Some (tree, n, rest)
unfolding stmt_at IsStmt
stmt_again zero o n ts rest tree is ends = absurd is
stmt_again (suc d) o n ts rest tree is ends = over_again (IsStmt d) (stmt_at d) d (stmt_shorter d) (stmt_again d) (stmt_no_end d) (stmt_no_else d) (stmt_no_colon d) o n ts rest tree is ends

pub readings : ReadingsAreStatements
readings d = (λ ts x e. (let is = stmt_is d ts x e in (is.lone, is.is, is.ends)), stmt_again d)
