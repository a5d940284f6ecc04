-- What the reading functions read is what the grammar says.
use Rattle.std.proofs.Common.{◌≡◌, ℕ, zero, suc, ◌+◌, ◌≤◌, max, Bool, true, false, cond, ◌⊎◌, List, [], ◌∷◌, ◌++◌, length, Option, Some, None, refl, ap, subst, sym, ◌∙◌, inl, inr, append_assoc, codes, arith}
use Rattle.std.proofs.lemmas.Bool.{cases_Bool}
use Rattle.std.proofs.lemmas.List.{append-nil}
use Rattle.vf_base.specs.declared.names.Place.{Place}
use Rattle.vf_lexeme.specs.declared.kinds.TokenKind.{TokenKind}
use Rattle.vf_lexeme.specs.declared.kinds.TokenKind.TheVariants as token
use Rattle.vf_lex.specs.declared.token.Token.{Token}
use Rattle.vf_tree.specs.declared.words.Name.{Name}
use Rattle.vf_tree.specs.declared.expressions.TreeExpr.{TreeExpr}
use Rattle.vf_tree.specs.declared.statements.Target.{Target}
use Rattle.vf_tree.specs.declared.statements.Delay.{Delay}
use Rattle.vf_tree.specs.declared.statements.CaseWord.{CaseWord}
use Rattle.vf_tree.specs.declared.statements.Stmt.{Stmt}
use Rattle.vf_tree.specs.declared.statements.StmtForm.{StmtForm}
use Rattle.vf_tree.specs.declared.statements.StmtForm.TheVariants as form
use Rattle.vf_tree.specs.declared.statements.Citem.{Citem}
use Rattle.vf_tree.specs.declared.statements.CitemForm.TheVariants as choice
use Rattle.vf_tree.specs.declared.modules.AssignPart.{AssignPart}
use Rattle.vf_expression.specs.Grammar.{Tokens, sign, word, name, system, IsExprs, IsExpr}
use Rattle.vf_expression.specs.Reading.{Read, ◌>>=◌, found_or, after, argument_at, exprs_at, expr_at}
use Rattle.vf_expression.proofs.CallerLemmas.{bind_some, some_is, found_is, chosen, after_is, expr_read, exprs_read, argument_read}
use Rattle.vf_control.specs.Lists.{IsMany, no_more, one_more}
use Rattle.vf_control.specs.Grammar.{IsTarget, IsDelay}
use Rattle.vf_control.specs.Reading.{target_at, delay_at, events_at, task_at}
use Rattle.vf_control.proofs.CallerLemmas.{readings_are}
use Rattle.vf_statement.specs.declared.words.Guard.{Guard}
use Rattle.vf_statement.specs.declared.words.Guard.TheVariants as guard
use Rattle.vf_statement.specs.declared.simple.ForHead.{ForHead}
use Rattle.vf_statement.specs.Words.{case_of, guard_of, guarded}
use Rattle.vf_statement.specs.Grammar.{stmt, citem, Rule, IsCond, enclosed, IsAssignPart, assigned, IsEither, IsCitem, labelled, default, bare_default, IsCitems, no_item, next_item, IsStmtOver, empty, block, named_block, blocking, getc, nonblocking, postponed, lone_if, if_else, choices, while_loop, repeat_loop, forever_loop, for_loop, delayed, on_events, waiting, task_call, IsStmt}
use Rattle.vf_statement.specs.Reading.{EndsStmt, is_word, after_word, after_system, label_at, made, assign_part_at, getc_from, value_from, blocking_from, late_at, nonblocking_from, assignment_at, call_at, for_head_at, for_form, stmts_from, block_from, else_from, if_from, guarded_from, forever_from, for_from, delayed_at, on_from, default_from, labelled_at, citem_at, citems_from, citems_at, case_from, choice_by, stmt_by_word, stmt_by_sign, stmt_by, stmt_over, stmt_at}
use Rattle.vf_statement.proofs.FrontLemmas.{word_token, after_word_is, after_system_is, label_is}

-- a statement that was read, and that no `else` follows which would belong to it
pub record Reads (P : Rule) (ts : Tokens) (x : Stmt × ℕ × Tokens) : Type 0 where
  pub lone : Bool
  pub is : P lone x.1 ts x.2 x.0
  pub ends : EndsStmt lone x.2

shut : (rest : Tokens) → EndsStmt false rest
shut rest e = absurd cc

module _ (d : ℕ) where
  expr_before : (ts : Tokens) (a : TreeExpr × ℕ × Tokens) (text : List ℕ) (rest : Tokens) → expr_at d 1 ts ≡ Some a → after text a.2 ≡ Some rest → (q : Place) × IsExpr d 1 a.1 ts (sign q text ∷ rest) a.0
  expr_before ts a text rest e f =
      let q = after_is text a.2 rest f in
      (q.0, subst (λ us. IsExpr d 1 a.1 ts us a.0) q.1 (expr_read d 1 ts a e))

  cond_is : (ts : Tokens) (a : TreeExpr × ℕ × Tokens) → argument_at (expr_at d) ts ≡ Some a → IsCond d a.1 ts a.2 a.0
  cond_is ts a e =
      let x = argument_read d ts a e in
      enclosed x.0 x.1 x.2 x.4 x.3

  pub assign_part_is : (ts : Tokens) (x : AssignPart × ℕ × Tokens) → assign_part_at d ts ≡ Some x → IsAssignPart d x.1 ts x.2 x.0
  unfolding assign_part_at
  assign_part_is ts x e =
      let t = bind_some (target_at (expr_at d) ts) (λ t. after (codes "=") t.2 >>= λ us. expr_at d 1 us >>= λ e. Some (record { target = t.0; value = e.0 }, max t.1 e.1, e.2)) x e in
      let u = bind_some (after (codes "=") t.0.2) (λ us. expr_at d 1 us >>= λ e. Some (record { target = t.0.0; value = e.0 }, max t.0.1 e.1, e.2)) x t.2 in
      let v = bind_some (expr_at d 1 u.0) (λ e. Some (record { target = t.0.0; value = e.0 }, max t.0.1 e.1, e.2)) x u.2 in
      let same : (record { target = t.0.0; value = v.0.0 }, max t.0.1 v.0.1, v.0.2) ≡ x = some_is _ x v.2 in
      let q = after_is (codes "=") t.0.2 u.0 u.1 in
      let to : IsTarget (IsExpr d) t.0.1 ts (sign q.0 (codes "=") ∷ u.0) t.0.0 = subst (λ us. IsTarget (IsExpr d) t.0.1 ts us t.0.0) q.1 ((readings_are d).target.sound ts t.0 t.1) in
      subst (λ (y : AssignPart × ℕ × Tokens). IsAssignPart d y.1 ts y.2 y.0) same (assigned t.0.1 v.0.1 q.0 u.0 t.0.0 v.0.0 to (expr_read d 1 u.0 v.0 v.1) refl refl)

  part_before : (ts : Tokens) (a : AssignPart × ℕ × Tokens) (text : List ℕ) (rest : Tokens) → assign_part_at d ts ≡ Some a → after text a.2 ≡ Some rest → (q : Place) × IsAssignPart d a.1 ts (sign q text ∷ rest) a.0
  part_before ts a text rest e f =
      let q = after_is text a.2 rest f in
      (q.0, subst (λ us. IsAssignPart d a.1 ts us a.0) q.1 (assign_part_is ts a e))

-- the parentheses of a `for`
record IsForHead (d : ℕ) (ts : Tokens) (x : ForHead × ℕ × Tokens) : Type 0 where
  m : ℕ
  j : ℕ
  l : ℕ
  q : Place
  r : Place
  s : Place
  u : Place
  us : Tokens
  vs : Tokens
  ws : Tokens
  spelled : ts ≡ sign q (codes "(") ∷ us
  start : IsAssignPart d m us (sign r (codes ";") ∷ vs) x.0.start
  test : IsExpr d 1 j vs (sign s (codes ";") ∷ ws) x.0.cond
  step : IsAssignPart d l ws (sign u (codes ")") ∷ x.2) x.0.step
  deep : x.1 ≡ max m (max j l)

for_head_is : (d : ℕ) (ts : Tokens) (x : ForHead × ℕ × Tokens) → for_head_at d ts ≡ Some x → IsForHead d ts x
unfolding for_head_at
for_head_is d ts x e =
    let u = bind_some (after (codes "(") ts) (λ us. assign_part_at d us >>= λ a. after (codes ";") a.2 >>= λ vs. expr_at d 1 vs >>= λ c. after (codes ";") c.2 >>= λ ws. assign_part_at d ws >>= λ b. after (codes ")") b.2 >>= λ rest. Some (record { start = a.0; cond = c.0; step = b.0 }, max a.1 (max c.1 b.1), rest)) x e in
    let a = bind_some (assign_part_at d u.0) (λ a. after (codes ";") a.2 >>= λ vs. expr_at d 1 vs >>= λ c. after (codes ";") c.2 >>= λ ws. assign_part_at d ws >>= λ b. after (codes ")") b.2 >>= λ rest. Some (record { start = a.0; cond = c.0; step = b.0 }, max a.1 (max c.1 b.1), rest)) x u.2 in
    let v = bind_some (after (codes ";") a.0.2) (λ vs. expr_at d 1 vs >>= λ c. after (codes ";") c.2 >>= λ ws. assign_part_at d ws >>= λ b. after (codes ")") b.2 >>= λ rest. Some (record { start = a.0.0; cond = c.0; step = b.0 }, max a.0.1 (max c.1 b.1), rest)) x a.2 in
    let c = bind_some (expr_at d 1 v.0) (λ c. after (codes ";") c.2 >>= λ ws. assign_part_at d ws >>= λ b. after (codes ")") b.2 >>= λ rest. Some (record { start = a.0.0; cond = c.0; step = b.0 }, max a.0.1 (max c.1 b.1), rest)) x v.2 in
    let w = bind_some (after (codes ";") c.0.2) (λ ws. assign_part_at d ws >>= λ b. after (codes ")") b.2 >>= λ rest. Some (record { start = a.0.0; cond = c.0.0; step = b.0 }, max a.0.1 (max c.0.1 b.1), rest)) x c.2 in
    let b = bind_some (assign_part_at d w.0) (λ b. after (codes ")") b.2 >>= λ rest. Some (record { start = a.0.0; cond = c.0.0; step = b.0 }, max a.0.1 (max c.0.1 b.1), rest)) x w.2 in
    let r = bind_some (after (codes ")") b.0.2) (λ rest. Some (record { start = a.0.0; cond = c.0.0; step = b.0.0 }, max a.0.1 (max c.0.1 b.0.1), rest)) x b.2 in
    let same : (record { start = a.0.0; cond = c.0.0; step = b.0.0 }, max a.0.1 (max c.0.1 b.0.1), r.0) ≡ x = some_is _ x r.2 in
    let front = after_is (codes "(") ts u.0 u.1 in
    let first = part_before d u.0 a.0 (codes ";") v.0 a.1 v.1 in
    let second = expr_before d v.0 c.0 (codes ";") w.0 c.1 w.1 in
    let third = part_before d w.0 b.0 (codes ")") r.0 b.1 r.1 in
    subst (λ (y : ForHead × ℕ × Tokens). IsForHead d ts y) same (record {
      m = a.0.1;
      j = c.0.1;
      l = b.0.1;
      q = front.0;
      r = first.0;
      s = second.0;
      u = third.0;
      us = u.0;
      vs = v.0;
      ws = w.0;
      spelled = front.1;
      start = first.1;
      test = second.1;
      step = third.1;
      deep = refl;
    })

-- the number of defaults among the items that were seen
pub count : Bool → ℕ
count true = 1
count false = 0

pub count_true : count true ≡ 1
unfolding count
count_true = refl

pub count_false : count false ≡ 0
unfolding count
count_false = refl

module _ (P : Rule) (inner : Tokens → Read Stmt) (d : ℕ) (sound : (ts : Tokens) (x : Stmt × ℕ × Tokens) → inner ts ≡ Some x → Reads P ts x) where
  -- what was read, of depth 1 more than d at most
  abbrev Good : Tokens → Stmt × ℕ × Tokens → Type 0
  Good ts x = Reads (IsStmtOver d P) ts x

  done : (p : Place) (f : StmtForm) (n : ℕ) (rest ts : Tokens) (x : Stmt × ℕ × Tokens) → made p f n rest ≡ Some x → (o : Bool) → IsStmtOver d P o (n + 1) ts rest (stmt p f) → EndsStmt o rest → Good ts x
  done p f n rest ts x e o is ends =
      subst (λ (y : Stmt × ℕ × Tokens). Good ts y) (some_is (stmt p f, n + 1, rest) x e) (record { lone = o; is = is; ends = ends })

  -- ---- assignments and calls

  getc_is : (t : Token) (us : Tokens) (q r : Place) (vs : Tokens) (target : Target) (n : ℕ) (x : Stmt × ℕ × Tokens) → IsTarget (IsExpr d) n (t ∷ us) (sign q (codes "=") ∷ system r (codes "$fgetc") ∷ vs) target
      → getc_from d t.place target n vs ≡ Some x → Good (t ∷ us) x
  unfolding getc_from
  getc_is t us q r vs target n x to h =
      let e = bind_some (argument_at (expr_at d) vs) (λ e. after (codes ";") e.2 >>= λ rest. made t.place (form.Getc target e.0) (max n e.1) rest) x h in
      let z = bind_some (after (codes ";") e.0.2) (λ rest. made t.place (form.Getc target e.0.0) (max n e.0.1) rest) x e.2 in
      let s = after_is (codes ";") e.0.2 z.0 z.1 in
      let c : IsCond d e.0.1 vs (sign s.0 (codes ";") ∷ z.0) e.0.0 = subst (λ ws. IsCond d e.0.1 vs ws e.0.0) s.1 (cond_is d vs e.0 e.1) in
      done _ _ _ _ (t ∷ us) x z.2 false (getc n e.0.1 t q r s.0 us vs target e.0.0 to c refl refl refl refl) (shut z.0)

  value_is : (t : Token) (us : Tokens) (q : Place) (vs : Tokens) (target : Target) (n : ℕ) (x : Stmt × ℕ × Tokens) → IsTarget (IsExpr d) n (t ∷ us) (sign q (codes "=") ∷ vs) target
      → value_from d t.place target n vs ≡ Some x → Good (t ∷ us) x
  unfolding value_from
  value_is t us q vs target n x to h =
      let e = bind_some (expr_at d 1 vs) (λ e. after (codes ";") e.2 >>= λ rest. made t.place (form.Assign target e.0) (max n e.1) rest) x h in
      let z = bind_some (after (codes ";") e.0.2) (λ rest. made t.place (form.Assign target e.0.0) (max n e.0.1) rest) x e.2 in
      let s = expr_before d vs e.0 (codes ";") z.0 e.1 z.1 in
      done _ _ _ _ (t ∷ us) x z.2 false (blocking n e.0.1 t q s.0 us vs target e.0.0 to s.1 refl refl refl refl) (shut z.0)

  blocking_is : (t : Token) (us : Tokens) (q : Place) (vs : Tokens) (target : Target) (n : ℕ) (x : Stmt × ℕ × Tokens) → IsTarget (IsExpr d) n (t ∷ us) (sign q (codes "=") ∷ vs) target
      → blocking_from d t.place target n vs ≡ Some x → Good (t ∷ us) x
  unfolding blocking_from
  blocking_is t us q vs target n x to h =
      elim (found_is (after_system (codes "$fgetc") vs) (λ ws. getc_from d t.place target n ws) (value_from d t.place target n vs) x h) [
        | inl w ↦
            let r = after_system_is (codes "$fgetc") vs w.0 w.1 in
            let here : IsTarget (IsExpr d) n (t ∷ us) (sign q (codes "=") ∷ system r.0 (codes "$fgetc") ∷ w.0) target = subst (λ ws. IsTarget (IsExpr d) n (t ∷ us) (sign q (codes "=") ∷ ws) target) r.1 to in
            getc_is t us q r.0 w.0 target n x here w.2
        | inr w ↦ value_is t us q vs target n x to w.1
      ]

  -- after a delay that was read, or none
  late_is : (vs : Tokens) (l : Option Delay × ℕ × Tokens) → late_at d vs ≡ Some l → ((y : Delay) × (l.0 ≡ Some y) × IsDelay (IsExpr d) l.1 vs l.2 y) ⊎ ((l.0 ≡ None) × (l.1 ≡ 0) × (vs ≡ l.2))
  unfolding late_at
  late_is vs l e =
      elim (found_is (after (codes "#") vs) (λ us. delay_at (expr_at d) vs >>= λ y. Some (Some y.0, y.1, y.2)) (Some (None, 0, vs)) l e) [
        | inl u ↦
            let y = bind_some (delay_at (expr_at d) vs) (λ y. Some (Some y.0, y.1, y.2)) l u.2 in
            let same : (Some y.0.0, y.0.1, y.0.2) ≡ l = some_is (Some y.0.0, y.0.1, y.0.2) l y.2 in
            subst (λ (l : Option Delay × ℕ × Tokens). ((y : Delay) × (l.0 ≡ Some y) × IsDelay (IsExpr d) l.1 vs l.2 y) ⊎ ((l.0 ≡ None) × (l.1 ≡ 0) × (vs ≡ l.2))) same
            (inl (y.0.0, refl, (readings_are d).delay.sound vs y.0 y.1))
        | inr u ↦
            let same : (None, 0, vs) ≡ l = some_is (None, 0, vs) l u.1 in
            subst (λ (l : Option Delay × ℕ × Tokens). ((y : Delay) × (l.0 ≡ Some y) × IsDelay (IsExpr d) l.1 vs l.2 y) ⊎ ((l.0 ≡ None) × (l.1 ≡ 0) × (vs ≡ l.2))) same
            (inr (refl, refl, refl))
      ]

  post_is : (t : Token) (us : Tokens) (q r : Place) (vs rest : Tokens) (target : Target) (n k : ℕ) (l : Option Delay × ℕ × Tokens) (e : TreeExpr) (x : Stmt × ℕ × Tokens) → IsTarget (IsExpr d) n (t ∷ us) (sign q (codes "<=") ∷ vs) target
      → late_at d vs ≡ Some l → IsExpr d 1 k l.2 (sign r (codes ";") ∷ rest) e → made t.place (form.Post target l.0 e) (max n (max l.1 k)) rest ≡ Some x → Good (t ∷ us) x
  post_is t us q r vs rest target n k l e x to read is h =
      elim (late_is vs l read) [
        | inl y ↦
            let tree : stmt t.place (form.Post target l.0 e) ≡ stmt t.place (form.Post target (Some y.0) e) = ap (λ (o : Option Delay). stmt t.place (form.Post target o e)) y.1 in
            done _ _ _ _ (t ∷ us) x h false (postponed n l.1 k t q r us vs l.2 target y.0 e to y.2 is refl refl refl tree) (shut rest)
        | inr y ↦
            let tree : stmt t.place (form.Post target l.0 e) ≡ stmt t.place (form.Post target None e) = ap (λ (o : Option Delay). stmt t.place (form.Post target o e)) y.0 in
            let deep : max n (max l.1 k) + 1 ≡ max n k + 1 = ap (λ (j : ℕ). max n (max j k) + 1) y.1 ∙ omega arith in
            let here : IsExpr d 1 k vs (sign r (codes ";") ∷ rest) e = subst (λ ws. IsExpr d 1 k ws (sign r (codes ";") ∷ rest) e) (sym y.2) is in
            done _ _ _ _ (t ∷ us) x h false (nonblocking n k t q r us vs target e to here refl refl deep tree) (shut rest)
      ]

  nonblocking_is : (t : Token) (us vs : Tokens) (target : Target) (n : ℕ) (x : Stmt × ℕ × Tokens) → IsTarget (IsExpr d) n (t ∷ us) vs target → nonblocking_from d t.place target n vs ≡ Some x → Good (t ∷ us) x
  unfolding nonblocking_from
  nonblocking_is t us vs target n x to h =
      let w = bind_some (after (codes "<=") vs) (λ us. late_at d us >>= λ l. expr_at d 1 l.2 >>= λ e. after (codes ";") e.2 >>= λ rest. made t.place (form.Post target l.0 e.0) (max n (max l.1 e.1)) rest) x h in
      let l = bind_some (late_at d w.0) (λ l. expr_at d 1 l.2 >>= λ e. after (codes ";") e.2 >>= λ rest. made t.place (form.Post target l.0 e.0) (max n (max l.1 e.1)) rest) x w.2 in
      let e = bind_some (expr_at d 1 l.0.2) (λ e. after (codes ";") e.2 >>= λ rest. made t.place (form.Post target l.0.0 e.0) (max n (max l.0.1 e.1)) rest) x l.2 in
      let z = bind_some (after (codes ";") e.0.2) (λ rest. made t.place (form.Post target l.0.0 e.0.0) (max n (max l.0.1 e.0.1)) rest) x e.2 in
      let q = after_is (codes "<=") vs w.0 w.1 in
      let here : IsTarget (IsExpr d) n (t ∷ us) (sign q.0 (codes "<=") ∷ w.0) target = subst (λ ws. IsTarget (IsExpr d) n (t ∷ us) ws target) q.1 to in
      let s = expr_before d l.0.2 e.0 (codes ";") z.0 e.1 z.1 in
      post_is t us q.0 s.0 w.0 z.0 target n e.0.1 l.0 e.0.0 x here l.1 s.1 z.2

  assignment_is : (t : Token) (us : Tokens) (x : Stmt × ℕ × Tokens) → assignment_at d t.place (t ∷ us) ≡ Some x → Good (t ∷ us) x
  unfolding assignment_at
  assignment_is t us x h =
      let a = bind_some (target_at (expr_at d) (t ∷ us)) (λ a. found_or (after (codes "=") a.2) (λ vs. blocking_from d t.place a.0 a.1 vs) (nonblocking_from d t.place a.0 a.1 a.2)) x h in
      let to = (readings_are d).target.sound (t ∷ us) a.0 a.1 in
      elim (found_is (after (codes "=") a.0.2) (λ vs. blocking_from d t.place a.0.0 a.0.1 vs) (nonblocking_from d t.place a.0.0 a.0.1 a.0.2) x a.2) [
        | inl v ↦
            let q = after_is (codes "=") a.0.2 v.0 v.1 in
            blocking_is t us q.0 v.0 a.0.0 a.0.1 x (subst (λ ws. IsTarget (IsExpr d) a.0.1 (t ∷ us) ws a.0.0) q.1 to) v.2
        | inr v ↦ nonblocking_is t us a.0.2 a.0.0 a.0.1 x to v.1
      ]

  call_is : (t : Token) (us : Tokens) (x : Stmt × ℕ × Tokens) → call_at d t.place (t ∷ us) ≡ Some x → Good (t ∷ us) x
  unfolding call_at
  call_is t us x h =
      let a = bind_some (task_at (expr_at d) (t ∷ us)) (λ a. after (codes ";") a.2 >>= λ rest. made t.place (form.Task a.0) a.1 rest) x h in
      let z = bind_some (after (codes ";") a.0.2) (λ rest. made t.place (form.Task a.0.0) a.0.1 rest) x a.2 in
      let q = after_is (codes ";") a.0.2 z.0 z.1 in
      let is = (readings_are d).task.sound (t ∷ us) a.0 a.1 in
      done _ _ _ _ (t ∷ us) x z.2 false (task_call a.0.1 t q.0 us a.0.0 (rw (← q.1) is) refl refl refl refl) (shut z.0)

  -- ---- blocks

  -- statements up to `end`, after those that were read
  record ReadsMany (before : List Stmt) (n : ℕ) (ts : Tokens) (x : List Stmt × ℕ × Tokens) : Type 0 where
    l : List Stmt
    j : ℕ
    q : Place
    is : IsMany (IsEither d P) j ts (word q (codes "end") ∷ x.2) l
    items : x.0 ≡ before ++ l
    deep : x.1 ≡ max n j

  stmts_are : (f : ℕ) (before : List Stmt) (n : ℕ) (ts : Tokens) (x : List Stmt × ℕ × Tokens) → stmts_from d inner f before n ts ≡ Some x → ReadsMany before n ts x
  unfolding stmts_from
  stmts_are zero before n ts x h = absurd cc
  stmts_are (suc f) before n ts x h =
      elim (found_is (after_word (codes "end") ts) (λ rest. Some (before, n, rest)) (inner ts >>= λ x. stmts_from d inner f (before ++ x.0 ∷ []) (max n x.1) x.2) x h) [
        | inl r ↦
            let q = after_word_is (codes "end") ts r.0 r.1 in
            subst (λ (y : List Stmt × ℕ × Tokens). ReadsMany before n ts y) (some_is (before, n, r.0) x r.2)
            (record { l = []; j = 0; q = q.0; is = no_more refl q.1; items = sym (append-nil before); deep = omega arith })
        | inr r ↦
            let a = bind_some (inner ts) (λ x. stmts_from d inner f (before ++ x.0 ∷ []) (max n x.1) x.2) x r.1 in
            let s = sound ts a.0 a.1 in
            let others = stmts_are f (before ++ a.0.0 ∷ []) (max n a.0.1) a.0.2 x a.2 in
            record {
              l = a.0.0 ∷ others.l;
              j = max a.0.1 others.j;
              q = others.q;
              is = one_more a.0.1 others.j a.0.2 a.0.0 others.l (s.lone, s.is) others.is refl;
              items = others.items ∙ append_assoc before (a.0.0 ∷ []) others.l;
              deep = others.deep ∙ omega arith;
            }
      ]

  block_is : (p : Place) (ts : Tokens) (x : Stmt × ℕ × Tokens) → block_from d inner p ts ≡ Some x → Good (word p (codes "begin") ∷ ts) x
  unfolding block_from
  block_is p ts x h =
      let l = bind_some (label_at ts) (λ l. stmts_from d inner (length l.1) [] 0 l.1 >>= λ b. made p (form.Block l.0 b.0) b.1 b.2) x h in
      let b = bind_some (stmts_from d inner (length l.0.1) [] 0 l.0.1) (λ b. made p (form.Block l.0.0 b.0) b.1 b.2) x l.2 in
      let many = stmts_are (length l.0.1) [] 0 l.0.1 b.0 b.1 in
      let deep : b.0.1 + 1 ≡ many.j + 1 = ap (λ (n : ℕ). n + 1) many.deep ∙ omega arith in
      elim (label_is ts l.0 l.1) [
        | inl y ↦
            let tree : stmt p (form.Block l.0.0 b.0.0) ≡ stmt p (form.Block (Some (record { text = y.2; place = y.1 })) many.l) = ap (λ (o : Option Name). stmt p (form.Block o b.0.0)) y.4 ∙ ap (λ (s : List Stmt). stmt p (form.Block (Some (record { text = y.2; place = y.1 })) s)) many.items in
            done _ _ _ _ (word p (codes "begin") ∷ ts) x b.2 false (named_block many.j p y.0 y.1 many.q y.2 l.0.1 many.l many.is (ap (λ (us : Tokens). word p (codes "begin") ∷ us) y.3) refl deep tree) (shut b.0.2)
        | inr y ↦
            let tree : stmt p (form.Block l.0.0 b.0.0) ≡ stmt p (form.Block None many.l) = ap (λ (o : Option Name). stmt p (form.Block o b.0.0)) y.0 ∙ ap (λ (s : List Stmt). stmt p (form.Block None s)) many.items in
            done _ _ _ _ (word p (codes "begin") ∷ ts) x b.2 false (block many.j p many.q l.0.1 many.l many.is (ap (λ (us : Tokens). word p (codes "begin") ∷ us) y.1) refl deep tree) (shut b.0.2)
      ]

  -- ---- `if`

  -- the first statement of an `if` with an `else` after it
  not_lone : (o : Bool) (ts rest : Tokens) → EndsStmt o ts → after_word (codes "else") ts ≡ Some rest → o ≡ false
  not_lone true ts rest ends e = let none : after_word (codes "else") ts ≡ None = ends refl in absurd cc
  not_lone false ts rest ends e = refl

  if_is : (p : Place) (ts : Tokens) (x : Stmt × ℕ × Tokens) → if_from d inner p ts ≡ Some x → Good (word p (codes "if") ∷ ts) x
  unfolding if_from else_from
  if_is p ts x h =
      let c = bind_some (argument_at (expr_at d) ts) (λ c. inner c.2 >>= λ x. else_from d inner p c.0 x.0 (max c.1 x.1) x.2) x h in
      let a = bind_some (inner c.0.2) (λ x. else_from d inner p c.0.0 x.0 (max c.0.1 x.1) x.2) x c.2 in
      let test = cond_is d ts c.0 c.1 in
      let first = sound c.0.2 a.0 a.1 in
      elim (found_is (after_word (codes "else") a.0.2) (λ us. inner us >>= λ x. made p (form.If c.0.0 a.0.0 (Some x.0)) (max (max c.0.1 a.0.1) x.1) x.2) (made p (form.If c.0.0 a.0.0 None) (max c.0.1 a.0.1) a.0.2) x a.2) [
        | inl u ↦
            let b = bind_some (inner u.0) (λ x. made p (form.If c.0.0 a.0.0 (Some x.0)) (max (max c.0.1 a.0.1) x.1) x.2) x u.2 in
            let second = sound u.0 b.0 b.1 in
            let q = after_word_is (codes "else") a.0.2 u.0 u.1 in
            let closed : P false a.0.1 c.0.2 a.0.2 a.0.0 = subst (λ (o : Bool). P o a.0.1 c.0.2 a.0.2 a.0.0) (not_lone first.lone a.0.2 u.0 first.ends u.1) first.is in
            let here : P false a.0.1 c.0.2 (word q.0 (codes "else") ∷ u.0) a.0.0 = subst (λ (us : Tokens). P false a.0.1 c.0.2 us a.0.0) q.1 closed in
            done _ _ _ _ (word p (codes "if") ∷ ts) x b.2 second.lone (if_else c.0.1 a.0.1 b.0.1 p q.0 ts c.0.2 u.0 c.0.0 a.0.0 b.0.0 test here second.is refl (omega arith) refl) second.ends
        | inr u ↦
            done _ _ _ _ (word p (codes "if") ∷ ts) x u.1 true (lone_if first.lone c.0.1 a.0.1 p ts c.0.2 c.0.0 a.0.0 test first.is refl refl refl refl) (λ e. u.0)
      ]

  -- ---- statements before a statement

  -- a word before an expression in parentheses, and what it makes of the two
  guard_with : (p : Place) (text : List ℕ) (g : Guard) (ts : Tokens) (x : Stmt × ℕ × Tokens)
      → ((o : Bool) (m k : ℕ) (vs rest : Tokens) (c : TreeExpr) (s : Stmt) → IsCond d m ts vs c → P o k vs rest s → IsStmtOver d P o (max m k + 1) (word p text ∷ ts) rest (stmt p (guarded g c s)))
      → guarded_from d inner p g ts ≡ Some x → Good (word p text ∷ ts) x
  unfolding guarded_from
  guard_with p text g ts x rule h =
      let c = bind_some (argument_at (expr_at d) ts) (λ c. inner c.2 >>= λ x. made p (guarded g c.0 x.0) (max c.1 x.1) x.2) x h in
      let a = bind_some (inner c.0.2) (λ x. made p (guarded g c.0.0 x.0) (max c.0.1 x.1) x.2) x c.2 in
      let body = sound c.0.2 a.0 a.1 in
      done _ _ _ _ (word p text ∷ ts) x a.2 body.lone (rule body.lone c.0.1 a.0.1 c.0.2 a.0.2 c.0.0 a.0.0 (cond_is d ts c.0 c.1) body.is) body.ends

  guard_is : (p : Place) (text : List ℕ) (g : Guard) (ts : Tokens) (x : Stmt × ℕ × Tokens) → guard_of text ≡ Some g → guarded_from d inner p g ts ≡ Some x → Good (word p text ∷ ts) x
  unfolding guard_of
  guard_is p text g ts x which h =
      let R : List ℕ → Type 0 = λ t. Good (word p t ∷ ts) x in
      chosen text (codes "while") _ _ g R which (λ e.
      guard_with p (codes "while") guard.While ts x (λ o m k vs rest c s a b. while_loop m k p ts vs c s a b refl refl refl) (rw (some_is guard.While g e) h)) (λ e.
      chosen text (codes "repeat") _ _ g R e (λ e.
      guard_with p (codes "repeat") guard.Repeat ts x (λ o m k vs rest c s a b. repeat_loop m k p ts vs c s a b refl refl refl) (rw (some_is guard.Repeat g e) h)) (λ e.
      chosen text (codes "wait") _ _ g R e (λ e.
      guard_with p (codes "wait") guard.Wait ts x (λ o m k vs rest c s a b. waiting m k p ts vs c s a b refl refl refl) (rw (some_is guard.Wait g e) h)) (λ e. absurd cc)))

  forever_is : (p : Place) (ts : Tokens) (x : Stmt × ℕ × Tokens) → forever_from d inner p ts ≡ Some x → Good (word p (codes "forever") ∷ ts) x
  unfolding forever_from
  forever_is p ts x h =
      let a = bind_some (inner ts) (λ x. made p (form.Forever x.0) x.1 x.2) x h in
      let body = sound ts a.0 a.1 in
      done _ _ _ _ (word p (codes "forever") ∷ ts) x a.2 body.lone (forever_loop a.0.1 p ts a.0.0 body.is refl refl refl) body.ends

  for_is : (p : Place) (ts : Tokens) (x : Stmt × ℕ × Tokens) → for_from d inner p ts ≡ Some x → Good (word p (codes "for") ∷ ts) x
  unfolding for_from
  for_is p ts x h =
      let y = bind_some (for_head_at d ts) (λ h. inner h.2 >>= λ x. made p (for_form h.0 x.0) (max h.1 x.1) x.2) x h in
      let a = bind_some (inner y.0.2) (λ x. made p (for_form y.0.0 x.0) (max y.0.1 x.1) x.2) x y.2 in
      let head = for_head_is d ts y.0 y.1 in
      let body = sound y.0.2 a.0 a.1 in
      done _ _ _ _ (word p (codes "for") ∷ ts) x a.2 body.lone
      (for_loop head.m head.j head.l a.0.1 p head.q head.r head.s head.u head.us head.vs head.ws y.0.2 y.0.0.start y.0.0.step y.0.0.cond a.0.0 head.start head.test head.step body.is (ap (λ (us : Tokens). word p (codes "for") ∷ us) head.spelled) (ap (λ (n : ℕ). max n a.0.1 + 1) head.deep) refl)
      body.ends

  delayed_is : (t : Token) (us : Tokens) (x : Stmt × ℕ × Tokens) → delayed_at d inner t.place (t ∷ us) ≡ Some x → Good (t ∷ us) x
  unfolding delayed_at
  delayed_is t us x h =
      let y = bind_some (delay_at (expr_at d) (t ∷ us)) (λ y. inner y.2 >>= λ x. made t.place (form.Delayed y.0 x.0) (max y.1 x.1) x.2) x h in
      let a = bind_some (inner y.0.2) (λ x. made t.place (form.Delayed y.0.0 x.0) (max y.0.1 x.1) x.2) x y.2 in
      let body = sound y.0.2 a.0 a.1 in
      done _ _ _ _ (t ∷ us) x a.2 body.lone (delayed y.0.1 a.0.1 t us y.0.2 y.0.0 a.0.0 ((readings_are d).delay.sound (t ∷ us) y.0 y.1) body.is refl refl refl) body.ends

  on_is : (p : Place) (ts : Tokens) (x : Stmt × ℕ × Tokens) → on_from d inner p ts ≡ Some x → Good (sign p (codes "@") ∷ ts) x
  unfolding on_from
  on_is p ts x h =
      let y = bind_some (events_at (expr_at d) ts) (λ y. inner y.2 >>= λ x. made p (form.On y.0 x.0) (max y.1 x.1) x.2) x h in
      let a = bind_some (inner y.0.2) (λ x. made p (form.On y.0.0 x.0) (max y.0.1 x.1) x.2) x y.2 in
      let body = sound y.0.2 a.0 a.1 in
      done _ _ _ _ (sign p (codes "@") ∷ ts) x a.2 body.lone (on_events y.0.1 a.0.1 p ts y.0.2 y.0.0 a.0.0 ((readings_are d).events_after.sound ts y.0 y.1) body.is refl refl refl) body.ends

  -- ---- `case`

  -- an item that was read, and the defaults seen up to it
  record ReadsItem (seen : Bool) (ts : Tokens) (x : Citem × Bool × ℕ × Tokens) : Type 0 where
    c : ℕ
    is : IsCitem d P c x.2 ts x.3 x.0
    counted : count x.1 ≡ count seen + c

  default_is : (t : Token) (ts : Tokens) (x : Citem × Bool × ℕ × Tokens) → is_word (codes "default") t.kind ≡ true → default_from d inner t.place ts ≡ Some x → ReadsItem false (t ∷ ts) x
  unfolding default_from
  default_is t ts x same h =
      let front : t ∷ ts ≡ word t.place (codes "default") ∷ ts = ap (λ (u : Token). u ∷ ts) (word_token (codes "default") t same) in
      elim (found_is (after (codes ":") ts) (λ us. inner us >>= λ x. Some (citem t.place (choice.Default true x.0), true, x.1, x.2)) (inner ts >>= λ x. Some (citem t.place (choice.Default false x.0), true, x.1, x.2)) x h) [
        | inl u ↦
            let a = bind_some (inner u.0) (λ x. Some (citem t.place (choice.Default true x.0), true, x.1, x.2)) x u.2 in
            let body = sound u.0 a.0 a.1 in
            let q = after_is (codes ":") ts u.0 u.1 in
            let spelled : t ∷ ts ≡ word t.place (codes "default") ∷ sign q.0 (codes ":") ∷ u.0 = front ∙ ap (λ (us : Tokens). word t.place (codes "default") ∷ us) q.1 in
            subst (λ (y : Citem × Bool × ℕ × Tokens). ReadsItem false (t ∷ ts) y) (some_is _ x a.2)
            (record { c = 1; is = default body.lone t.place q.0 u.0 a.0.0 body.is spelled refl refl; counted = omega (arith, count_true, count_false) })
        | inr u ↦
            let a = bind_some (inner ts) (λ x. Some (citem t.place (choice.Default false x.0), true, x.1, x.2)) x u.1 in
            let body = sound ts a.0 a.1 in
            subst (λ (y : Citem × Bool × ℕ × Tokens). ReadsItem false (t ∷ ts) y) (some_is _ x a.2)
            (record { c = 1; is = bare_default body.lone t.place ts a.0.0 body.is front refl refl; counted = omega (arith, count_true, count_false) })
      ]

  labelled_is : (seen : Bool) (t : Token) (us : Tokens) (x : Citem × Bool × ℕ × Tokens) → labelled_at d inner t.place seen (t ∷ us) ≡ Some x → ReadsItem seen (t ∷ us) x
  unfolding labelled_at
  labelled_is seen t us x h =
      let l = bind_some (exprs_at (expr_at d) (t ∷ us)) (λ l. after (codes ":") l.2 >>= λ vs. inner vs >>= λ x. Some (citem t.place (choice.Labels l.0 x.0), seen, max l.1 x.1, x.2)) x h in
      let v = bind_some (after (codes ":") l.0.2) (λ vs. inner vs >>= λ x. Some (citem t.place (choice.Labels l.0.0 x.0), seen, max l.0.1 x.1, x.2)) x l.2 in
      let a = bind_some (inner v.0) (λ x. Some (citem t.place (choice.Labels l.0.0 x.0), seen, max l.0.1 x.1, x.2)) x v.2 in
      let body = sound v.0 a.0 a.1 in
      let q = after_is (codes ":") l.0.2 v.0 v.1 in
      let labels : IsExprs (IsExpr d) l.0.1 (t ∷ us) (sign q.0 (codes ":") ∷ v.0) l.0.0 = subst (λ ws. IsExprs (IsExpr d) l.0.1 (t ∷ us) ws l.0.0) q.1 (exprs_read d (t ∷ us) l.0 l.1) in
      subst (λ (y : Citem × Bool × ℕ × Tokens). ReadsItem seen (t ∷ us) y) (some_is _ x a.2)
      (record { c = 0; is = labelled body.lone l.0.1 a.0.1 t q.0 us v.0 l.0.0 a.0.0 labels body.is refl refl refl refl; counted = omega arith })

  -- the default where none was seen
  first_default : (seen : Bool) (t : Token) (ts : Tokens) (x : Citem × Bool × ℕ × Tokens) → is_word (codes "default") t.kind ≡ true → cond seen None (default_from d inner t.place ts) ≡ Some x → ReadsItem seen (t ∷ ts) x
  first_default true t ts x same h = absurd cc
  first_default false t ts x same h = default_is t ts x same h

  citem_is : (seen : Bool) (ts : Tokens) (x : Citem × Bool × ℕ × Tokens) → citem_at d inner seen ts ≡ Some x → ReadsItem seen ts x
  unfolding citem_at
  citem_is seen [] x h = absurd cc
  citem_is seen (t ∷ ts) x h =
      elim (cases_Bool (is_word (codes "default") t.kind)) [
        | inl same ↦ first_default seen t ts x same (rw same at h)
        | inr other ↦ labelled_is seen t ts x (rw other at h)
      ]

  at_most_one : (b : Bool) → count b ≤ 1
  at_most_one true = omega (arith, count_true)
  at_most_one false = omega (arith, count_false)

  record ReadsItems (seen : Bool) (before : List Citem) (n : ℕ) (ts : Tokens) (x : List Citem × ℕ × Tokens) : Type 0 where
    l : List Citem
    j : ℕ
    c : ℕ
    q : Place
    is : IsCitems d P c j ts (word q (codes "endcase") ∷ x.2) l
    items : x.0 ≡ before ++ l
    deep : x.1 ≡ max n j
    single : count seen + c ≤ 1

  citems_are : (f : ℕ) (seen : Bool) (before : List Citem) (n : ℕ) (ts : Tokens) (x : List Citem × ℕ × Tokens) → citems_from d inner f seen before n ts ≡ Some x → ReadsItems seen before n ts x
  unfolding citems_from
  citems_are zero seen before n ts x h = absurd cc
  citems_are (suc f) seen before n ts x h =
      elim (found_is (after_word (codes "endcase") ts) (λ rest. Some (before, n, rest)) (citem_at d inner seen ts >>= λ x. citems_from d inner f x.1 (before ++ x.0 ∷ []) (max n x.2) x.3) x h) [
        | inl r ↦
            let q = after_word_is (codes "endcase") ts r.0 r.1 in
            subst (λ (y : List Citem × ℕ × Tokens). ReadsItems seen before n ts y) (some_is (before, n, r.0) x r.2)
            (record { l = []; j = 0; c = 0; q = q.0; is = no_item refl refl q.1; items = sym (append-nil before); deep = omega arith; single = omega (arith, at_most_one seen) })
        | inr r ↦
            let a = bind_some (citem_at d inner seen ts) (λ x. citems_from d inner f x.1 (before ++ x.0 ∷ []) (max n x.2) x.3) x r.1 in
            let i = citem_is seen ts a.0 a.1 in
            let others = citems_are f a.0.1 (before ++ a.0.0 ∷ []) (max n a.0.2) a.0.3 x a.2 in
            record {
              l = a.0.0 ∷ others.l;
              j = max a.0.2 others.j;
              c = i.c + others.c;
              q = others.q;
              is = next_item i.c others.c a.0.2 others.j a.0.3 a.0.0 others.l i.is others.is refl refl;
              items = others.items ∙ append_assoc before (a.0.0 ∷ []) others.l;
              deep = others.deep ∙ omega arith;
              single = omega (arith, i.counted, others.single);
            }
      ]

  case_is : (p : Place) (text : List ℕ) (w : CaseWord) (ts : Tokens) (x : Stmt × ℕ × Tokens) → case_of text ≡ Some w → case_from d inner p w ts ≡ Some x → Good (word p text ∷ ts) x
  unfolding case_from citems_at
  case_is p text w ts x which h =
      let e = bind_some (argument_at (expr_at d) ts) (λ e. citems_at d inner e.2 >>= λ l. made p (form.Case w e.0 l.0) (max e.1 l.1) l.2) x h in
      let l = bind_some (citems_at d inner e.0.2) (λ l. made p (form.Case w e.0.0 l.0) (max e.0.1 l.1) l.2) x e.2 in
      let a = bind_some (citem_at d inner false e.0.2) (λ x. citems_from d inner (length x.3) x.1 (x.0 ∷ []) x.2 x.3) l.0 l.1 in
      let i = citem_is false e.0.2 a.0 a.1 in
      let others = citems_are (length a.0.3) a.0.1 (a.0.0 ∷ []) a.0.2 a.0.3 l.0 a.2 in
      let tree : stmt p (form.Case w e.0.0 l.0.0) ≡ stmt p (form.Case w e.0.0 (a.0.0 ∷ others.l)) = ap (λ (is : List Citem). stmt p (form.Case w e.0.0 is)) others.items in
      let deep : max e.0.1 l.0.1 + 1 ≡ max e.0.1 (max a.0.2 others.j) + 1 = ap (λ (n : ℕ). max e.0.1 n + 1) others.deep in
      done _ _ _ _ (word p text ∷ ts) x l.2 false
      (choices i.c others.c e.0.1 a.0.2 others.j p others.q text w ts e.0.2 a.0.3 e.0.0 a.0.0 others.l (cond_is d ts e.0 e.1) i.is others.is which (omega (arith, i.counted, others.single)) refl refl deep tree)
      (shut l.0.2)

  -- ---- a statement by its first token

  choice_is : (p : Place) (text : List ℕ) (ts : Tokens) (x : Stmt × ℕ × Tokens) → choice_by d inner p text ts ≡ Some x → Good (word p text ∷ ts) x
  unfolding choice_by
  choice_is p text ts x h =
      elim (found_is (guard_of text) (λ g. guarded_from d inner p g ts) (case_of text >>= λ w. case_from d inner p w ts) x h) [
        | inl g ↦ guard_is p text g.0 ts x g.1 g.2
        | inr g ↦
            let w = bind_some (case_of text) (λ w. case_from d inner p w ts) x g.1 in
            case_is p text w.0 ts x w.1 w.2
      ]

  word_is : (p : Place) (text : List ℕ) (ts : Tokens) (x : Stmt × ℕ × Tokens) → stmt_by_word d inner p text ts ≡ Some x → Good (word p text ∷ ts) x
  unfolding stmt_by_word
  word_is p text ts x h =
      let R : List ℕ → Type 0 = λ t. Good (word p t ∷ ts) x in
      chosen text (codes "begin") _ _ x R h (λ a. block_is p ts x a) (λ e.
      chosen text (codes "if") _ _ x R e (λ a. if_is p ts x a) (λ e.
      chosen text (codes "forever") _ _ x R e (λ a. forever_is p ts x a) (λ e.
      chosen text (codes "for") _ _ x R e (λ a. for_is p ts x a) (λ e. choice_is p text ts x e))))

  sign_is : (p : Place) (text : List ℕ) (ts : Tokens) (x : Stmt × ℕ × Tokens) → stmt_by_sign d inner p text (sign p text ∷ ts) ts ≡ Some x → Good (sign p text ∷ ts) x
  unfolding stmt_by_sign
  sign_is p text ts x h =
      let R : List ℕ → Type 0 = λ t. Good (sign p t ∷ ts) x in
      let S : List ℕ → Type 0 = λ t. Good (sign p text ∷ ts) x in
      chosen text (codes ";") _ _ x R h (λ a. done p form.Empty 0 ts (sign p (codes ";") ∷ ts) x a false (empty p refl refl refl refl) (shut ts)) (λ e.
      chosen text (codes "{") _ _ x S e (λ a. assignment_is (sign p text) ts x a) (λ e.
      chosen text (codes "#") _ _ x S e (λ a. delayed_is (sign p text) ts x a) (λ e.
      chosen text (codes "@") _ _ x R e (λ a. on_is p ts x a) (λ e. absurd cc))))

  by_kind : (k : TokenKind) (p : Place) (ts : Tokens) (x : Stmt × ℕ × Tokens) → stmt_by d inner k p (record { kind = k; place = p } ∷ ts) ts ≡ Some x → Good (record { kind = k; place = p } ∷ ts) x
  by_kind (token.Word text) p ts x h = word_is p text ts x h
  by_kind (token.Sign text) p ts x h = sign_is p text ts x h
  by_kind (token.Name text) p ts x h = assignment_is (name p text) ts x h
  by_kind (token.System text) p ts x h = call_is (system p text) ts x h
  by_kind (token.Number value) p ts x h = absurd cc
  by_kind (token.Quoted text) p ts x h = absurd cc

  over_is : (ts : Tokens) (x : Stmt × ℕ × Tokens) → stmt_over d inner ts ≡ Some x → Good ts x
  unfolding stmt_over
  over_is [] x h = absurd cc
  over_is (t ∷ ts) x h = by_kind t.kind t.place ts x h

pub stmt_is : (d : ℕ) (ts : Tokens) (x : Stmt × ℕ × Tokens) → stmt_at d ts ≡ Some x → Reads (IsStmt d) ts x
unfolding stmt_at IsStmt
stmt_is zero ts x e = absurd cc
stmt_is (suc d) ts x e =
    let good = over_is (IsStmt d) (stmt_at d) d (stmt_is d) ts x e in
    record { lone = good.lone; is = good.is; ends = good.ends }
