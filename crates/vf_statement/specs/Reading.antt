-- What the reader does, as functions on lists of tokens. The grammar does not rest on them: the proofs show that they read
-- exactly what it says.
use Rattle.std.specs.Prelude.{◌≡◌, ℕ, zero, suc, ◌+◌, max, Bool, true, false, List, [], ◌∷◌, ◌++◌, length, Option, Some, None, codes, if◌then◌else◌}
use Rattle.std.specs.Str.{bytes_eq}
use Rattle.vf_base.specs.declared.names.Place.{Place}
use Rattle.vf_lexeme.specs.declared.kinds.TokenKind.{TokenKind}
use Rattle.vf_lexeme.specs.declared.kinds.TokenKind.TheVariants as token
use Rattle.vf_tree.specs.declared.words.Name.{Name}
use Rattle.vf_tree.specs.declared.expressions.TreeExpr.{TreeExpr}
use Rattle.vf_tree.specs.declared.statements.Target.{Target}
use Rattle.vf_tree.specs.declared.statements.Delay.{Delay}
use Rattle.vf_tree.specs.declared.statements.CaseWord.{CaseWord}
use Rattle.vf_tree.specs.declared.statements.Stmt.{Stmt}
use Rattle.vf_tree.specs.declared.statements.StmtForm.{StmtForm}
use Rattle.vf_tree.specs.declared.statements.StmtForm.TheVariants as form
use Rattle.vf_tree.specs.declared.statements.Citem.{Citem}
use Rattle.vf_tree.specs.declared.statements.CitemForm.TheVariants as choice
use Rattle.vf_tree.specs.declared.modules.AssignPart.{AssignPart}
use Rattle.vf_expression.specs.Grammar.{Tokens}
use Rattle.vf_expression.specs.Reading.{Read, ◌>>=◌, found_or, after, argument_at, exprs_at, expr_at}
use Rattle.vf_control.specs.Reading.{target_at, delay_at, events_at, task_at}
use Rattle.vf_statement.specs.declared.words.Guard.{Guard}
use Rattle.vf_statement.specs.declared.simple.ForHead.{ForHead}
use Rattle.vf_statement.specs.Words.{case_of, guard_of, guarded}
use Rattle.vf_statement.specs.Grammar.{stmt, citem, IsStmt}

-- ---- tokens

abbrev pub is_word : List ℕ → TokenKind → Bool
is_word text (token.Word own) = bytes_eq own text
is_word text (token.Name own) = false
is_word text (token.System own) = false
is_word text (token.Sign own) = false
is_word text (token.Number value) = false
is_word text (token.Quoted own) = false

-- the tokens after the reserved word that is wanted
unfoldable pub after_word : List ℕ → Tokens → Option Tokens
after_word text [] = None
after_word text (t ∷ rest) = if is_word text t.kind then Some rest else None

abbrev pub is_system : List ℕ → TokenKind → Bool
is_system text (token.System own) = bytes_eq own text
is_system text (token.Name own) = false
is_system text (token.Word own) = false
is_system text (token.Sign own) = false
is_system text (token.Number value) = false
is_system text (token.Quoted own) = false

-- the tokens after the system name that is wanted
unfoldable pub after_system : List ℕ → Tokens → Option Tokens
after_system text [] = None
after_system text (t ∷ rest) = if is_system text t.kind then Some rest else None

-- the name at the front, and the tokens after it
abbrev pub name_by : TokenKind → Place → Tokens → Option (Name × Tokens)
name_by (token.Name text) p rest = Some (record { text = text; place = p }, rest)
name_by (token.System text) p rest = None
name_by (token.Word text) p rest = None
name_by (token.Sign text) p rest = None
name_by (token.Number value) p rest = None
name_by (token.Quoted text) p rest = None

unfoldable pub name_at : Tokens → Option (Name × Tokens)
name_at [] = None
name_at (t ∷ rest) = name_by t.kind t.place rest

-- the name of a block, where one follows its `begin`
unfoldable pub label_at : Tokens → Option (Option Name × Tokens)
label_at ts = found_or (after (codes ":") ts) (λ us. name_at us >>= λ x. Some (Some x.0, x.1)) (Some (None, ts))

-- ---- statements without a statement in them; d is the greatest depth of the expressions in them

abbrev pub made : Place → StmtForm → ℕ → Tokens → Read Stmt
made p f n rest = Some (stmt p f, n + 1, rest)

module _ (d : ℕ) where
  -- target "=" expr
  unfoldable pub assign_part_at : Tokens → Read AssignPart
  assign_part_at ts = do
    t ← target_at (expr_at d) ts
    us ← after (codes "=") t.2
    e ← expr_at d 1 us
    Some (record { target = t.0; value = e.0 }, max t.1 e.1, e.2)

  -- a blocking assignment after its `=` and `$fgetc`
  unfoldable pub getc_from : Place → Target → ℕ → Tokens → Read Stmt
  getc_from p target n ts = do
    e ← argument_at (expr_at d) ts
    rest ← after (codes ";") e.2
    made p (form.Getc target e.0) (max n e.1) rest

  -- a blocking assignment of an expression after its `=`
  unfoldable pub value_from : Place → Target → ℕ → Tokens → Read Stmt
  value_from p target n ts = do
    e ← expr_at d 1 ts
    rest ← after (codes ";") e.2
    made p (form.Assign target e.0) (max n e.1) rest

  unfoldable pub blocking_from : Place → Target → ℕ → Tokens → Read Stmt
  blocking_from p target n ts = found_or (after_system (codes "$fgetc") ts) (λ us. getc_from p target n us) (value_from p target n ts)

  -- the delay in front, where there is one
  unfoldable pub late_at : Tokens → Read (Option Delay)
  late_at ts = found_or (after (codes "#") ts) (λ us. delay_at (expr_at d) ts >>= λ x. Some (Some x.0, x.1, x.2)) (Some (None, 0, ts))

  -- a nonblocking assignment after its target
  unfoldable pub nonblocking_from : Place → Target → ℕ → Tokens → Read Stmt
  nonblocking_from p target n ts = do
    us ← after (codes "<=") ts
    l ← late_at us
    e ← expr_at d 1 l.2
    rest ← after (codes ";") e.2
    made p (form.Post target l.0 e.0) (max n (max l.1 e.1)) rest

  unfoldable pub assignment_at : Place → Tokens → Read Stmt
  assignment_at p ts = do
    t ← target_at (expr_at d) ts
    found_or (after (codes "=") t.2) (λ us. blocking_from p t.0 t.1 us) (nonblocking_from p t.0 t.1 t.2)

  unfoldable pub call_at : Place → Tokens → Read Stmt
  call_at p ts = do
    t ← task_at (expr_at d) ts
    rest ← after (codes ";") t.2
    made p (form.Task t.0) t.1 rest

  -- what stands in the parentheses of a `for`, with them
  unfoldable pub for_head_at : Tokens → Read ForHead
  for_head_at ts = do
    us ← after (codes "(") ts
    a ← assign_part_at us
    vs ← after (codes ";") a.2
    c ← expr_at d 1 vs
    ws ← after (codes ";") c.2
    b ← assign_part_at ws
    rest ← after (codes ")") b.2
    Some (record { start = a.0; cond = c.0; step = b.0 }, max a.1 (max c.1 b.1), rest)

abbrev pub for_form : ForHead → Stmt → StmtForm
for_form h body = form.For h.start.target h.start.value h.cond h.step.target h.step.value body

-- ---- statements with statements in them; inner reads a statement

module _ (d : ℕ) (inner : Tokens → Read Stmt) where
  -- the statements up to `end`, after those that were read, in f steps at most
  unfoldable pub stmts_from : ℕ → List Stmt → ℕ → Tokens → Read (List Stmt)
  stmts_from zero items n ts = None
  stmts_from (suc f) items n ts = found_or (after_word (codes "end") ts) (λ rest. Some (items, n, rest)) (inner ts >>= λ x. stmts_from f (items ++ x.0 ∷ []) (max n x.1) x.2)

  unfoldable pub block_from : Place → Tokens → Read Stmt
  block_from p ts = do
    l ← label_at ts
    b ← stmts_from (length l.1) [] 0 l.1
    made p (form.Block l.0 b.0) b.1 b.2

  -- an `if` after its first statement
  unfoldable pub else_from : Place → TreeExpr → Stmt → ℕ → Tokens → Read Stmt
  else_from p cond first n ts = found_or (after_word (codes "else") ts) (λ us. inner us >>= λ x. made p (form.If cond first (Some x.0)) (max n x.1) x.2) (made p (form.If cond first None) n ts)

  unfoldable pub if_from : Place → Tokens → Read Stmt
  if_from p ts = do
    c ← argument_at (expr_at d) ts
    x ← inner c.2
    else_from p c.0 x.0 (max c.1 x.1) x.2

  unfoldable pub guarded_from : Place → Guard → Tokens → Read Stmt
  guarded_from p g ts = do
    c ← argument_at (expr_at d) ts
    x ← inner c.2
    made p (guarded g c.0 x.0) (max c.1 x.1) x.2

  unfoldable pub forever_from : Place → Tokens → Read Stmt
  forever_from p ts = do
    x ← inner ts
    made p (form.Forever x.0) x.1 x.2

  unfoldable pub for_from : Place → Tokens → Read Stmt
  for_from p ts = do
    h ← for_head_at d ts
    x ← inner h.2
    made p (for_form h.0 x.0) (max h.1 x.1) x.2

  unfoldable pub delayed_at : Place → Tokens → Read Stmt
  delayed_at p ts = do
    t ← delay_at (expr_at d) ts
    x ← inner t.2
    made p (form.Delayed t.0 x.0) (max t.1 x.1) x.2

  unfoldable pub on_from : Place → Tokens → Read Stmt
  on_from p ts = do
    e ← events_at (expr_at d) ts
    x ← inner e.2
    made p (form.On e.0 x.0) (max e.1 x.1) x.2

  -- ---- items of a `case`: with each, whether a default was seen so far

  unfoldable pub default_from : Place → Tokens → Option (Citem × Bool × ℕ × Tokens)
  default_from p ts = found_or (after (codes ":") ts) (λ us. inner us >>= λ x. Some (citem p (choice.Default true x.0), true, x.1, x.2))
      (inner ts >>= λ x. Some (citem p (choice.Default false x.0), true, x.1, x.2))

  unfoldable pub labelled_at : Place → Bool → Tokens → Option (Citem × Bool × ℕ × Tokens)
  labelled_at p seen ts = do
    l ← exprs_at (expr_at d) ts
    us ← after (codes ":") l.2
    x ← inner us
    Some (citem p (choice.Labels l.0 x.0), seen, max l.1 x.1, x.2)

  unfoldable pub citem_at : Bool → Tokens → Option (Citem × Bool × ℕ × Tokens)
  citem_at seen [] = None
  citem_at seen (t ∷ rest) = if is_word (codes "default") t.kind then (if seen then None else default_from t.place rest) else labelled_at t.place seen (t ∷ rest)

  -- the items up to `endcase`, after those that were read, in f steps at most
  unfoldable pub citems_from : ℕ → Bool → List Citem → ℕ → Tokens → Read (List Citem)
  citems_from zero seen items n ts = None
  citems_from (suc f) seen items n ts = found_or (after_word (codes "endcase") ts) (λ rest. Some (items, n, rest)) (citem_at seen ts >>= λ x. citems_from f x.1 (items ++ x.0 ∷ []) (max n x.2) x.3)

  unfoldable pub citems_at : Tokens → Read (List Citem)
  citems_at ts = do
    x ← citem_at false ts
    citems_from (length x.3) x.1 (x.0 ∷ []) x.2 x.3

  unfoldable pub case_from : Place → CaseWord → Tokens → Read Stmt
  case_from p w ts = do
    e ← argument_at (expr_at d) ts
    l ← citems_at e.2
    made p (form.Case w e.0 l.0) (max e.1 l.1) l.2

  -- ---- a statement by its first token

  unfoldable pub choice_by : Place → List ℕ → Tokens → Read Stmt
  choice_by p text rest = found_or (guard_of text) (λ g. guarded_from p g rest) (case_of text >>= λ w. case_from p w rest)

  unfoldable pub stmt_by_word : Place → List ℕ → Tokens → Read Stmt
  stmt_by_word p text rest = if bytes_eq text (codes "begin") then block_from p rest else if bytes_eq text (codes "if") then if_from p rest
      else if bytes_eq text (codes "forever") then forever_from p rest else if bytes_eq text (codes "for") then for_from p rest else choice_by p text rest

  unfoldable pub stmt_by_sign : Place → List ℕ → Tokens → Tokens → Read Stmt
  stmt_by_sign p text ts rest = if bytes_eq text (codes ";") then made p form.Empty 0 rest else if bytes_eq text (codes "{") then assignment_at d p ts
      else if bytes_eq text (codes "#") then delayed_at p ts else if bytes_eq text (codes "@") then on_from p rest else None

  -- by the first token, of which also the tokens after it are given
  abbrev pub stmt_by : TokenKind → Place → Tokens → Tokens → Read Stmt
  stmt_by (token.Word text) p ts rest = stmt_by_word p text rest
  stmt_by (token.Sign text) p ts rest = stmt_by_sign p text ts rest
  stmt_by (token.Name text) p ts rest = assignment_at d p ts
  stmt_by (token.System text) p ts rest = call_at d p ts
  stmt_by (token.Number value) p ts rest = None
  stmt_by (token.Quoted text) p ts rest = None

  unfoldable pub stmt_over : Tokens → Read Stmt
  stmt_over [] = None
  stmt_over (t ∷ rest) = stmt_by t.kind t.place (t ∷ rest) rest

unfoldable pub stmt_at : ℕ → Tokens → Read Stmt
stmt_at zero ts = None
stmt_at (suc d) ts = stmt_over d (stmt_at d) ts

-- the statement that all of the tokens are
abbrev pub ended : Tokens → Option (Unit {0})
ended [] = Some tt
ended (t ∷ rest) = None

unfoldable pub whole_of : Tokens → Option Stmt
whole_of ts = do
  x ← stmt_at 200 ts
  end ← ended x.2
  Some x.0

-- What may follow a statement: no `else`, where it ends in an `if` without one.
abbrev pub EndsStmt : Bool → Tokens → Type 0
EndsStmt o rest = o ≡ true → after_word (codes "else") rest ≡ None

-- What is read is a statement that no `else` follows which would belong to it, and each such statement is read.
abbrev pub ReadingsAreStatements : Type 0
ReadingsAreStatements = (d : ℕ) →
    ((ts : Tokens) (x : Stmt × ℕ × Tokens) → stmt_at d ts ≡ Some x → (o : Bool) × IsStmt d o x.1 ts x.2 x.0 × EndsStmt o x.2)
    × ((o : Bool) (n : ℕ) (ts rest : Tokens) (tree : Stmt) → IsStmt d o n ts rest tree → EndsStmt o rest → stmt_at d ts ≡ Some (tree, n, rest))
