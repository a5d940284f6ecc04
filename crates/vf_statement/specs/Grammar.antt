-- Statements over tokens (docs/LANGUAGE.md, "Grammar"; IEEE Std 1364-2005, clause 9, Annex A.6): which tree stands at the front of
-- a list of tokens, where the rest follows it. One case for each alternative of the grammar; nothing looks at the rest. A
-- statement has the place of its first token.
--
-- The number n is the depth of a statement: 1 without a statement or an expression in it, else 1 more than the deepest directly in it.
-- The truth value o tells whether a statement ends in an `if` without `else`. An `else` that came after it would belong to that `if`, so
-- only a statement that ends in none can stand before an `else`.
use Rattle.std.specs.Prelude.{◌≡◌, ℕ, zero, suc, ◌+◌, ◌≤◌, max, Bool, true, false, List, [], ◌∷◌, Some, None, codes}
use Rattle.vf_base.specs.declared.names.Place.{Place}
use Rattle.vf_lex.specs.declared.token.Token.{Token}
use Rattle.vf_tree.specs.declared.expressions.TreeExpr.{TreeExpr}
use Rattle.vf_tree.specs.declared.statements.Target.{Target}
use Rattle.vf_tree.specs.declared.statements.Delay.{Delay}
use Rattle.vf_tree.specs.declared.statements.Events.{Events}
use Rattle.vf_tree.specs.declared.statements.Task.{Task}
use Rattle.vf_tree.specs.declared.statements.CaseWord.{CaseWord}
use Rattle.vf_tree.specs.declared.statements.Stmt.{Stmt, roll-Stmt}
use Rattle.vf_tree.specs.declared.statements.StmtForm.{StmtForm}
use Rattle.vf_tree.specs.declared.statements.StmtForm.TheVariants as form
use Rattle.vf_tree.specs.declared.statements.Citem.{Citem, roll-Citem}
use Rattle.vf_tree.specs.declared.statements.CitemForm.{CitemForm}
use Rattle.vf_tree.specs.declared.statements.CitemForm.TheVariants as choice
use Rattle.vf_tree.specs.declared.modules.AssignPart.{AssignPart}
use Rattle.vf_expression.specs.Grammar.{Tokens, sign, word, name, system, IsExprs, IsExpr}
use Rattle.vf_control.specs.Lists.{Part, IsMany}
use Rattle.vf_control.specs.Grammar.{IsTarget, IsDelay, IsEvents, IsTask}
use Rattle.vf_statement.specs.Words.{case_of}

-- ---- trees

abbrev pub stmt : Place → StmtForm → Stmt
stmt p f = roll-Stmt (record { place = p; form = f })

abbrev pub citem : Place → CitemForm → Citem
citem p f = roll-Citem (record { place = p; form = f })

-- ---- the rules, over the expressions in them, of depth d at most

module _ (d : ℕ) where
  -- "(" expr ")"
  pub data IsCond (n : ℕ) (ts rest : Tokens) (tree : TreeExpr) : Type 0 where
    enclosed : (p q : Place) (us : Tokens) → IsExpr d 1 n us (sign q (codes ")") ∷ rest) tree → ts ≡ sign p (codes "(") ∷ us → IsCond n ts rest tree

  -- target "=" expr
  pub data IsAssignPart (n : ℕ) (ts rest : Tokens) (tree : AssignPart) : Type 0 where
    assigned : (m k : ℕ) (q : Place) (us : Tokens) (t : Target) (e : TreeExpr) → IsTarget (IsExpr d) m ts (sign q (codes "=") ∷ us) t → IsExpr d 1 k us rest e → n ≡ max m k
        → tree ≡ record { target = t; value = e } → IsAssignPart n ts rest tree

-- which tree stands before the rest, and whether it ends in an `if` without `else`
abbrev pub Rule : Type 1
Rule = Bool → ℕ → Tokens → Tokens → Stmt → Type 0

-- and over the statements in them
module _ (d : ℕ) (Inner : Rule) where
  -- a statement in a list, where no `else` can follow
  abbrev pub IsEither : Part Stmt
  IsEither n ts rest tree = (o : Bool) × Inner o n ts rest tree

  -- citem = expr { "," expr } ":" stmt | "default" [ ":" ] stmt, and the number c of defaults in it
  pub data IsCitem (c n : ℕ) (ts rest : Tokens) (tree : Citem) : Type 0 where
    labelled : (o : Bool) (m k : ℕ) (t : Token) (q : Place) (us vs : Tokens) (es : List TreeExpr) (s : Stmt) → IsExprs (IsExpr d) m ts (sign q (codes ":") ∷ vs) es → Inner o k vs rest s
        → ts ≡ t ∷ us → c ≡ 0 → n ≡ max m k → tree ≡ citem t.place (choice.Labels es s) → IsCitem c n ts rest tree
    default : (o : Bool) (p q : Place) (us : Tokens) (s : Stmt) → Inner o n us rest s → ts ≡ word p (codes "default") ∷ sign q (codes ":") ∷ us → c ≡ 1
        → tree ≡ citem p (choice.Default true s) → IsCitem c n ts rest tree
    bare_default : (o : Bool) (p : Place) (us : Tokens) (s : Stmt) → Inner o n us rest s → ts ≡ word p (codes "default") ∷ us → c ≡ 1
        → tree ≡ citem p (choice.Default false s) → IsCitem c n ts rest tree

  -- { citem }, and the number of defaults in them
  pub data IsCitems : ℕ → ℕ → Tokens → Tokens → List Citem → Type 0 where
    no_item : {c n : ℕ} {ts rest : Tokens} → c ≡ 0 → n ≡ 0 → ts ≡ rest → IsCitems c n ts rest []
    next_item : {c n : ℕ} {ts rest : Tokens} (a b m k : ℕ) (us : Tokens) (i : Citem) (others : List Citem) → IsCitem a m ts us i → IsCitems b k us rest others → c ≡ a + b → n ≡ max m k
        → IsCitems c n ts rest (i ∷ others)

  pub data IsStmtOver (o : Bool) (n : ℕ) (ts rest : Tokens) (tree : Stmt) : Type 0 where
    -- ";"
    empty : (p : Place) → ts ≡ sign p (codes ";") ∷ rest → o ≡ false → n ≡ 1 → tree ≡ stmt p form.Empty → IsStmtOver o n ts rest tree
    -- "begin" { stmt } "end"
    block : (m : ℕ) (p q : Place) (us : Tokens) (body : List Stmt) → IsMany IsEither m us (word q (codes "end") ∷ rest) body → ts ≡ word p (codes "begin") ∷ us → o ≡ false → n ≡ m + 1
        → tree ≡ stmt p (form.Block None body) → IsStmtOver o n ts rest tree
    -- "begin" ":" Name { stmt } "end"
    named_block : (m : ℕ) (p q r s : Place) (text : List ℕ) (us : Tokens) (body : List Stmt) → IsMany IsEither m us (word s (codes "end") ∷ rest) body
        → ts ≡ word p (codes "begin") ∷ sign q (codes ":") ∷ name r text ∷ us → o ≡ false → n ≡ m + 1 → tree ≡ stmt p (form.Block (Some (record { text = text; place = r })) body) → IsStmtOver o n ts rest tree
    -- target "=" expr ";"
    blocking : (m k : ℕ) (t : Token) (q r : Place) (us vs : Tokens) (target : Target) (e : TreeExpr) → IsTarget (IsExpr d) m ts (sign q (codes "=") ∷ vs) target → IsExpr d 1 k vs (sign r (codes ";") ∷ rest) e
        → ts ≡ t ∷ us → o ≡ false → n ≡ max m k + 1 → tree ≡ stmt t.place (form.Assign target e) → IsStmtOver o n ts rest tree
    -- target "=" "$fgetc" "(" expr ")" ";"
    getc : (m k : ℕ) (t : Token) (q r s : Place) (us vs : Tokens) (target : Target) (e : TreeExpr) → IsTarget (IsExpr d) m ts (sign q (codes "=") ∷ system r (codes "$fgetc") ∷ vs) target
        → IsCond d k vs (sign s (codes ";") ∷ rest) e → ts ≡ t ∷ us → o ≡ false → n ≡ max m k + 1 → tree ≡ stmt t.place (form.Getc target e) → IsStmtOver o n ts rest tree
    -- target "<=" expr ";"
    nonblocking : (m k : ℕ) (t : Token) (q r : Place) (us vs : Tokens) (target : Target) (e : TreeExpr) → IsTarget (IsExpr d) m ts (sign q (codes "<=") ∷ vs) target → IsExpr d 1 k vs (sign r (codes ";") ∷ rest) e
        → ts ≡ t ∷ us → o ≡ false → n ≡ max m k + 1 → tree ≡ stmt t.place (form.Post target None e) → IsStmtOver o n ts rest tree
    -- target "<=" delay expr ";"
    postponed : (m j k : ℕ) (t : Token) (q r : Place) (us vs ws : Tokens) (target : Target) (delay : Delay) (e : TreeExpr) → IsTarget (IsExpr d) m ts (sign q (codes "<=") ∷ vs) target → IsDelay (IsExpr d) j vs ws delay
        → IsExpr d 1 k ws (sign r (codes ";") ∷ rest) e → ts ≡ t ∷ us → o ≡ false → n ≡ max m (max j k) + 1 → tree ≡ stmt t.place (form.Post target (Some delay) e) → IsStmtOver o n ts rest tree
    -- "if" "(" expr ")" stmt
    lone_if : (x : Bool) (m k : ℕ) (p : Place) (us vs : Tokens) (c : TreeExpr) (s : Stmt) → IsCond d m us vs c → Inner x k vs rest s → ts ≡ word p (codes "if") ∷ us → o ≡ true → n ≡ max m k + 1
        → tree ≡ stmt p (form.If c s None) → IsStmtOver o n ts rest tree
    -- "if" "(" expr ")" stmt "else" stmt, where the first statement ends in no `if` without `else`
    if_else : (m j k : ℕ) (p q : Place) (us vs ws : Tokens) (c : TreeExpr) (a b : Stmt) → IsCond d m us vs c → Inner false j vs (word q (codes "else") ∷ ws) a → Inner o k ws rest b → ts ≡ word p (codes "if") ∷ us
        → n ≡ max m (max j k) + 1 → tree ≡ stmt p (form.If c a (Some b)) → IsStmtOver o n ts rest tree
    -- ( "case" | "casez" | "casex" ) "(" expr ")" citem { citem } "endcase", with one default at most
    choices : (a b m j k : ℕ) (p q : Place) (text : List ℕ) (w : CaseWord) (us vs ws : Tokens) (e : TreeExpr) (i : Citem) (others : List Citem) → IsCond d m us vs e → IsCitem a j vs ws i
        → IsCitems b k ws (word q (codes "endcase") ∷ rest) others → case_of text ≡ Some w → a + b ≤ 1 → ts ≡ word p text ∷ us → o ≡ false → n ≡ max m (max j k) + 1
        → tree ≡ stmt p (form.Case w e (i ∷ others)) → IsStmtOver o n ts rest tree
    -- "while" "(" expr ")" stmt
    while_loop : (m k : ℕ) (p : Place) (us vs : Tokens) (c : TreeExpr) (s : Stmt) → IsCond d m us vs c → Inner o k vs rest s → ts ≡ word p (codes "while") ∷ us → n ≡ max m k + 1
        → tree ≡ stmt p (form.While c s) → IsStmtOver o n ts rest tree
    -- "repeat" "(" expr ")" stmt
    repeat_loop : (m k : ℕ) (p : Place) (us vs : Tokens) (c : TreeExpr) (s : Stmt) → IsCond d m us vs c → Inner o k vs rest s → ts ≡ word p (codes "repeat") ∷ us → n ≡ max m k + 1
        → tree ≡ stmt p (form.Repeat c s) → IsStmtOver o n ts rest tree
    -- "forever" stmt
    forever_loop : (k : ℕ) (p : Place) (us : Tokens) (s : Stmt) → Inner o k us rest s → ts ≡ word p (codes "forever") ∷ us → n ≡ k + 1 → tree ≡ stmt p (form.Forever s) → IsStmtOver o n ts rest tree
    -- "for" "(" target "=" expr ";" expr ";" target "=" expr ")" stmt
    for_loop : (m j l k : ℕ) (p q r s u : Place) (us vs ws xs : Tokens) (a b : AssignPart) (c : TreeExpr) (body : Stmt) → IsAssignPart d m us (sign r (codes ";") ∷ vs) a
        → IsExpr d 1 j vs (sign s (codes ";") ∷ ws) c → IsAssignPart d l ws (sign u (codes ")") ∷ xs) b → Inner o k xs rest body → ts ≡ word p (codes "for") ∷ sign q (codes "(") ∷ us
        → n ≡ max (max m (max j l)) k + 1 → tree ≡ stmt p (form.For a.target a.value c b.target b.value body) → IsStmtOver o n ts rest tree
    -- delay stmt
    delayed : (m k : ℕ) (t : Token) (us vs : Tokens) (delay : Delay) (s : Stmt) → IsDelay (IsExpr d) m ts vs delay → Inner o k vs rest s → ts ≡ t ∷ us → n ≡ max m k + 1
        → tree ≡ stmt t.place (form.Delayed delay s) → IsStmtOver o n ts rest tree
    -- "@" events stmt
    on_events : (m k : ℕ) (p : Place) (us vs : Tokens) (events : Events) (s : Stmt) → IsEvents (IsExpr d) m us vs events → Inner o k vs rest s → ts ≡ sign p (codes "@") ∷ us → n ≡ max m k + 1
        → tree ≡ stmt p (form.On events s) → IsStmtOver o n ts rest tree
    -- "wait" "(" expr ")" stmt
    waiting : (m k : ℕ) (p : Place) (us vs : Tokens) (c : TreeExpr) (s : Stmt) → IsCond d m us vs c → Inner o k vs rest s → ts ≡ word p (codes "wait") ∷ us → n ≡ max m k + 1
        → tree ≡ stmt p (form.Wait c s) → IsStmtOver o n ts rest tree
    -- task ";"
    task_call : (m : ℕ) (t : Token) (q : Place) (us : Tokens) (call : Task) → IsTask (IsExpr d) m ts (sign q (codes ";") ∷ rest) call → ts ≡ t ∷ us → o ≡ false → n ≡ m + 1
        → tree ≡ stmt t.place (form.Task call) → IsStmtOver o n ts rest tree

-- a statement of depth n, which is at most d
unfoldable pub IsStmt : ℕ → Rule
IsStmt zero o n ts rest tree = ⊥
IsStmt (suc d) o n ts rest tree = IsStmtOver d (IsStmt d) o n ts rest tree

-- all of the tokens are that statement
pub record IsStatement (ts : Tokens) (tree : Stmt) : Type 0 where
  pub lone : Bool
  pub depth : ℕ
  pub is : IsStmt 200 lone depth ts [] tree

-- tokens are at most one statement
abbrev pub StatementsAreOne : Type 0
StatementsAreOne = (ts : Tokens) (one other : Stmt) → IsStatement ts one → IsStatement ts other → one ≡ other
