-- Expressions over tokens (docs/LANGUAGE.md, "Grammar"; IEEE Std 1364-2005, clauses 4 and 5, Annex A.8): which tree stands at the
-- front of a list of tokens, where the rest follows it. One case for each alternative of the grammar; nothing looks at the rest.
--
-- The number n is the depth of a tree: 1 without an expression in it, else 1 more than the deepest in it. The number k says
-- how tight the tree must bind: the left operand of an operator binds at least as tight as it, the right one tighter.
use Rattle.std.specs.Prelude.{◌≡◌, ℕ, zero, suc, ◌+◌, ◌≤◌, max, List, [], ◌∷◌, Some, codes}
use Rattle.vf_base.specs.declared.names.Place.{Place}
use Rattle.vf_fours.specs.Bits.{FourState}
use Rattle.vf_fours.specs.declared.UnaryOp.{UnaryOp}
use Rattle.vf_fours.specs.declared.BinaryOp.{BinaryOp}
use Rattle.vf_lexeme.specs.declared.kinds.TokenKind.TheVariants as token
use Rattle.vf_lex.specs.declared.token.Token.{Token}
use Rattle.vf_tree.specs.declared.expressions.TreeExpr.{TreeExpr, roll-TreeExpr}
use Rattle.vf_tree.specs.declared.expressions.ExprForm.TheVariants as form
use Rattle.vf_tree.specs.declared.expressions.Primary.{roll-Primary}
use Rattle.vf_tree.specs.declared.expressions.PrimaryForm.{PrimaryForm}
use Rattle.vf_tree.specs.declared.expressions.PrimaryForm.TheVariants as primary
use Rattle.vf_tree.specs.declared.expressions.SignCall.TheVariants as call
use Rattle.vf_tree.specs.declared.expressions.Select.{Select, roll-Select}
use Rattle.vf_tree.specs.declared.expressions.SelectForm.{SelectForm}
use Rattle.vf_tree.specs.declared.expressions.SelectForm.TheVariants as select
use Rattle.vf_expression.specs.Operators.{unary_of, binary_of, level_of}

abbrev pub Tokens : Type 0
Tokens = List Token

-- ---- tokens

abbrev pub sign : Place → List ℕ → Token
sign p text = record { kind = token.Sign text; place = p }

abbrev pub word : Place → List ℕ → Token
word p text = record { kind = token.Word text; place = p }

abbrev pub name : Place → List ℕ → Token
name p text = record { kind = token.Name text; place = p }

abbrev pub number : Place → FourState → Token
number p value = record { kind = token.Number value; place = p }

abbrev pub system : Place → List ℕ → Token
system p text = record { kind = token.System text; place = p }

-- ---- trees

-- an expression that is an operand alone
abbrev pub plain : Place → PrimaryForm → TreeExpr
plain p f = roll-TreeExpr (record { place = p; form = form.Plain (roll-Primary (record { place = p; form = f })) })

-- an expression with a unary operator at the place
abbrev pub one : Place → UnaryOp → TreeExpr → TreeExpr
one p op of = roll-TreeExpr (record { place = p; form = form.One op of })

-- an expression with a binary operator; it begins with its left operand
abbrev pub two : BinaryOp → TreeExpr → TreeExpr → TreeExpr
two op left right = roll-TreeExpr (record { place = left.place; form = form.Two op left right })

-- a conditional expression; it begins with its condition
abbrev pub pick : TreeExpr → TreeExpr → TreeExpr → TreeExpr
pick cond a b = roll-TreeExpr (record { place = cond.place; form = form.Pick cond a b })

abbrev pub selected : Place → SelectForm → Select
selected p f = roll-Select (record { place = p; form = f })

-- ---- the rules, over the expressions in them

-- which tree of level k and depth n stands before the rest
abbrev pub Rule : Type 1
Rule = ℕ → ℕ → Tokens → Tokens → TreeExpr → Type 0

module _ (Inner : Rule) where
  -- expr { "," expr }, where n is the depth of the deepest
  pub data IsExprs : ℕ → Tokens → Tokens → List TreeExpr → Type 0 where
    last : {n : ℕ} {ts rest : Tokens} (e : TreeExpr) → Inner 1 n ts rest e → IsExprs n ts rest (e ∷ [])
    more : {n : ℕ} {ts rest : Tokens} (m k : ℕ) (q : Place) (us : Tokens) (e : TreeExpr) (es : List TreeExpr)
        → Inner 1 m ts (sign q (codes ",") ∷ us) e → IsExprs k us rest es → n ≡ max m k → IsExprs n ts rest (e ∷ es)

  -- select = "[" expr "]" | "[" expr ":" expr "]" | "[" expr "+:" expr "]" | "[" expr "-:" expr "]"
  pub data IsSelect (n : ℕ) (ts rest : Tokens) (tree : Select) : Type 0 where
    bit : (p q : Place) (us : Tokens) (e : TreeExpr) → Inner 1 n us (sign q (codes "]") ∷ rest) e
        → ts ≡ sign p (codes "[") ∷ us → tree ≡ selected p (select.One e) → IsSelect n ts rest tree
    part : (m k : ℕ) (p q r : Place) (us vs : Tokens) (a b : TreeExpr) → Inner 1 m us (sign q (codes ":") ∷ vs) a → Inner 1 k vs (sign r (codes "]") ∷ rest) b
        → ts ≡ sign p (codes "[") ∷ us → n ≡ max m k → tree ≡ selected p (select.Part a b) → IsSelect n ts rest tree
    up : (m k : ℕ) (p q r : Place) (us vs : Tokens) (a b : TreeExpr) → Inner 1 m us (sign q (codes "+:") ∷ vs) a → Inner 1 k vs (sign r (codes "]") ∷ rest) b
        → ts ≡ sign p (codes "[") ∷ us → n ≡ max m k → tree ≡ selected p (select.Up a b) → IsSelect n ts rest tree
    down : (m k : ℕ) (p q r : Place) (us vs : Tokens) (a b : TreeExpr) → Inner 1 m us (sign q (codes "-:") ∷ vs) a → Inner 1 k vs (sign r (codes "]") ∷ rest) b
        → ts ≡ sign p (codes "[") ∷ us → n ≡ max m k → tree ≡ selected p (select.Down a b) → IsSelect n ts rest tree

  -- { select }, two at most; without one the depth is 0
  pub data IsSelects (n : ℕ) (ts rest : Tokens) (trees : List Select) : Type 0 where
    none : n ≡ 0 → ts ≡ rest → trees ≡ [] → IsSelects n ts rest trees
    single : (a : Select) → IsSelect n ts rest a → trees ≡ a ∷ [] → IsSelects n ts rest trees
    double : (m k : ℕ) (us : Tokens) (a b : Select) → IsSelect m ts us a → IsSelect k us rest b → n ≡ max m k → trees ≡ a ∷ b ∷ [] → IsSelects n ts rest trees

  -- primary, and unary operators before an operand
  pub data IsOperand (n : ℕ) (ts rest : Tokens) (tree : TreeExpr) : Type 0 where
    constant : (p : Place) (value : FourState) → ts ≡ number p value ∷ rest → n ≡ 1
        → tree ≡ plain p (primary.Number (record { value = value; place = p })) → IsOperand n ts rest tree
    named : (m : ℕ) (p : Place) (text : List ℕ) (us : Tokens) (selects : List Select) → IsSelects m us rest selects → ts ≡ name p text ∷ us → n ≡ m + 1
        → tree ≡ plain p (primary.Name (record { text = text; place = p }) selects) → IsOperand n ts rest tree
    paren : (m : ℕ) (p q : Place) (us : Tokens) (e : TreeExpr) → Inner 1 m us (sign q (codes ")") ∷ rest) e → ts ≡ sign p (codes "(") ∷ us → n ≡ m + 1
        → tree ≡ plain p (primary.Paren e) → IsOperand n ts rest tree
    concat : (m : ℕ) (p q : Place) (us : Tokens) (es : List TreeExpr) → IsExprs m us (sign q (codes "}") ∷ rest) es → ts ≡ sign p (codes "{") ∷ us → n ≡ m + 1
        → tree ≡ plain p (primary.Concat es) → IsOperand n ts rest tree
    repeat : (m k : ℕ) (p q r s : Place) (us vs : Tokens) (count : TreeExpr) (es : List TreeExpr) → Inner 1 m us (sign q (codes "{") ∷ vs) count
        → IsExprs k vs (sign r (codes "}") ∷ sign s (codes "}") ∷ rest) es → ts ≡ sign p (codes "{") ∷ us → n ≡ max m k + 1
        → tree ≡ plain p (primary.Repeat count es) → IsOperand n ts rest tree
    time : (p : Place) → ts ≡ system p (codes "$time") ∷ rest → n ≡ 1 → tree ≡ plain p primary.Time → IsOperand n ts rest tree
    feof : (m : ℕ) (p q r : Place) (us : Tokens) (e : TreeExpr) → Inner 1 m us (sign r (codes ")") ∷ rest) e
        → ts ≡ system p (codes "$feof") ∷ sign q (codes "(") ∷ us → n ≡ m + 1 → tree ≡ plain p (primary.Feof e) → IsOperand n ts rest tree
    signed : (m : ℕ) (p q r : Place) (us : Tokens) (e : TreeExpr) → Inner 1 m us (sign r (codes ")") ∷ rest) e
        → ts ≡ system p (codes "$signed") ∷ sign q (codes "(") ∷ us → n ≡ m + 1 → tree ≡ plain p (primary.Sign call.Signed e) → IsOperand n ts rest tree
    unsigned : (m : ℕ) (p q r : Place) (us : Tokens) (e : TreeExpr) → Inner 1 m us (sign r (codes ")") ∷ rest) e
        → ts ≡ system p (codes "$unsigned") ∷ sign q (codes "(") ∷ us → n ≡ m + 1 → tree ≡ plain p (primary.Sign call.Unsigned e) → IsOperand n ts rest tree
    prefix : (m : ℕ) (p : Place) (text : List ℕ) (op : UnaryOp) (us : Tokens) (e : TreeExpr) → Inner 12 m us rest e → unary_of text ≡ Some op
        → ts ≡ sign p text ∷ us → n ≡ m + 1 → tree ≡ one p op e → IsOperand n ts rest tree

  -- an expression that binds at level k or tighter
  pub data IsExprOver : ℕ → ℕ → Tokens → Tokens → TreeExpr → Type 0 where
    operand : {k n : ℕ} {ts rest : Tokens} {tree : TreeExpr} → IsOperand n ts rest tree → IsExprOver k n ts rest tree
    binary : {k n : ℕ} {ts rest : Tokens} {tree : TreeExpr} (a b : ℕ) (q : Place) (text : List ℕ) (op : BinaryOp) (us : Tokens) (left right : TreeExpr)
        → IsExprOver (level_of op) a ts (sign q text ∷ us) left → Inner (level_of op + 1) b us rest right → binary_of text ≡ Some op → k ≤ level_of op
        → n ≡ max a b + 1 → tree ≡ two op left right → IsExprOver k n ts rest tree
    choice : {k n : ℕ} {ts rest : Tokens} {tree : TreeExpr} (a b c : ℕ) (q r : Place) (us vs : Tokens) (cond x y : TreeExpr)
        → IsExprOver 2 a ts (sign q (codes "?") ∷ us) cond → Inner 1 b us (sign r (codes ":") ∷ vs) x → Inner 1 c vs rest y → k ≤ 1
        → n ≡ max a (max b c) + 1 → tree ≡ pick cond x y → IsExprOver k n ts rest tree

-- an expression of level k and depth n, which is at most d
unfoldable pub IsExpr : ℕ → Rule
IsExpr zero k n ts rest tree = ⊥
IsExpr (suc d) k n ts rest tree = (n ≤ d + 1) × IsExprOver (IsExpr d) k n ts rest tree

-- all of the tokens are that expression
pub record IsExpression (ts : Tokens) (tree : TreeExpr) : Type 0 where
  pub depth : ℕ
  pub is : IsExpr 200 1 depth ts [] tree

-- tokens are at most one expression
abbrev pub ExpressionsAreOne : Type 0
ExpressionsAreOne = (ts : Tokens) (one other : TreeExpr) → IsExpression ts one → IsExpression ts other → one ≡ other
