-- What the reader does, as functions on lists of tokens. The grammar does not rest on them: the proofs show that they read
-- exactly what it says.
use Rattle.std.specs.Prelude.{◌≡◌, ℕ, zero, suc, ◌+◌, ◌≤◌, max, Bool, false, ◌==◌, nat_le, List, [], ◌∷◌, ◌++◌, length, Option, Some, None, Result, Ok, Err, codes, if◌then◌else◌}
use Rattle.std.specs.Str.{bytes_eq}
use Rattle.vf_base.specs.declared.names.Place.{Place}
use Rattle.vf_fours.specs.declared.UnaryOp.{UnaryOp}
use Rattle.vf_fours.specs.declared.BinaryOp.{BinaryOp}
use Rattle.vf_lexeme.specs.declared.kinds.TokenKind.{TokenKind}
use Rattle.vf_lexeme.specs.declared.kinds.TokenKind.TheVariants as token
use Rattle.vf_tree.specs.declared.expressions.TreeExpr.{TreeExpr}
use Rattle.vf_tree.specs.declared.expressions.PrimaryForm.TheVariants as primary
use Rattle.vf_tree.specs.declared.expressions.SignCall.{SignCall}
use Rattle.vf_tree.specs.declared.expressions.SignCall.TheVariants as call
use Rattle.vf_tree.specs.declared.expressions.Select.{Select}
use Rattle.vf_tree.specs.declared.expressions.SelectForm.{SelectForm}
use Rattle.vf_tree.specs.declared.expressions.SelectForm.TheVariants as select
use Rattle.vf_expression.specs.declared.stop.Stop.{Stop}
use Rattle.vf_expression.specs.declared.stop.Stop.TheVariants.{Unexpected, Memory}
use Rattle.vf_expression.specs.declared.read.Part.{Part}
use Rattle.vf_expression.specs.declared.read.Part.TheVariants as parts
use Rattle.vf_expression.specs.Operators.{unary_of, binary_of, level_of}
use Rattle.vf_expression.specs.Grammar.{Tokens, IsExpr, plain, one, two, pick, selected}

-- ---- answers

-- what a function returned, seen by view, is what reading gives, unless memory ran out
abbrev pub Fails : {Y : Type 0} → Stop → Option Y → Type 0
Fails (Unexpected left) read = read ≡ None
Fails Memory read = Unit {0}

abbrev pub Gives : {X Y : Type 0} → (X → Y) → Result X Stop → Option Y → Type 0
Gives view (Ok x) read = read ≡ Some (view x)
Gives view (Err e) read = Fails e read

infixl 10 ◌>>=◌
abbrev pub ◌>>=◌ : {A B : Type 0} → Option A → (A → Option B) → Option B
(Some x) >>= f = f x
None >>= f = None

-- what f makes of what was found, or else the other
abbrev pub found_or : {A B : Type 0} → Option A → (A → B) → B → B
found_or (Some x) f other = f x
found_or None f other = other

-- what was read, its depth, and the tokens after it
abbrev pub Read : Type 0 → Type 0
Read A = Option (A × ℕ × Tokens)

-- ---- tokens

abbrev pub is_sign : List ℕ → TokenKind → Bool
is_sign text (token.Sign own) = bytes_eq own text
is_sign text (token.Name own) = false
is_sign text (token.System own) = false
is_sign text (token.Word own) = false
is_sign text (token.Number value) = false
is_sign text (token.Quoted own) = false

-- the tokens after the sign that is wanted
unfoldable pub after : List ℕ → Tokens → Option Tokens
after text [] = None
after text (t ∷ rest) = if is_sign text t.kind then Some rest else None

-- the sign at the front, and the tokens after it
abbrev pub sign_text : TokenKind → Option (List ℕ)
sign_text (token.Sign own) = Some own
sign_text (token.Name own) = None
sign_text (token.System own) = None
sign_text (token.Word own) = None
sign_text (token.Number value) = None
sign_text (token.Quoted own) = None

-- the binary operator at the front, where it binds at that level or tighter
unfoldable pub operator_at : ℕ → Tokens → Option (BinaryOp × Tokens)
operator_at m [] = None
operator_at m (t ∷ rest) = do
  text ← sign_text t.kind
  op ← binary_of text
  if nat_le m (level_of op) then Some (op, rest) else None

-- the place of a `[` at the front, and the tokens after it
unfoldable pub opening_at : Tokens → Option (Place × Tokens)
opening_at [] = None
opening_at (t ∷ rest) = if is_sign (codes "[") t.kind then Some (t.place, rest) else None

-- what stands between the two expressions of a select
unfoldable pub part_of : List ℕ → Option Part
part_of text = if bytes_eq text (codes ":") then Some parts.Range else if bytes_eq text (codes "+:") then Some parts.Up
    else if bytes_eq text (codes "-:") then Some parts.Down else None

unfoldable pub part_at : Tokens → Option (Part × Tokens)
part_at [] = None
part_at (t ∷ rest) = do
  text ← sign_text t.kind
  part ← part_of text
  Some (part, rest)

abbrev pub part_form : Part → TreeExpr → TreeExpr → SelectForm
part_form parts.Range a b = select.Part a b
part_form parts.Up a b = select.Up a b
part_form parts.Down a b = select.Down a b

-- ---- expressions

-- a tree of that depth, which is 1 more than d at most
unfoldable pub node : ℕ → TreeExpr → ℕ → Tokens → Read TreeExpr
node d tree n rest = if nat_le n (d + 1) then Some (tree, n, rest) else None

-- inner reads an expression of a level
module _ (inner : ℕ → Tokens → Read TreeExpr) where
  -- the further expressions, each after a comma
  unfoldable pub more_from : ℕ → List TreeExpr → ℕ → Tokens → Read (List TreeExpr)
  more_from zero es n ts = Some (es, n, ts)
  more_from (suc f) es n ts = found_or (after (codes ",") ts) (λ us. inner 1 us >>= λ x. more_from f (es ++ x.0 ∷ []) (max n x.1) x.2) (Some (es, n, ts))

  unfoldable pub exprs_at : Tokens → Read (List TreeExpr)
  exprs_at ts = do
    a ← inner 1 ts
    more_from (length a.2) (a.0 ∷ []) a.1 a.2

  -- the rest of a select of two expressions
  unfoldable pub part_from : Place → TreeExpr → ℕ → Tokens → Read Select
  part_from p a n ts = do
    part ← part_at ts
    b ← inner 1 part.1
    rest ← after (codes "]") b.2
    Some (selected p (part_form part.0 a b.0), max n b.1, rest)

  -- a select after its `[`
  unfoldable pub select_from : Place → Tokens → Read Select
  select_from p ts = do
    a ← inner 1 ts
    found_or (after (codes "]") a.2) (λ rest. Some (selected p (select.One a.0), a.1, rest)) (part_from p a.0 a.1 a.2)

  -- a second select, where one stands in front
  unfoldable pub second_select : Select → ℕ → Tokens → Read (List Select)
  second_select a n ts = found_or (opening_at ts) (λ o. select_from o.0 o.1 >>= λ b. Some (a ∷ b.0 ∷ [], max n b.1, b.2)) (Some (a ∷ [], n, ts))

  -- the selects that stand in front, two at most
  unfoldable pub selects_at : Tokens → Read (List Select)
  selects_at ts = found_or (opening_at ts) (λ o. select_from o.0 o.1 >>= λ a. second_select a.0 a.1 a.2) (Some ([], 0, ts))

  -- an expression in parentheses after its `(`
  unfoldable pub closed_at : Tokens → Read TreeExpr
  closed_at ts = do
    a ← inner 1 ts
    rest ← after (codes ")") a.2
    Some (a.0, a.1, rest)

  -- the argument of a system function in parentheses
  unfoldable pub argument_at : Tokens → Read TreeExpr
  argument_at ts = do
    us ← after (codes "(") ts
    closed_at us

-- and of depth d at most
module _ (inner : ℕ → Tokens → Read TreeExpr) (d : ℕ) where
  -- ---- operands

  unfoldable pub named_at : Place → List ℕ → Tokens → Read TreeExpr
  named_at p text ts = do
    s ← selects_at inner ts
    node d (plain p (primary.Name (record { text = text; place = p }) s.0)) (s.1 + 1) s.2

  unfoldable pub paren_at : Place → Tokens → Read TreeExpr
  paren_at p ts = do
    a ← closed_at inner ts
    node d (plain p (primary.Paren a.0)) (a.1 + 1) a.2

  unfoldable pub feof_at : Place → Tokens → Read TreeExpr
  feof_at p ts = do
    a ← argument_at inner ts
    node d (plain p (primary.Feof a.0)) (a.1 + 1) a.2

  unfoldable pub sign_call_at : Place → SignCall → Tokens → Read TreeExpr
  sign_call_at p call ts = do
    a ← argument_at inner ts
    node d (plain p (primary.Sign call a.0)) (a.1 + 1) a.2

  unfoldable pub system_at : Place → List ℕ → Tokens → Read TreeExpr
  system_at p text ts = if bytes_eq text (codes "$time") then node d (plain p primary.Time) 1 ts
      else if bytes_eq text (codes "$feof") then feof_at p ts
      else if bytes_eq text (codes "$signed") then sign_call_at p call.Signed ts
      else if bytes_eq text (codes "$unsigned") then sign_call_at p call.Unsigned ts else None

  -- a replication after its count and the second `{`
  unfoldable pub repeat_from : Place → TreeExpr → ℕ → Tokens → Read TreeExpr
  repeat_from p count n ts = do
    l ← exprs_at inner ts
    us ← after (codes "}") l.2
    rest ← after (codes "}") us
    node d (plain p (primary.Repeat count l.0)) (max n l.1 + 1) rest

  -- a concatenation after its first part
  unfoldable pub concat_from : Place → TreeExpr → ℕ → Tokens → Read TreeExpr
  concat_from p first n ts = do
    l ← more_from inner (length ts) (first ∷ []) n ts
    rest ← after (codes "}") l.2
    node d (plain p (primary.Concat l.0)) (l.1 + 1) rest

  -- a concatenation or a replication after its `{`
  unfoldable pub braces_at : Place → Tokens → Read TreeExpr
  braces_at p ts = do
    a ← inner 1 ts
    found_or (after (codes "{") a.2) (λ us. repeat_from p a.0 a.1 us) (concat_from p a.0 a.1 a.2)

  unfoldable pub prefixed_at : Place → UnaryOp → Tokens → Read TreeExpr
  prefixed_at p op ts = do
    a ← inner 12 ts
    node d (one p op a.0) (a.1 + 1) a.2

  unfoldable pub opened_at : Place → List ℕ → Tokens → Read TreeExpr
  opened_at p text ts = if bytes_eq text (codes "(") then paren_at p ts else if bytes_eq text (codes "{") then braces_at p ts else None

  -- an operand that begins with a sign
  unfoldable pub signed_at : Place → List ℕ → Tokens → Read TreeExpr
  signed_at p text ts = found_or (unary_of text) (λ op. prefixed_at p op ts) (opened_at p text ts)

  abbrev pub operand_by : TokenKind → Place → Tokens → Read TreeExpr
  operand_by (token.Number value) p rest = node d (plain p (primary.Number (record { value = value; place = p }))) 1 rest
  operand_by (token.Name text) p rest = named_at p text rest
  operand_by (token.System text) p rest = system_at p text rest
  operand_by (token.Sign text) p rest = signed_at p text rest
  operand_by (token.Word text) p rest = None
  operand_by (token.Quoted text) p rest = None

  unfoldable pub operand_at : Tokens → Read TreeExpr
  operand_at [] = None
  operand_at (t ∷ rest) = operand_by t.kind t.place rest

  -- ---- operators

  -- an operator with its right operand, after its left one
  unfoldable pub link_at : BinaryOp → TreeExpr → ℕ → Tokens → Read TreeExpr
  link_at op left n ts = do
    x ← inner (level_of op + 1) ts
    node d (two op left x.0) (max n x.1 + 1) x.2

  -- the operators of level m or tighter that follow a left operand, f at most, each with its right operand
  unfoldable pub chain_at : ℕ → ℕ → TreeExpr → ℕ → Tokens → Read TreeExpr
  chain_at zero m left n ts = None
  chain_at (suc f) m left n ts = found_or (operator_at m ts) (λ o. link_at o.0 left n o.1 >>= λ y. chain_at f m y.0 y.1 y.2) (Some (left, n, ts))

  -- the arms of a conditional expression after its `?`
  unfoldable pub arms_at : TreeExpr → ℕ → Tokens → Read TreeExpr
  arms_at cond n ts = do
    a ← inner 1 ts
    us ← after (codes ":") a.2
    b ← inner 1 us
    node d (pick cond a.0 b.0) (max n (max a.1 b.1) + 1) b.2

  unfoldable pub pick_at : TreeExpr → ℕ → Tokens → Read TreeExpr
  pick_at cond n ts = found_or (after (codes "?") ts) (λ us. arms_at cond n us) (Some (cond, n, ts))

  -- an expression with binary operators alone
  unfoldable pub chained_at : ℕ → Tokens → Read TreeExpr
  chained_at m ts = do
    x ← operand_at ts
    chain_at (d + 1) m x.0 x.1 x.2

  unfoldable pub expr_over : ℕ → Tokens → Read TreeExpr
  expr_over m ts = do
    y ← chained_at m ts
    if m == 1 then pick_at y.0 y.1 y.2 else Some y

unfoldable pub expr_at : ℕ → ℕ → Tokens → Read TreeExpr
expr_at zero m ts = None
expr_at (suc d) m ts = expr_over (expr_at d) d m ts

-- the expression that all of the tokens are
abbrev pub ended : Tokens → Option (Unit {0})
ended [] = Some tt
ended (t ∷ rest) = None

unfoldable pub whole_of : Tokens → Option TreeExpr
whole_of ts = do
  x ← expr_at 200 1 ts
  end ← ended x.2
  Some x.0

-- what may follow an expression of level k: no operator that binds as tight, no select, and no `?` after a whole one
pub record Ends (k : ℕ) (rest : Tokens) : Type 0 where
  pub low : 1 ≤ k
  pub op : operator_at k rest ≡ None
  pub select : opening_at rest ≡ None
  pub pick : k ≡ 1 → after (codes "?") rest ≡ None

-- what is read of a level is an expression, and an expression of a level is read where no token that belongs to it may follow
abbrev pub ReadingsAreExpressions : Type 0
ReadingsAreExpressions = (d k : ℕ) →
    ((ts : Tokens) (x : TreeExpr × ℕ × Tokens) → expr_at d k ts ≡ Some x → IsExpr d k x.1 ts x.2 x.0)
    × ((n : ℕ) (ts rest : Tokens) (tree : TreeExpr) → IsExpr d k n ts rest tree → Ends k rest → expr_at d k ts ≡ Some (tree, n, rest))
