-- Steps of reading an expression, as the reader takes them.
use Rattle.std.proofs.Common.{◌≡◌, ℕ, zero, suc, ◌+◌, ◌-◌, ◌<◌, List, [], ◌∷◌, ◌++◌, max, Option, Some, None, leb, false, refl, sym, ◌∙◌, codes, arith}
use Rattle.std.proofs.lemmas.Bool.{leb-true, false_from_ne_true}
use Rattle.vf_fours.specs.declared.BinaryOp.{BinaryOp}
use Rattle.vf_tree.specs.declared.expressions.TreeExpr.{TreeExpr}
use Rattle.vf_expression.specs.Operators.{level_of}
use Rattle.vf_expression.specs.Grammar.{Tokens, two, pick}
use Rattle.vf_expression.specs.Reading.{Read, ◌>>=◌, after, operator_at, node, more_from, link_at, chain_at, arms_at, expr_over, expr_at}

pub expr_never : (d m : ℕ) (ts : Tokens) → d ≡ 0 → expr_at d m ts ≡ None
unfolding expr_at
expr_never zero m ts e = refl
expr_never (suc d) m ts e = absurd (omega arith)

pub expr_deeper : (d m : ℕ) (ts : Tokens) → 0 < d → expr_at d m ts ≡ expr_over (expr_at (d - 1)) (d - 1) m ts
unfolding expr_at
expr_deeper zero m ts h = absurd (omega arith)
expr_deeper (suc d) m ts h =
    let e : suc d - 1 ≡ d = omega arith in
    rw e refl

-- a tree with a part that is as deep as the tree may be
pub node_never : (d n : ℕ) (tree : TreeExpr) (rest : Tokens) → d + 1 < n → node d tree n rest ≡ None
unfolding node
node_never d n tree rest h =
    let no : leb n (d + 1) ≡ false = false_from_ne_true (leb n (d + 1)) (λ is. let le = leb-true n (d + 1) is in absurd (omega arith)) in
    rw no refl

none_after : {A B : Type 0} (r : Option A) (f : A → Option B) → ((x : A) → f x ≡ None) → (r >>= f) ≡ None
none_after (Some x) f none = none x
none_after None f none = refl

module _ (inner : ℕ → Tokens → Read TreeExpr) where
  pub link_never : (d : ℕ) (op : BinaryOp) (left : TreeExpr) (n : ℕ) (ts : Tokens) → d < n → link_at inner d op left n ts ≡ None
  unfolding link_at
  link_never d op left n ts h = none_after (inner (level_of op + 1) ts) _ (λ x. node_never d (max n x.1 + 1) (two op left x.0) x.2 (omega arith))

  pub arms_never : (d : ℕ) (cond : TreeExpr) (n : ℕ) (ts : Tokens) → d < n → arms_at inner d cond n ts ≡ None
  unfolding arms_at
  arms_never d cond n ts h =
      none_after (inner 1 ts) _ (λ a. none_after (after (codes ":") a.2) _ (λ us. none_after (inner 1 us) _ (λ b. node_never d (max n (max a.1 b.1) + 1) (pick cond a.0 b.0) b.2 (omega arith))))

  pub more_step : (n i : ℕ) (es : List TreeExpr) (m : ℕ) (ts us : Tokens) (x : TreeExpr × ℕ × Tokens) (fs : List TreeExpr) (k : ℕ) (total : Read (List TreeExpr)) → i < n → after (codes ",") ts ≡ Some us → inner 1 us ≡ Some x
      → fs ≡ es ++ x.0 ∷ [] → k ≡ max m x.1 → more_from inner (n - i) es m ts ≡ total → more_from inner (n - (i + 1)) fs k x.2 ≡ total
  unfolding more_from
  more_step n i es m ts us x fs deepest total lt found read more_is deepest_is so_far =
      let k : n - i ≡ suc (n - (i + 1)) = omega arith in
      let one : more_from inner (n - i) es m ts ≡ more_from inner (n - (i + 1)) (es ++ x.0 ∷ []) (max m x.1) x.2 = rw (k, found, read) refl in
      rw (more_is, deepest_is) (sym one ∙ so_far)

  pub chain_step : (d n i m : ℕ) (left : TreeExpr) (deep : ℕ) (ts : Tokens) (o : BinaryOp × Tokens) (y : TreeExpr × ℕ × Tokens) (total : Read TreeExpr) → i < n → operator_at m ts ≡ Some o → link_at inner d o.0 left deep o.1 ≡ Some y
      → chain_at inner d (n - i) m left deep ts ≡ total → chain_at inner d (n - (i + 1)) m y.0 y.1 y.2 ≡ total
  unfolding chain_at
  chain_step d n i m left deep ts o y total lt found read so_far =
      let k : n - i ≡ suc (n - (i + 1)) = omega arith in
      let one : chain_at inner d (n - i) m left deep ts ≡ chain_at inner d (n - (i + 1)) m y.0 y.1 y.2 = rw (k, found, read) refl in
      sym one ∙ so_far
