-- What the reading functions read is what the grammar says.
use Rattle.std.proofs.Common.{◌≡◌, ℕ, zero, suc, ◌+◌, ◌≤◌, max, cond, leb, eqb, ◌⊎◌, List, [], ◌∷◌, ◌++◌, length, Option, Some, None, refl, ap, subst, sym, ◌∙◌, inl, inr, append_assoc, codes, arith}
use Rattle.std.specs.Str.{bytes_eq}
use Rattle.std.proofs.lemmas.Bool.{cases_Bool, leb-true, eqb-true}
use Rattle.std.proofs.lemmas.List.{append-nil}
use Rattle.vf_base.specs.declared.names.Place.{Place}
use Rattle.vf_fours.specs.declared.UnaryOp.{UnaryOp}
use Rattle.vf_fours.specs.declared.BinaryOp.{BinaryOp}
use Rattle.vf_lexeme.specs.declared.kinds.TokenKind.{TokenKind}
use Rattle.vf_lexeme.specs.declared.kinds.TokenKind.TheVariants as token
use Rattle.vf_tree.specs.declared.expressions.TreeExpr.{TreeExpr}
use Rattle.vf_tree.specs.declared.expressions.PrimaryForm.TheVariants as primary
use Rattle.vf_tree.specs.declared.expressions.SignCall.TheVariants as call
use Rattle.vf_tree.specs.declared.expressions.Select.{Select}
use Rattle.vf_tree.specs.declared.expressions.SelectForm.TheVariants as select
use Rattle.vf_expression.specs.declared.read.Part.{Part}
use Rattle.vf_expression.specs.Operators.{unary_of, binary_of, level_of}
use Rattle.vf_expression.specs.Grammar.{Tokens, sign, name, number, system, plain, one, two, pick, selected, Rule, IsExprs, last, more, IsSelect, bit, part, up, down, IsSelects, none, single, double, IsOperand, constant, named, paren, concat, repeat, time, feof, signed, unsigned, prefix, IsExprOver, operand, binary, choice, IsExpr}
use Rattle.vf_expression.specs.Reading.{Read, ◌>>=◌, found_or, after, operator_at, opening_at, part_at, part_form, node, more_from, exprs_at, part_from, select_from, second_select, selects_at, closed_at, argument_at, named_at, paren_at, feof_at, sign_call_at, system_at, repeat_from, concat_from, braces_at, prefixed_at, opened_at, signed_at, operand_by, operand_at, link_at, chain_at, arms_at, pick_at, chained_at, expr_over, expr_at}
use Rattle.vf_expression.proofs.TokenLemmas.{bind_some, guard_some, some_is, found_is, chosen, text_is, token_is, after_is, IsOperator, operator_is, level_low, operator_top, operator_looser, operator_bound, opening_is, IsPartSign, part_is, IsPartText, range, part_text}
use Rattle.vf_expression.proofs.TokenLemmas as tokens

node_is : (d : ℕ) (tree : TreeExpr) (n : ℕ) (rest : Tokens) (x : TreeExpr × ℕ × Tokens) → node d tree n rest ≡ Some x → (n ≤ d + 1) × ((tree, n, rest) ≡ x)
unfolding node
node_is d tree n rest x e =
    let g = guard_some (leb n (d + 1)) (tree, n, rest) x e in
    (leb-true n (d + 1) g.0, g.1)

-- an expression that was read, and that no operator of the level follows
pub record Reads (P : Rule) (m : ℕ) (ts : Tokens) (x : TreeExpr × ℕ × Tokens) : Type 0 where
  pub is : P m x.1 ts x.2 x.0
  pub stops : operator_at m x.2 ≡ None

module _ (P : Rule) (inner : ℕ → Tokens → Read TreeExpr) (sound : (m : ℕ) (ts : Tokens) (x : TreeExpr × ℕ × Tokens) → inner m ts ≡ Some x → Reads P m ts x) where
  -- an expression before a sign
  before_sign : (ts : Tokens) (a : TreeExpr × ℕ × Tokens) (text : List ℕ) (rest : Tokens) → inner 1 ts ≡ Some a → after text a.2 ≡ Some rest → (q : Place) × P 1 a.1 ts (sign q text ∷ rest) a.0
  before_sign ts a text rest e f =
      let q = after_is text a.2 rest f in
      (q.0, subst (λ us. P 1 a.1 ts us a.0) q.1 (sound 1 ts a e).is)

  -- the expressions that follow one at the front
  more_is : (f : ℕ) (es : List TreeExpr) (m : ℕ) (ts start : Tokens) (e : TreeExpr) (x : List TreeExpr × ℕ × Tokens) → more_from inner f es m ts ≡ Some x → (k : ℕ) → P 1 k start ts e
      → (l : List TreeExpr) × (j : ℕ) × IsExprs P j start x.2 (e ∷ l) × (x.0 ≡ es ++ l) × ((a : ℕ) → m ≡ max a k → x.1 ≡ max a j)
  unfolding more_from
  more_is zero es m ts start e x h k is =
      let same : (es, m, ts) ≡ x = some_is (es, m, ts) x h in
      subst (λ (y : List TreeExpr × ℕ × Tokens). (l : List TreeExpr) × (j : ℕ) × IsExprs P j start y.2 (e ∷ l) × (y.0 ≡ es ++ l) × ((a : ℕ) → m ≡ max a k → y.1 ≡ max a j)) same
      ([], k, last e is, sym (append-nil es), λ a e. e)
  more_is (suc f) es m ts start e x h k is =
      elim (found_is (after (codes ",") ts) (λ us. inner 1 us >>= λ x. more_from inner f (es ++ x.0 ∷ []) (max m x.1) x.2) (Some (es, m, ts)) x h) [
        | inr p ↦
            let same : (es, m, ts) ≡ x = some_is (es, m, ts) x p.1 in
            subst (λ (y : List TreeExpr × ℕ × Tokens). (l : List TreeExpr) × (j : ℕ) × IsExprs P j start y.2 (e ∷ l) × (y.0 ≡ es ++ l) × ((a : ℕ) → m ≡ max a k → y.1 ≡ max a j)) same
            ([], k, last e is, sym (append-nil es), λ a e. e)
        | inl p ↦
            let a = bind_some (inner 1 p.0) (λ x. more_from inner f (es ++ x.0 ∷ []) (max m x.1) x.2) x p.2 in
            let q = after_is (codes ",") ts p.0 p.1 in
            let here : P 1 k start (sign q.0 (codes ",") ∷ p.0) e = subst (λ us. P 1 k start us e) q.1 is in
            let others = more_is f (es ++ a.0.0 ∷ []) (max m a.0.1) a.0.2 p.0 a.0.0 x a.2 a.0.1 (sound 1 p.0 a.0 a.1).is in (
              a.0.0 ∷ others.0,
              max k others.1,
              more k others.1 q.0 p.0 e (a.0.0 ∷ others.0) here others.2 refl,
              others.3 ∙ append_assoc es (a.0.0 ∷ []) others.0,
              λ b same. others.4 m refl ∙ ap (λ (n : ℕ). max n others.1) same ∙ omega arith,
            )
      ]

  -- the list after its first expression
  list_is : (ts : Tokens) (a : TreeExpr × ℕ × Tokens) (x : List TreeExpr × ℕ × Tokens) → inner 1 ts ≡ Some a → more_from inner (length a.2) (a.0 ∷ []) a.1 a.2 ≡ Some x → IsExprs P x.1 ts x.2 x.0
  list_is ts a x e h =
      let l = more_is (length a.2) (a.0 ∷ []) a.1 a.2 ts a.0 x h a.1 (sound 1 ts a e).is in
      let deep : x.1 ≡ l.1 = l.4 0 (omega arith) ∙ omega arith in
      subst (λ (n : ℕ). IsExprs P n ts x.2 x.0) (sym deep) (subst (λ (es : List TreeExpr). IsExprs P l.1 ts x.2 es) (sym l.3) l.2)

  pub exprs_is : (ts : Tokens) (x : List TreeExpr × ℕ × Tokens) → exprs_at inner ts ≡ Some x → IsExprs P x.1 ts x.2 x.0
  unfolding exprs_at
  exprs_is ts x e =
      let a = bind_some (inner 1 ts) (λ a. more_from inner (length a.2) (a.0 ∷ []) a.1 a.2) x e in
      list_is ts a.0 x a.1 a.2

  part_select_of : (p q r : Place) (us vs rest : Tokens) (text : List ℕ) (kind : Part) (a b : TreeExpr) (m k : ℕ) → IsPartText text kind → P 1 m us (sign q text ∷ vs) a → P 1 k vs (sign r (codes "]") ∷ rest) b
      → IsSelect P (max m k) (sign p (codes "[") ∷ us) rest (selected p (part_form kind a b))
  part_select_of p q r us vs rest text kind a b m k (range t e) x y = rw e (part m k p q r us vs a b (rw (← t) x) y refl refl refl)
  part_select_of p q r us vs rest text kind a b m k (tokens.up t e) x y = rw e (up m k p q r us vs a b (rw (← t) x) y refl refl refl)
  part_select_of p q r us vs rest text kind a b m k (tokens.down t e) x y = rw e (down m k p q r us vs a b (rw (← t) x) y refl refl refl)

  part_from_is : (p : Place) (ts : Tokens) (a : TreeExpr × ℕ × Tokens) (x : Select × ℕ × Tokens) → inner 1 ts ≡ Some a → part_from inner p a.0 a.1 a.2 ≡ Some x → IsSelect P x.1 (sign p (codes "[") ∷ ts) x.2 x.0
  unfolding part_from
  part_from_is p ts a x e h =
      let o = bind_some (part_at a.2) (λ part. inner 1 part.1 >>= λ b. after (codes "]") b.2 >>= λ rest. Some (selected p (part_form part.0 a.0 b.0), max a.1 b.1, rest)) x h in
      let b = bind_some (inner 1 o.0.1) (λ b. after (codes "]") b.2 >>= λ rest. Some (selected p (part_form o.0.0 a.0 b.0), max a.1 b.1, rest)) x o.2 in
      let r = bind_some (after (codes "]") b.0.2) (λ rest. Some (selected p (part_form o.0.0 a.0 b.0.0), max a.1 b.0.1, rest)) x b.2 in
      let same : (selected p (part_form o.0.0 a.0 b.0.0), max a.1 b.0.1, r.0) ≡ x = some_is _ x r.2 in
      let mid = part_is a.2 o.0 o.1 in
      let first : P 1 a.1 ts (sign mid.at mid.text ∷ o.0.1) a.0 = subst (λ us. P 1 a.1 ts us a.0) mid.spelled (sound 1 ts a e).is in
      let second = before_sign o.0.1 b.0 (codes "]") r.0 b.1 r.1 in
      subst (λ (y : Select × ℕ × Tokens). IsSelect P y.1 (sign p (codes "[") ∷ ts) y.2 y.0) same
      (part_select_of p mid.at second.0 ts o.0.1 r.0 mid.text o.0.0 a.0 b.0.0 a.1 b.0.1 (part_text mid.text o.0.0 mid.meant) first second.1)

  select_is : (p : Place) (ts : Tokens) (x : Select × ℕ × Tokens) → select_from inner p ts ≡ Some x → IsSelect P x.1 (sign p (codes "[") ∷ ts) x.2 x.0
  unfolding select_from
  select_is p ts x e =
      let a = bind_some (inner 1 ts) (λ a. found_or (after (codes "]") a.2) (λ rest. Some (selected p (select.One a.0), a.1, rest)) (part_from inner p a.0 a.1 a.2)) x e in
      elim (found_is (after (codes "]") a.0.2) (λ rest. Some (selected p (select.One a.0.0), a.0.1, rest)) (part_from inner p a.0.0 a.0.1 a.0.2) x a.2) [
        | inl r ↦
            let same : (selected p (select.One a.0.0), a.0.1, r.0) ≡ x = some_is _ x r.2 in
            let first = before_sign ts a.0 (codes "]") r.0 a.1 r.1 in
            subst (λ (y : Select × ℕ × Tokens). IsSelect P y.1 (sign p (codes "[") ∷ ts) y.2 y.0) same (bit p first.0 ts a.0.0 first.1 refl refl)
        | inr r ↦ part_from_is p ts a.0 x a.1 r.1
      ]

  second_is : (a : Select) (n : ℕ) (ts us : Tokens) (x : List Select × ℕ × Tokens) → second_select inner a n us ≡ Some x → IsSelect P n ts us a → IsSelects P x.1 ts x.2 x.0
  unfolding second_select
  second_is a n ts us x e is =
      elim (found_is (opening_at us) (λ o. select_from inner o.0 o.1 >>= λ b. Some (a ∷ b.0 ∷ [], max n b.1, b.2)) (Some (a ∷ [], n, us)) x e) [
        | inl o ↦
            let b = bind_some (select_from inner o.0.0 o.0.1) (λ b. Some (a ∷ b.0 ∷ [], max n b.1, b.2)) x o.2 in
            let same : (a ∷ b.0.0 ∷ [], max n b.0.1, b.0.2) ≡ x = some_is _ x b.2 in
            let second : IsSelect P b.0.1 us b.0.2 b.0.0 = rw (opening_is us o.0 o.1) (select_is o.0.0 o.0.1 b.0 b.1) in
            subst (λ (y : List Select × ℕ × Tokens). IsSelects P y.1 ts y.2 y.0) same (double n b.0.1 us a b.0.0 is second refl refl)
        | inr o ↦
            let same : (a ∷ [], n, us) ≡ x = some_is _ x o.1 in
            subst (λ (y : List Select × ℕ × Tokens). IsSelects P y.1 ts y.2 y.0) same (single a is refl)
      ]

  pub selects_is : (ts : Tokens) (x : List Select × ℕ × Tokens) → selects_at inner ts ≡ Some x → IsSelects P x.1 ts x.2 x.0
  unfolding selects_at
  selects_is ts x e =
      elim (found_is (opening_at ts) (λ o. select_from inner o.0 o.1 >>= λ a. second_select inner a.0 a.1 a.2) (Some ([], 0, ts)) x e) [
        | inl o ↦
            let a = bind_some (select_from inner o.0.0 o.0.1) (λ a. second_select inner a.0 a.1 a.2) x o.2 in
            let first : IsSelect P a.0.1 ts a.0.2 a.0.0 = rw (opening_is ts o.0 o.1) (select_is o.0.0 o.0.1 a.0 a.1) in
            second_is a.0.0 a.0.1 ts a.0.2 x a.2 first
        | inr o ↦
            let same : ([], 0, ts) ≡ x = some_is ([], 0, ts) x o.1 in
            subst (λ (y : List Select × ℕ × Tokens). IsSelects P y.1 ts y.2 y.0) same (none refl refl refl)
      ]

  pub closed_is : (ts : Tokens) (x : TreeExpr × ℕ × Tokens) → closed_at inner ts ≡ Some x → (q : Place) × P 1 x.1 ts (sign q (codes ")") ∷ x.2) x.0
  unfolding closed_at
  closed_is ts x e =
      let a = bind_some (inner 1 ts) (λ a. after (codes ")") a.2 >>= λ rest. Some (a.0, a.1, rest)) x e in
      let b = bind_some (after (codes ")") a.0.2) (λ rest. Some (a.0.0, a.0.1, rest)) x a.2 in
      let same : (a.0.0, a.0.1, b.0) ≡ x = some_is _ x b.2 in
      subst (λ (y : TreeExpr × ℕ × Tokens). (q : Place) × P 1 y.1 ts (sign q (codes ")") ∷ y.2) y.0) same (before_sign ts a.0 (codes ")") b.0 a.1 b.1)

  pub argument_is : (ts : Tokens) (x : TreeExpr × ℕ × Tokens) → argument_at inner ts ≡ Some x → (p q : Place) × (us : Tokens) × (ts ≡ sign p (codes "(") ∷ us) × P 1 x.1 us (sign q (codes ")") ∷ x.2) x.0
  unfolding argument_at
  argument_is ts x e =
      let a = bind_some (after (codes "(") ts) (λ us. closed_at inner us) x e in
      let p = after_is (codes "(") ts a.0 a.1 in
      let c = closed_is a.0 x a.2 in
      (p.0, c.0, a.0, p.1, c.1)

  module _ (d : ℕ) where
    -- an operand that was read, and is not too deep
    record Good (ts : Tokens) (x : TreeExpr × ℕ × Tokens) : Type 0 where
      small : x.1 ≤ d + 1
      is : IsOperand P x.1 ts x.2 x.0

    made : (tree : TreeExpr) (n : ℕ) (rest ts : Tokens) (x : TreeExpr × ℕ × Tokens) → node d tree n rest ≡ Some x → IsOperand P n ts rest tree → Good ts x
    made tree n rest ts x e is =
        let g = node_is d tree n rest x e in
        subst (λ (y : TreeExpr × ℕ × Tokens). Good ts y) g.1 (record { small = g.0; is = is })

    named_is : (p : Place) (text : List ℕ) (ts : Tokens) (x : TreeExpr × ℕ × Tokens) → named_at inner d p text ts ≡ Some x → Good (name p text ∷ ts) x
    unfolding named_at
    named_is p text ts x e =
        let s = bind_some (selects_at inner ts) (λ s. node d (plain p (primary.Name (record { text = text; place = p }) s.0)) (s.1 + 1) s.2) x e in
        made _ _ _ (name p text ∷ ts) x s.2 (named s.0.1 p text ts s.0.0 (selects_is ts s.0 s.1) refl refl refl)

    paren_is : (p : Place) (ts : Tokens) (x : TreeExpr × ℕ × Tokens) → paren_at inner d p ts ≡ Some x → Good (sign p (codes "(") ∷ ts) x
    unfolding paren_at
    paren_is p ts x e =
        let a = bind_some (closed_at inner ts) (λ a. node d (plain p (primary.Paren a.0)) (a.1 + 1) a.2) x e in
        let c = closed_is ts a.0 a.1 in
        made _ _ _ (sign p (codes "(") ∷ ts) x a.2 (paren a.0.1 p c.0 ts a.0.0 c.1 refl refl refl)

    feof_is : (p : Place) (ts : Tokens) (x : TreeExpr × ℕ × Tokens) → feof_at inner d p ts ≡ Some x → Good (system p (codes "$feof") ∷ ts) x
    unfolding feof_at
    feof_is p ts x e =
        let a = bind_some (argument_at inner ts) (λ a. node d (plain p (primary.Feof a.0)) (a.1 + 1) a.2) x e in
        let c = argument_is ts a.0 a.1 in
        made _ _ _ (system p (codes "$feof") ∷ ts) x a.2 (feof a.0.1 p c.0 c.1 c.2 a.0.0 c.4 (ap (λ (us : Tokens). system p (codes "$feof") ∷ us) c.3) refl refl)

    signed_is : (p : Place) (ts : Tokens) (x : TreeExpr × ℕ × Tokens) → sign_call_at inner d p call.Signed ts ≡ Some x → Good (system p (codes "$signed") ∷ ts) x
    unfolding sign_call_at
    signed_is p ts x e =
        let a = bind_some (argument_at inner ts) (λ a. node d (plain p (primary.Sign call.Signed a.0)) (a.1 + 1) a.2) x e in
        let c = argument_is ts a.0 a.1 in
        made _ _ _ (system p (codes "$signed") ∷ ts) x a.2 (signed a.0.1 p c.0 c.1 c.2 a.0.0 c.4 (ap (λ (us : Tokens). system p (codes "$signed") ∷ us) c.3) refl refl)

    unsigned_is : (p : Place) (ts : Tokens) (x : TreeExpr × ℕ × Tokens) → sign_call_at inner d p call.Unsigned ts ≡ Some x → Good (system p (codes "$unsigned") ∷ ts) x
    unfolding sign_call_at
    unsigned_is p ts x e =
        let a = bind_some (argument_at inner ts) (λ a. node d (plain p (primary.Sign call.Unsigned a.0)) (a.1 + 1) a.2) x e in
        let c = argument_is ts a.0 a.1 in
        made _ _ _ (system p (codes "$unsigned") ∷ ts) x a.2 (unsigned a.0.1 p c.0 c.1 c.2 a.0.0 c.4 (ap (λ (us : Tokens). system p (codes "$unsigned") ∷ us) c.3) refl refl)

    system_is : (p : Place) (text : List ℕ) (ts : Tokens) (x : TreeExpr × ℕ × Tokens) → system_at inner d p text ts ≡ Some x → Good (system p text ∷ ts) x
    unfolding system_at
    system_is p text ts x e =
        let R : List ℕ → Type 0 = λ t. Good (system p t ∷ ts) x in
        chosen text (codes "$time") _ _ x R e (λ a. made _ _ _ (system p (codes "$time") ∷ ts) x a (time p refl refl refl)) (λ e.
        chosen text (codes "$feof") _ _ x R e (λ a. feof_is p ts x a) (λ e.
        chosen text (codes "$signed") _ _ x R e (λ a. signed_is p ts x a) (λ e.
        chosen text (codes "$unsigned") _ _ x R e (λ a. unsigned_is p ts x a) (λ e. absurd cc))))

    repeat_is : (p : Place) (ts us : Tokens) (count : TreeExpr × ℕ × Tokens) (x : TreeExpr × ℕ × Tokens) → inner 1 ts ≡ Some count → after (codes "{") count.2 ≡ Some us → repeat_from inner d p count.0 count.1 us ≡ Some x
        → Good (sign p (codes "{") ∷ ts) x
    unfolding repeat_from
    repeat_is p ts us count x e opened h =
        let l = bind_some (exprs_at inner us) (λ l. after (codes "}") l.2 >>= λ vs. after (codes "}") vs >>= λ rest. node d (plain p (primary.Repeat count.0 l.0)) (max count.1 l.1 + 1) rest) x h in
        let v = bind_some (after (codes "}") l.0.2) (λ vs. after (codes "}") vs >>= λ rest. node d (plain p (primary.Repeat count.0 l.0.0)) (max count.1 l.0.1 + 1) rest) x l.2 in
        let r = bind_some (after (codes "}") v.0) (λ rest. node d (plain p (primary.Repeat count.0 l.0.0)) (max count.1 l.0.1 + 1) rest) x v.2 in
        let first = before_sign ts count (codes "{") us e opened in
        let a = after_is (codes "}") l.0.2 v.0 v.1 in
        let b = after_is (codes "}") v.0 r.0 r.1 in
        let following : l.0.2 ≡ sign a.0 (codes "}") ∷ sign b.0 (codes "}") ∷ r.0 = a.1 ∙ ap (λ (ws : Tokens). sign a.0 (codes "}") ∷ ws) b.1 in
        let list : IsExprs P l.0.1 us (sign a.0 (codes "}") ∷ sign b.0 (codes "}") ∷ r.0) l.0.0 = subst (λ ws. IsExprs P l.0.1 us ws l.0.0) following (exprs_is us l.0 l.1) in
        made _ _ _ (sign p (codes "{") ∷ ts) x r.2 (repeat count.1 l.0.1 p first.0 a.0 b.0 ts us count.0 l.0.0 first.1 list refl refl refl)

    concat_is : (p : Place) (ts : Tokens) (a : TreeExpr × ℕ × Tokens) (x : TreeExpr × ℕ × Tokens) → inner 1 ts ≡ Some a → concat_from inner d p a.0 a.1 a.2 ≡ Some x → Good (sign p (codes "{") ∷ ts) x
    unfolding concat_from
    concat_is p ts a x e h =
        let l = bind_some (more_from inner (length a.2) (a.0 ∷ []) a.1 a.2) (λ l. after (codes "}") l.2 >>= λ rest. node d (plain p (primary.Concat l.0)) (l.1 + 1) rest) x h in
        let r = bind_some (after (codes "}") l.0.2) (λ rest. node d (plain p (primary.Concat l.0.0)) (l.0.1 + 1) rest) x l.2 in
        let q = after_is (codes "}") l.0.2 r.0 r.1 in
        let list : IsExprs P l.0.1 ts (sign q.0 (codes "}") ∷ r.0) l.0.0 = subst (λ ws. IsExprs P l.0.1 ts ws l.0.0) q.1 (list_is ts a l.0 e l.1) in
        made _ _ _ (sign p (codes "{") ∷ ts) x r.2 (concat l.0.1 p q.0 ts l.0.0 list refl refl refl)

    braces_is : (p : Place) (ts : Tokens) (x : TreeExpr × ℕ × Tokens) → braces_at inner d p ts ≡ Some x → Good (sign p (codes "{") ∷ ts) x
    unfolding braces_at
    braces_is p ts x e =
        let a = bind_some (inner 1 ts) (λ a. found_or (after (codes "{") a.2) (λ us. repeat_from inner d p a.0 a.1 us) (concat_from inner d p a.0 a.1 a.2)) x e in
        elim (found_is (after (codes "{") a.0.2) (λ us. repeat_from inner d p a.0.0 a.0.1 us) (concat_from inner d p a.0.0 a.0.1 a.0.2) x a.2) [
          | inl o ↦ repeat_is p ts o.0 a.0 x a.1 o.1 o.2
          | inr o ↦ concat_is p ts a.0 x a.1 o.1
        ]

    prefixed_is : (p : Place) (text : List ℕ) (op : UnaryOp) (ts : Tokens) (x : TreeExpr × ℕ × Tokens) → unary_of text ≡ Some op → prefixed_at inner d p op ts ≡ Some x → Good (sign p text ∷ ts) x
    unfolding prefixed_at
    prefixed_is p text op ts x is e =
        let a = bind_some (inner 12 ts) (λ a. node d (one p op a.0) (a.1 + 1) a.2) x e in
        made _ _ _ (sign p text ∷ ts) x a.2 (prefix a.0.1 p text op ts a.0.0 (sound 12 ts a.0 a.1).is is refl refl refl)

    opened_is : (p : Place) (text : List ℕ) (ts : Tokens) (x : TreeExpr × ℕ × Tokens) → opened_at inner d p text ts ≡ Some x → Good (sign p text ∷ ts) x
    unfolding opened_at
    opened_is p text ts x e =
        let R : List ℕ → Type 0 = λ t. Good (sign p t ∷ ts) x in
        chosen text (codes "(") _ _ x R e (λ a. paren_is p ts x a) (λ e.
        chosen text (codes "{") _ _ x R e (λ a. braces_is p ts x a) (λ e. absurd cc))

    signs_is : (p : Place) (text : List ℕ) (ts : Tokens) (x : TreeExpr × ℕ × Tokens) → signed_at inner d p text ts ≡ Some x → Good (sign p text ∷ ts) x
    unfolding signed_at
    signs_is p text ts x e =
        elim (found_is (unary_of text) (λ op. prefixed_at inner d p op ts) (opened_at inner d p text ts) x e) [
          | inl o ↦ prefixed_is p text o.0 ts x o.1 o.2
          | inr o ↦ opened_is p text ts x o.1
        ]

    by_kind : (k : TokenKind) (p : Place) (ts : Tokens) (x : TreeExpr × ℕ × Tokens) → operand_by inner d k p ts ≡ Some x → Good (record { kind = k; place = p } ∷ ts) x
    by_kind (token.Number value) p ts x e = made _ _ _ (number p value ∷ ts) x e (constant p value refl refl refl)
    by_kind (token.Name text) p ts x e = named_is p text ts x e
    by_kind (token.System text) p ts x e = system_is p text ts x e
    by_kind (token.Sign text) p ts x e = signs_is p text ts x e
    by_kind (token.Word text) p ts x e = absurd cc
    by_kind (token.Quoted text) p ts x e = absurd cc

    operand_is : (ts : Tokens) (x : TreeExpr × ℕ × Tokens) → operand_at inner d ts ≡ Some x → Good ts x
    unfolding operand_at
    operand_is [] x e = absurd cc
    operand_is (t ∷ ts) x e = by_kind t.kind t.place ts x e

    -- ---- operators

    -- an expression of level j that was read, and that no operator of level m follows
    record GoodExpr (j m : ℕ) (ts : Tokens) (x : TreeExpr × ℕ × Tokens) : Type 0 where
      small : x.1 ≤ d + 1
      is : IsExprOver P j x.1 ts x.2 x.0
      stops : operator_at m x.2 ≡ None

    looser : (k m n : ℕ) (ts rest : Tokens) (tree : TreeExpr) → IsExprOver P k n ts rest tree → m ≤ k → IsExprOver P m n ts rest tree
    looser k m n ts rest tree (operand is) h = operand is
    looser k m n ts rest tree (binary a b q text op us left right x y e le deep t) h = binary a b q text op us left right x y e (omega arith) deep t
    looser k m n ts rest tree (choice a b c q r us vs cond x y f g i le deep t) h = choice a b c q r us vs cond x y f g i (omega arith) deep t

    record Linked (op : BinaryOp) (ts : Tokens) (y : TreeExpr × ℕ × Tokens) : Type 0 where
      small : y.1 ≤ d + 1
      is : IsExprOver P (level_of op) y.1 ts y.2 y.0
      stops : operator_at (level_of op + 1) y.2 ≡ None

    link_is : (op : BinaryOp) (left : TreeExpr) (n : ℕ) (ts us vs : Tokens) (q : Place) (text : List ℕ) (y : TreeExpr × ℕ × Tokens) → link_at inner d op left n vs ≡ Some y
        → IsExprOver P (level_of op) n ts us left → us ≡ sign q text ∷ vs → binary_of text ≡ Some op → Linked op ts y
    unfolding link_at
    link_is op left n ts us vs q text y e is spelled meant =
        let x = bind_some (inner (level_of op + 1) vs) (λ x. node d (two op left x.0) (max n x.1 + 1) x.2) y e in
        let right = sound (level_of op + 1) vs x.0 x.1 in
        let g = node_is d (two op left x.0.0) (max n x.0.1 + 1) x.0.2 y x.2 in
        let here : IsExprOver P (level_of op) n ts (sign q text ∷ vs) left = subst (λ ws. IsExprOver P (level_of op) n ts ws left) spelled is in
        subst (λ (z : TreeExpr × ℕ × Tokens). Linked op ts z) g.1
        (record { small = g.0; is = binary n x.0.1 q text op vs left x.0.0 here right.is meant (omega arith) refl refl; stops = right.stops })

    chain_is : (f m k : ℕ) (left : TreeExpr) (n : ℕ) (ts us : Tokens) (x : TreeExpr × ℕ × Tokens) → chain_at inner d f m left n us ≡ Some x → IsExprOver P k n ts us left → max m 2 ≤ k → n ≤ d + 1 → operator_at (k + 1) us ≡ None
        → GoodExpr (max m 2) m ts x
    unfolding chain_at
    chain_is zero m k left n ts us x e is le small none_above = absurd cc
    chain_is (suc f) m k left n ts us x e is le small none_above =
        elim (found_is (operator_at m us) (λ o. link_at inner d o.0 left n o.1 >>= λ y. chain_at inner d f m y.0 y.1 y.2) (Some (left, n, us)) x e) [
          | inr o ↦
              let same : (left, n, us) ≡ x = some_is (left, n, us) x o.1 in
              subst (λ (y : TreeExpr × ℕ × Tokens). GoodExpr (max m 2) m ts y) same (record { small = small; is = looser k (max m 2) n ts us left is le; stops = o.0 })
          | inl o ↦
              let y = bind_some (link_at inner d o.0.0 left n o.0.1) (λ y. chain_at inner d f m y.0 y.1 y.2) x o.2 in
              let found = operator_is m us o.0 o.1 in
              let at_most = operator_bound m k us o.0 o.1 none_above in
              let step = link_is o.0.0 left n ts us o.0.1 found.at found.text y.0 y.1 (looser k (level_of o.0.0) n ts us left is at_most) found.spelled found.meant in
              let low = level_low o.0.0 in
              let tight = found.tight in
              chain_is f m (level_of o.0.0) y.0.0 y.0.1 ts y.0.2 x y.2 step.is (omega arith) step.small step.stops
        ]

    chained_is : (m : ℕ) (ts : Tokens) (x : TreeExpr × ℕ × Tokens) → chained_at inner d m ts ≡ Some x → GoodExpr (max m 2) m ts x
    unfolding chained_at
    chained_is m ts x e =
        let a = bind_some (operand_at inner d ts) (λ x. chain_at inner d (d + 1) m x.0 x.1 x.2) x e in
        let good = operand_is ts a.0 a.1 in
        chain_is (d + 1) m (m + 12) a.0.0 a.0.1 ts a.0.2 x a.2 (operand good.is) (omega arith) good.small (operator_looser 12 (m + 12 + 1) a.0.2 (operator_top a.0.2) (omega arith))

    arms_is : (cond : TreeExpr) (n : ℕ) (q : Place) (ts us : Tokens) (x : TreeExpr × ℕ × Tokens) → arms_at inner d cond n us ≡ Some x → IsExprOver P 2 n ts (sign q (codes "?") ∷ us) cond → GoodExpr 1 1 ts x
    unfolding arms_at
    arms_is cond n q ts us x e is =
        let a = bind_some (inner 1 us) (λ a. after (codes ":") a.2 >>= λ vs. inner 1 vs >>= λ b. node d (pick cond a.0 b.0) (max n (max a.1 b.1) + 1) b.2) x e in
        let v = bind_some (after (codes ":") a.0.2) (λ vs. inner 1 vs >>= λ b. node d (pick cond a.0.0 b.0) (max n (max a.0.1 b.1) + 1) b.2) x a.2 in
        let b = bind_some (inner 1 v.0) (λ b. node d (pick cond a.0.0 b.0) (max n (max a.0.1 b.1) + 1) b.2) x v.2 in
        let g = node_is d (pick cond a.0.0 b.0.0) (max n (max a.0.1 b.0.1) + 1) b.0.2 x b.2 in
        let first = before_sign us a.0 (codes ":") v.0 a.1 v.1 in
        let second = sound 1 v.0 b.0 b.1 in
        subst (λ (y : TreeExpr × ℕ × Tokens). GoodExpr 1 1 ts y) g.1
        (record { small = g.0; is = choice n a.0.1 b.0.1 q first.0 us v.0 cond a.0.0 b.0.0 is first.1 second.is (omega arith) refl refl; stops = second.stops })

    pick_is : (ts : Tokens) (y x : TreeExpr × ℕ × Tokens) → pick_at inner d y.0 y.1 y.2 ≡ Some x → GoodExpr 2 1 ts y → GoodExpr 1 1 ts x
    unfolding pick_at
    pick_is ts y x e good =
        elim (found_is (after (codes "?") y.2) (λ us. arms_at inner d y.0 y.1 us) (Some y) x e) [
          | inr o ↦
              let same : y ≡ x = some_is y x o.1 in
              subst (λ (z : TreeExpr × ℕ × Tokens). GoodExpr 1 1 ts z) same (record { small = good.small; is = looser 2 1 y.1 ts y.2 y.0 good.is (omega arith); stops = good.stops })
          | inl o ↦
              let q = after_is (codes "?") y.2 o.0 o.1 in
              arms_is y.0 y.1 q.0 ts o.0 x o.2 (subst (λ us. IsExprOver P 2 y.1 ts us y.0) q.1 good.is)
        ]

    picked_is : (m : ℕ) (ts : Tokens) (y x : TreeExpr × ℕ × Tokens) → cond (eqb m 1) (pick_at inner d y.0 y.1 y.2) (Some y) ≡ Some x → GoodExpr (max m 2) m ts y → GoodExpr m m ts x
    picked_is m ts y x e good =
        elim (cases_Bool (eqb m 1)) [
          | inl whole ↦
              let first : m ≡ 1 = eqb-true m 1 whole in
              let read : pick_at inner d y.0 y.1 y.2 ≡ Some x = rw whole at e in
              let level : max m 2 ≡ 2 = omega arith in
              let cond_good : GoodExpr 2 1 ts y = record { small = good.small; is = subst (λ k. IsExprOver P k y.1 ts y.2 y.0) level good.is; stops = subst (λ k. operator_at k y.2 ≡ None) first good.stops } in
              subst (λ (k : ℕ). GoodExpr k k ts x) (sym first) (pick_is ts y x read cond_good)
          | inr other ↦
              let same : y ≡ x = some_is y x (rw other at e) in
              subst (λ (z : TreeExpr × ℕ × Tokens). GoodExpr m m ts z) same
              (record { small = good.small; is = looser (max m 2) m y.1 ts y.2 y.0 good.is (omega arith); stops = good.stops })
        ]

    over_is : (m : ℕ) (ts : Tokens) (x : TreeExpr × ℕ × Tokens) → expr_over inner d m ts ≡ Some x → GoodExpr m m ts x
    unfolding expr_over
    over_is m ts x e =
        let y = bind_some (chained_at inner d m ts) (λ y. cond (eqb m 1) (pick_at inner d y.0 y.1 y.2) (Some y)) x e in
        picked_is m ts y.0 x y.2 (chained_is m ts y.0 y.1)

pub expr_is : (d m : ℕ) (ts : Tokens) (x : TreeExpr × ℕ × Tokens) → expr_at d m ts ≡ Some x → Reads (IsExpr d) m ts x
unfolding expr_at IsExpr
expr_is zero m ts x e = absurd cc
expr_is (suc d) m ts x e =
    let good = over_is (IsExpr d) (expr_at d) (expr_is d) d m ts x e in
    record { is = (good.small, good.is); stops = good.stops }
