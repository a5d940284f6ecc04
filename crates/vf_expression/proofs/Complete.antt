-- What the grammar says is read, whatever follows it.
use Rattle.std.proofs.Common.{◌≡◌, ℕ, zero, suc, ◌+◌, ◌<◌, ◌≤◌, max, false, cond, eqb, ◌⊎◌, List, [], ◌∷◌, ◌++◌, length, Some, None, refl, ap, subst, ◌∙◌, inl, inr, append_assoc, codes, arith}
use Rattle.std.specs.Str.{bytes_eq}
use Rattle.std.proofs.lemmas.Bool.{cases_Bool, le-leb, eqb-true}
use Rattle.vf_base.specs.declared.names.Place.{Place}
use Rattle.vf_fours.specs.declared.BinaryOp.{BinaryOp}
use Rattle.vf_tree.specs.declared.expressions.TreeExpr.{TreeExpr}
use Rattle.vf_tree.specs.declared.expressions.Select.{Select}
use Rattle.vf_expression.specs.declared.read.Part.TheVariants as parts
use Rattle.vf_expression.specs.Operators.{unary_of, binary_of, level_of}
use Rattle.vf_expression.specs.Grammar.{Tokens, sign, two, pick, Rule, IsExprs, last, more, IsSelect, bit, part, up, down, IsSelects, none, single, double, IsOperand, constant, named, paren, concat, repeat, time, feof, signed, unsigned, prefix, IsExprOver, operand, binary, choice, IsExpr}
use Rattle.vf_expression.specs.Reading.{Ends, ReadingsAreExpressions, Read, ◌>>=◌, after, operator_at, opening_at, part_of, part_at, node, more_from, exprs_at, part_from, select_from, second_select, selects_at, closed_at, argument_at, named_at, paren_at, feof_at, sign_call_at, system_at, repeat_from, concat_from, braces_at, prefixed_at, opened_at, signed_at, operand_at, link_at, chain_at, arms_at, pick_at, chained_at, expr_over, expr_at}
use Rattle.vf_expression.proofs.Shorter.{expr_shorter}
use Rattle.vf_expression.proofs.Sound.{expr_is}
use Rattle.vf_expression.proofs.TokenLemmas.{after_again, after_other, level_low, operator_again, operator_not, operator_other, operator_looser, operator_top, opening_other, operator_differs}

pub ends_at : (q : Place) (text : List ℕ) (rest : Tokens) → binary_of text ≡ None → bytes_eq text (codes "[") ≡ false → bytes_eq text (codes "?") ≡ false → Ends 1 (sign q text ∷ rest)
ends_at q text rest a b c = record { low = omega arith; op = operator_other 1 q text rest a; select = opening_other q text rest b; pick = λ _. after_other (codes "?") text q rest c }

pub ends_close : (q : Place) (rest : Tokens) → Ends 1 (sign q (codes ")") ∷ rest)
unfolding binary_of
ends_close q rest = ends_at q (codes ")") rest refl refl refl

pub ends_bracket : (q : Place) (rest : Tokens) → Ends 1 (sign q (codes "]") ∷ rest)
unfolding binary_of
ends_bracket q rest = ends_at q (codes "]") rest refl refl refl

pub ends_brace : (q : Place) (rest : Tokens) → Ends 1 (sign q (codes "}") ∷ rest)
unfolding binary_of
ends_brace q rest = ends_at q (codes "}") rest refl refl refl

pub ends_open_brace : (q : Place) (rest : Tokens) → Ends 1 (sign q (codes "{") ∷ rest)
unfolding binary_of
ends_open_brace q rest = ends_at q (codes "{") rest refl refl refl

pub ends_comma : (q : Place) (rest : Tokens) → Ends 1 (sign q (codes ",") ∷ rest)
unfolding binary_of
ends_comma q rest = ends_at q (codes ",") rest refl refl refl

pub ends_colon : (q : Place) (rest : Tokens) → Ends 1 (sign q (codes ":") ∷ rest)
unfolding binary_of
ends_colon q rest = ends_at q (codes ":") rest refl refl refl

pub ends_up : (q : Place) (rest : Tokens) → Ends 1 (sign q (codes "+:") ∷ rest)
unfolding binary_of
ends_up q rest = ends_at q (codes "+:") rest refl refl refl

pub ends_down : (q : Place) (rest : Tokens) → Ends 1 (sign q (codes "-:") ∷ rest)
unfolding binary_of
ends_down q rest = ends_at q (codes "-:") rest refl refl refl

question_other : (k : ℕ) (q : Place) (rest : Tokens) → operator_at k (sign q (codes "?") ∷ rest) ≡ None
unfolding binary_of
question_other k q rest = operator_other k q (codes "?") rest refl

operator_no_select : (q : Place) (text : List ℕ) (op : BinaryOp) (rest : Tokens) → binary_of text ≡ Some op → opening_at (sign q text ∷ rest) ≡ None
unfolding binary_of
operator_no_select q text op rest is = opening_other q text rest (operator_differs text (codes "[") op is refl)

node_again : (d : ℕ) (tree : TreeExpr) (n : ℕ) (rest : Tokens) → n ≤ d + 1 → node d tree n rest ≡ Some (tree, n, rest)
unfolding node
node_again d tree n rest h = rw (le-leb n (d + 1) h) refl

colon_part : part_of (codes ":") ≡ Some parts.Range
unfolding part_of
colon_part = refl

up_part : part_of (codes "+:") ≡ Some parts.Up
unfolding part_of
up_part = refl

down_part : part_of (codes "-:") ≡ Some parts.Down
unfolding part_of
down_part = refl

module _ (P : Rule) (inner : ℕ → Tokens → Read TreeExpr) (d : ℕ)
    (shorter : (k n : ℕ) (ts rest : Tokens) (tree : TreeExpr) → P k n ts rest tree → length rest < length ts)
    (complete : (k n : ℕ) (ts rest : Tokens) (tree : TreeExpr) → P k n ts rest tree → n ≤ d → Ends k rest → inner k ts ≡ Some (tree, n, rest)) where
  -- ---- lists and selects

  no_comma : (f : ℕ) (es : List TreeExpr) (m : ℕ) (ts : Tokens) → after (codes ",") ts ≡ None → more_from inner f es m ts ≡ Some (es, m, ts)
  unfolding more_from
  no_comma zero es m ts e = refl
  no_comma (suc f) es m ts e = rw e refl

  -- after any expressions before
  more_again : (k : ℕ) (ts rest : Tokens) (es : List TreeExpr) → IsExprs P k ts rest es → (f : ℕ) (before : List TreeExpr) (m : ℕ) → length ts ≤ f → k ≤ d → Ends 1 rest → after (codes ",") rest ≡ None
      → (inner 1 ts >>= λ x. more_from inner f (before ++ x.0 ∷ []) (max m x.1) x.2) ≡ Some (before ++ es, max m k, rest)
  unfolding more_from
  more_again k ts rest _ (last e is) f before m fits small ends no_more = rw (complete 1 k ts rest e is small ends) (no_comma f (before ++ e ∷ []) (max m k) rest no_more)
  more_again k ts rest _ (more a b q us e es is others deep) zero before m fits small ends no_more = absurd (omega (arith, shorter 1 a ts (sign q (codes ",") ∷ us) e is))
  more_again k ts rest _ (more a b q us e es is others deep) (suc f) before m fits small ends no_more =
      let long = shorter 1 a ts (sign q (codes ",") ∷ us) e is in
      let later = more_again b us rest es others f (before ++ e ∷ []) (max m a) (omega arith) (omega arith) ends no_more in
      let deepest : max (max m a) b ≡ max m k = omega arith in
      rw (complete 1 a ts (sign q (codes ",") ∷ us) e is (omega arith) (ends_comma q us), after_again (codes ",") q us)
      (later ∙ ap (λ (l : List TreeExpr). Some (l, max (max m a) b, rest)) (append_assoc before (e ∷ []) es) ∙ ap (λ (n : ℕ). Some (before ++ e ∷ es, n, rest)) deepest)

  -- the first expression, and the list from it on
  list_again : (k : ℕ) (ts rest : Tokens) (es : List TreeExpr) → IsExprs P k ts rest es → k ≤ d → Ends 1 rest → after (codes ",") rest ≡ None
      → (a : TreeExpr × ℕ × Tokens) × (inner 1 ts ≡ Some a) × (more_from inner (length a.2) (a.0 ∷ []) a.1 a.2 ≡ Some (es, k, rest)) × ((a.2 ≡ rest) ⊎ ((q : Place) × (us : Tokens) × (a.2 ≡ sign q (codes ",") ∷ us)))
  unfolding more_from
  list_again k ts rest _ (last e is) small ends no_more =
      ((e, k, rest), complete 1 k ts rest e is small ends, no_comma (length rest) (e ∷ []) k rest no_more, inl refl)
  list_again k ts rest _ (more a b q us e es is others deep) small ends no_more =
      let later = more_again b us rest es others (length us) (e ∷ []) a (omega arith) (omega arith) ends no_more in (
        (e, a, sign q (codes ",") ∷ us),
        complete 1 a ts (sign q (codes ",") ∷ us) e is (omega arith) (ends_comma q us),
        rw (after_again (codes ",") q us, deep) later,
        inr (q, us, refl),
      )

  pub exprs_again : (k : ℕ) (ts rest : Tokens) (es : List TreeExpr) → IsExprs P k ts rest es → k ≤ d → Ends 1 rest → after (codes ",") rest ≡ None → exprs_at inner ts ≡ Some (es, k, rest)
  unfolding exprs_at
  exprs_again k ts rest es is small ends no_more =
      let l = list_again k ts rest es is small ends no_more in
      rw l.1 l.2

  select_again : (n : ℕ) (ts rest : Tokens) (tree : Select) → IsSelect P n ts rest tree → n ≤ d → (p : Place) × (us : Tokens) × (ts ≡ sign p (codes "[") ∷ us) × (select_from inner p us ≡ Some (tree, n, rest))
  unfolding select_from part_from part_at
  select_again n ts rest tree (bit p q us e is spelled t) small =
      (p, us, spelled, rw (t, complete 1 n us (sign q (codes "]") ∷ rest) e is small (ends_bracket q rest), after_again (codes "]") q rest) refl)
  select_again n ts rest tree (part m k p q r us vs a b x y spelled deep t) small = (
    p,
    us,
    spelled,
    rw (t, deep, complete 1 m us (sign q (codes ":") ∷ vs) a x (omega arith) (ends_colon q vs), after_other (codes "]") (codes ":") q vs refl, colon_part, complete 1 k vs (sign r (codes "]") ∷ rest) b y (omega arith) (ends_bracket r rest), after_again (codes "]") r rest) refl,
  )
  select_again n ts rest tree (up m k p q r us vs a b x y spelled deep t) small = (
    p,
    us,
    spelled,
    rw (t, deep, complete 1 m us (sign q (codes "+:") ∷ vs) a x (omega arith) (ends_up q vs), after_other (codes "]") (codes "+:") q vs refl, up_part, complete 1 k vs (sign r (codes "]") ∷ rest) b y (omega arith) (ends_bracket r rest), after_again (codes "]") r rest) refl,
  )
  select_again n ts rest tree (down m k p q r us vs a b x y spelled deep t) small = (
    p,
    us,
    spelled,
    rw (t, deep, complete 1 m us (sign q (codes "-:") ∷ vs) a x (omega arith) (ends_down q vs), after_other (codes "]") (codes "-:") q vs refl, down_part, complete 1 k vs (sign r (codes "]") ∷ rest) b y (omega arith) (ends_bracket r rest), after_again (codes "]") r rest) refl,
  )

  opening_again : (p : Place) (us : Tokens) → opening_at (sign p (codes "[") ∷ us) ≡ Some (p, us)
  unfolding opening_at
  opening_again p us = refl

  second_again : (m k : ℕ) (us rest : Tokens) (a b : Select) (q : Place) (vs : Tokens) → us ≡ sign q (codes "[") ∷ vs → select_from inner q vs ≡ Some (b, k, rest) → second_select inner a m us ≡ Some (a ∷ b ∷ [], max m k, rest)
  unfolding second_select
  second_again m k us rest a b q vs spelled read = rw (spelled, opening_again q vs, read) refl

  first_again : (m : ℕ) (ts us : Tokens) (a : Select) (x : List Select × ℕ × Tokens) (p : Place) (ws : Tokens) → ts ≡ sign p (codes "[") ∷ ws → select_from inner p ws ≡ Some (a, m, us) → second_select inner a m us ≡ Some x → selects_at inner ts ≡ Some x
  unfolding selects_at
  first_again m ts us a x p ws spelled read later = rw (spelled, opening_again p ws, read) later

  no_second : (m : ℕ) (a : Select) (rest : Tokens) → opening_at rest ≡ None → second_select inner a m rest ≡ Some (a ∷ [], m, rest)
  unfolding second_select
  no_second m a rest ends = rw ends refl

  no_first : (rest : Tokens) → opening_at rest ≡ None → selects_at inner rest ≡ Some ([], 0, rest)
  unfolding selects_at
  no_first rest ends = rw ends refl

  pub selects_again : (n : ℕ) (ts rest : Tokens) (trees : List Select) → IsSelects P n ts rest trees → n ≤ d → opening_at rest ≡ None → selects_at inner ts ≡ Some (trees, n, rest)
  selects_again n ts rest trees (none deep spelled t) small ends = rw (deep, spelled, t) (no_first rest ends)
  selects_again n ts rest trees (single a is t) small ends =
      let x = select_again n ts rest a is small in
      rw t (first_again n ts rest a (a ∷ [], n, rest) x.0 x.1 x.2 x.3 (no_second n a rest ends))
  selects_again n ts rest trees (double m k us a b is also deep t) small ends =
      let x = select_again m ts us a is (omega arith) in
      let y = select_again k us rest b also (omega arith) in
      rw (t, deep) (first_again m ts us a (a ∷ b ∷ [], max m k, rest) x.0 x.1 x.2 x.3 (second_again m k us rest a b y.0 y.1 y.2 y.3))

  pub closed_again : (m : ℕ) (us : Tokens) (q : Place) (rest : Tokens) (e : TreeExpr) → P 1 m us (sign q (codes ")") ∷ rest) e → m ≤ d → closed_at inner us ≡ Some (e, m, rest)
  unfolding closed_at
  closed_again m us q rest e is small = rw (complete 1 m us (sign q (codes ")") ∷ rest) e is small (ends_close q rest), after_again (codes ")") q rest) refl

  pub argument_again : (m : ℕ) (us : Tokens) (p q : Place) (rest : Tokens) (e : TreeExpr) → P 1 m us (sign q (codes ")") ∷ rest) e → m ≤ d → argument_at inner (sign p (codes "(") ∷ us) ≡ Some (e, m, rest)
  unfolding argument_at
  argument_again m us p q rest e is small = rw (after_again (codes "(") p us) (closed_again m us q rest e is small)

  no_brace : (ts rest : Tokens) (r : Place) → (ts ≡ sign r (codes "}") ∷ rest) ⊎ ((q : Place) × (us : Tokens) × (ts ≡ sign q (codes ",") ∷ us)) → after (codes "{") ts ≡ None
  no_brace ts rest r (inl e) = rw e (after_other (codes "{") (codes "}") r rest refl)
  no_brace ts rest r (inr e) = rw e.2 (after_other (codes "{") (codes ",") e.0 e.1 refl)

  -- ---- operands

  operand_again : (n : ℕ) (ts rest : Tokens) (tree : TreeExpr) → IsOperand P n ts rest tree → n ≤ d + 1 → opening_at rest ≡ None → operand_at inner d ts ≡ Some (tree, n, rest)
  unfolding operand_at named_at paren_at feof_at sign_call_at system_at repeat_from concat_from braces_at prefixed_at opened_at signed_at unary_of
  operand_again n ts rest tree (constant p value spelled deep t) small ends = rw (spelled, deep, t) (node_again d _ 1 rest (omega arith))
  operand_again n ts rest tree (named m p text us selects is spelled deep t) small ends =
      rw (spelled, deep, t, selects_again m us rest selects is (omega arith) ends) (node_again d _ (m + 1) rest (omega arith))
  operand_again n ts rest tree (paren m p q us e is spelled deep t) small ends =
      rw (spelled, deep, t, closed_again m us q rest e is (omega arith)) (node_again d _ (m + 1) rest (omega arith))
  operand_again n ts rest tree (concat m p q us es is spelled deep t) small ends =
      let l = list_again m us (sign q (codes "}") ∷ rest) es is (omega arith) (ends_brace q rest) (after_other (codes ",") (codes "}") q rest refl) in
      rw (spelled, deep, t, l.1, no_brace l.0.2 rest q l.3, l.2, after_again (codes "}") q rest) (node_again d _ (m + 1) rest (omega arith))
  operand_again n ts rest tree (repeat m k p q r s us vs count es is list spelled deep t) small ends =
      let parts : exprs_at inner vs ≡ Some (es, k, sign r (codes "}") ∷ sign s (codes "}") ∷ rest) = exprs_again k vs (sign r (codes "}") ∷ sign s (codes "}") ∷ rest) es list (omega arith) (ends_brace r (sign s (codes "}") ∷ rest)) (after_other (codes ",") (codes "}") r (sign s (codes "}") ∷ rest) refl) in
      rw (spelled, deep, t, complete 1 m us (sign q (codes "{") ∷ vs) count is (omega arith) (ends_open_brace q vs), after_again (codes "{") q vs, parts, after_again (codes "}") r (sign s (codes "}") ∷ rest), after_again (codes "}") s rest)
      (node_again d _ (max m k + 1) rest (omega arith))
  operand_again n ts rest tree (time p spelled deep t) small ends = rw (spelled, deep, t) (node_again d _ 1 rest (omega arith))
  operand_again n ts rest tree (feof m p q r us e is spelled deep t) small ends =
      rw (spelled, deep, t, argument_again m us q r rest e is (omega arith)) (node_again d _ (m + 1) rest (omega arith))
  operand_again n ts rest tree (signed m p q r us e is spelled deep t) small ends =
      rw (spelled, deep, t, argument_again m us q r rest e is (omega arith)) (node_again d _ (m + 1) rest (omega arith))
  operand_again n ts rest tree (unsigned m p q r us e is spelled deep t) small ends =
      rw (spelled, deep, t, argument_again m us q r rest e is (omega arith)) (node_again d _ (m + 1) rest (omega arith))
  operand_again n ts rest tree (prefix m p text op us e is meant spelled deep t) small ends =
      let read : inner 12 us ≡ Some (e, m, rest) = complete 12 m us rest e is (omega arith) (record { low = omega arith; op = operator_top rest; select = ends; pick = λ e. absurd (omega arith) }) in
      rw (spelled, deep, t, meant, read) (node_again d _ (m + 1) rest (omega arith))

  -- ---- operators

  operand_deep : (n : ℕ) (ts rest : Tokens) (tree : TreeExpr) → IsOperand P n ts rest tree → 1 ≤ n
  operand_deep n ts rest tree (constant p value spelled deep t) = omega arith
  operand_deep n ts rest tree (named m p text us selects is spelled deep t) = omega arith
  operand_deep n ts rest tree (paren m p q us e is spelled deep t) = omega arith
  operand_deep n ts rest tree (concat m p q us es is spelled deep t) = omega arith
  operand_deep n ts rest tree (repeat m k p q r s us vs count es is list spelled deep t) = omega arith
  operand_deep n ts rest tree (time p spelled deep t) = omega arith
  operand_deep n ts rest tree (feof m p q r us e is spelled deep t) = omega arith
  operand_deep n ts rest tree (signed m p q r us e is spelled deep t) = omega arith
  operand_deep n ts rest tree (unsigned m p q r us e is spelled deep t) = omega arith
  operand_deep n ts rest tree (prefix m p text op us e is meant spelled deep t) = omega arith

  -- what is read of the tokens up to the tree, and what is still read after it, with so many operators at most
  record Reaches (m n : ℕ) (ts rest : Tokens) (tree : TreeExpr) : Type 0 where
    left : ℕ
    enough : d + 2 ≤ left + n
    same : chained_at inner d m ts ≡ chain_at inner d left m tree n rest

  link_again : (op : BinaryOp) (left right : TreeExpr) (a b : ℕ) (us rest : Tokens) → P (level_of op + 1) b us rest right → max a b + 1 ≤ d + 1 → Ends (level_of op + 1) rest
      → link_at inner d op left a us ≡ Some (two op left right, max a b + 1, rest)
  unfolding link_at
  link_again op left right a b us rest is small ends =
      rw (complete (level_of op + 1) b us rest right is (omega arith) ends) (node_again d (two op left right) (max a b + 1) rest small)

  chain_goes : (f m : ℕ) (q : Place) (text : List ℕ) (op : BinaryOp) (left right : TreeExpr) (a b : ℕ) (us rest : Tokens) → P (level_of op + 1) b us rest right → binary_of text ≡ Some op → m ≤ level_of op → max a b + 1 ≤ d + 1 → Ends (level_of op + 1) rest
      → chain_at inner d (suc f) m left a (sign q text ∷ us) ≡ chain_at inner d f m (two op left right) (max a b + 1) rest
  unfolding chain_at
  chain_goes f m q text op left right a b us rest is meant tight small ends =
      rw (operator_again m q text op us meant tight, link_again op left right a b us rest is small ends) refl

  step : (m n : ℕ) (ts rest : Tokens) (tree : TreeExpr) (q : Place) (text : List ℕ) (op : BinaryOp) (left right : TreeExpr) (a b : ℕ) (us : Tokens) → P (level_of op + 1) b us rest right → binary_of text ≡ Some op → m ≤ level_of op → n ≡ max a b + 1 → n ≤ d + 1
      → Ends (level_of op + 1) rest → tree ≡ two op left right → (f : ℕ) → d + 2 ≤ f + a → chained_at inner d m ts ≡ chain_at inner d f m left a (sign q text ∷ us) → Reaches m n ts rest tree
  step m n ts rest tree q text op left right a b us is meant tight deep small ends t zero enough same = absurd (omega arith)
  step m n ts rest tree q text op left right a b us is meant tight deep small ends t (suc f) enough same =
      record {
        left = f;
        enough = omega arith;
        same = same ∙ chain_goes f m q text op left right a b us rest is meant tight (omega arith) ends ∙ rw (deep, t) refl;
      }

  -- a tree of operands and binary operators
  reaches : (k m n : ℕ) (ts rest : Tokens) (tree : TreeExpr) → IsExprOver P k n ts rest tree → 2 ≤ k → m ≤ k → n ≤ d + 1 → operator_at (k + 1) rest ≡ None → opening_at rest ≡ None → Reaches m n ts rest tree
  unfolding chained_at
  reaches k m n ts rest tree (operand is) low le small none_above ends =
      let some : 1 ≤ n = operand_deep n ts rest tree is in
      record { left = d + 1; enough = omega arith; same = rw (operand_again n ts rest tree is small ends) refl }
  reaches k m n ts rest tree (binary a b q text op us left right x y meant le deep t) low less small none_above ends =
      let right_ends : Ends (level_of op + 1) rest = record { low = omega arith; op = operator_looser (k + 1) (level_of op + 1) rest none_above (omega arith); select = ends; pick = λ e. absurd (omega arith) } in
      let before = reaches (level_of op) m a ts (sign q text ∷ us) left x (omega arith) (omega arith) (omega arith) (operator_not (level_of op + 1) q text op us meant (omega arith)) (operator_no_select q text op us meant) in
      step m n ts rest tree q text op left right a b us y meant (omega arith) deep small right_ends t before.left before.enough before.same
  reaches k m n ts rest tree (choice a b c q r us vs cond x y f g i le deep t) low less small none_above ends = absurd (omega arith)

  chain_stops : (f m : ℕ) (tree : TreeExpr) (n : ℕ) (rest : Tokens) → 1 ≤ f → operator_at m rest ≡ None → chain_at inner d f m tree n rest ≡ Some (tree, n, rest)
  unfolding chain_at
  chain_stops zero m tree n rest some e = absurd (omega arith)
  chain_stops (suc f) m tree n rest some e = rw e refl

  chained_again : (k m n : ℕ) (ts rest : Tokens) (tree : TreeExpr) → IsExprOver P k n ts rest tree → 2 ≤ k → m ≤ k → n ≤ d + 1 → operator_at m rest ≡ None → opening_at rest ≡ None → chained_at inner d m ts ≡ Some (tree, n, rest)
  chained_again k m n ts rest tree is low le small none_above ends =
      let r = reaches k m n ts rest tree is low le small (operator_looser m (k + 1) rest none_above (omega arith)) ends in
      let enough = r.enough in
      r.same ∙ chain_stops r.left m tree n rest (omega arith) none_above

  -- after operands and binary operators
  tail_again : (m n : ℕ) (ts rest : Tokens) (tree : TreeExpr) → chained_at inner d m ts ≡ Some (tree, n, rest) → Ends m rest → expr_over inner d m ts ≡ Some (tree, n, rest)
  unfolding expr_over pick_at
  tail_again m n ts rest tree e ends =
      elim (cases_Bool (eqb m 1)) [
        | inl whole ↦ rw (e, whole, ends.pick (eqb-true m 1 whole)) refl
        | inr other ↦ rw (e, other) refl
      ]

  choice_again : (a b c : ℕ) (q r : Place) (us vs ts rest : Tokens) (cond x y : TreeExpr) → IsExprOver P 2 a ts (sign q (codes "?") ∷ us) cond → P 1 b us (sign r (codes ":") ∷ vs) x → P 1 c vs rest y
      → max a (max b c) + 1 ≤ d + 1 → Ends 1 rest → expr_over inner d 1 ts ≡ Some (pick cond x y, max a (max b c) + 1, rest)
  unfolding expr_over pick_at arms_at
  choice_again a b c q r us vs ts rest cond x y f g i small ends =
      rw (
        chained_again 2 1 a ts (sign q (codes "?") ∷ us) cond f (omega arith) (omega arith) (omega arith) (question_other 1 q us) (opening_other q (codes "?") us refl),
        after_again (codes "?") q us,
        complete 1 b us (sign r (codes ":") ∷ vs) x g (omega arith) (ends_colon r vs),
        after_again (codes ":") r vs,
        complete 1 c vs rest y i (omega arith) ends,
      )
      (node_again d (pick cond x y) (max a (max b c) + 1) rest small)

  over_again : (m n : ℕ) (ts rest : Tokens) (tree : TreeExpr) → IsExprOver P m n ts rest tree → n ≤ d + 1 → Ends m rest → expr_over inner d m ts ≡ Some (tree, n, rest)
  over_again m n ts rest tree (operand is) small ends =
      tail_again m n ts rest tree (chained_again (m + 2) m n ts rest tree (operand is) (omega arith) (omega arith) small ends.op ends.select) ends
  over_again m n ts rest tree (binary a b q text op us left right x y meant le deep t) small ends =
      let tight = level_low op in
      tail_again m n ts rest tree (chained_again (level_of op) m n ts rest tree (binary a b q text op us left right x y meant (omega arith) deep t) tight le small ends.op ends.select) ends
  over_again m n ts rest tree (choice a b c q r us vs cond x y f g i le deep t) small ends =
      let low = ends.low in
      let whole : m ≡ 1 = omega arith in
      let all_ends : Ends 1 rest = subst (λ k. Ends k rest) whole ends in
      rw (whole, deep, t) (choice_again a b c q r us vs ts rest cond x y f g i (omega arith) all_ends)

pub expr_small : (d k n : ℕ) (ts rest : Tokens) (tree : TreeExpr) → IsExpr d k n ts rest tree → n ≤ d
unfolding IsExpr
expr_small zero k n ts rest tree is = absurd is
expr_small (suc d) k n ts rest tree is = let small = is.0 in omega arith

pub expr_again : (d k n : ℕ) (ts rest : Tokens) (tree : TreeExpr) → IsExpr d k n ts rest tree → n ≤ d → Ends k rest → expr_at d k ts ≡ Some (tree, n, rest)
unfolding expr_at IsExpr
expr_again zero k n ts rest tree is small ends = absurd is
expr_again (suc d) k n ts rest tree is small ends = over_again (IsExpr d) (expr_at d) d (expr_shorter d) (expr_again d) k n ts rest tree is.1 is.0 ends

pub readings_are : ReadingsAreExpressions
readings_are d k = (λ ts x e. (expr_is d k ts x e).is, λ n ts rest tree is ends. expr_again d k n ts rest tree is (expr_small d k n ts rest tree is) ends)
