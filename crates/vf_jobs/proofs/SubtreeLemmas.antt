-- A node's stimulus begins with those of the nodes above it, and so does its run.
use Rattle.std.proofs.Common.{◌≡◌, ◌==◌, ℕ, zero, suc, ◌+◌, ◌<◌, ◌≤◌, Bool, true, false, ◌||◌, List, [], ◌∷◌, ◌++◌, length, take, Option, Some, None, IfSome, refl, sym, ◌∙◌, ap, subst, arith, slice_get, append_assoc, append-nil, length-append}
use Rattle.std.specs.List.{list_any}
use Rattle.std.proofs.lemmas.Bool.{eqb-true, eq-eqb, false≢true}
use Rattle.std.proofs.lemmas.List.{take-append-le}
use Rattle.vf_base.specs.declared.names.NodeNo.{NodeNo}
use Rattle.vf_machine.specs.Machine.{Machine}
use Rattle.vf_machine.specs.Laws.{PrefixLaw}
use Rattle.vf_plan.specs.declared.plan.Node.{Node}
use Rattle.vf_plan.specs.Paths.{at_parent, grown, joined, with_segment, with_number}
use Rattle.vf_plan.specs.Rules.{IsPlan, IsNodeAfter}
use Rattle.vf_jobs.specs.Subtree.{is_below, SharesItsRun}
use Rattle.vf_plan.proofs.CallerLemmas.{joined-at, path-at, path-past}
use Rattle.vf_plan.proofs.CallerLemmas.{parent_before}

-- a node and all nodes below it, from parent to child
pub data IsBelow (nodes : List Node) (top : ℕ) : ℕ → Type 0 where
  itself : {n : ℕ} → n ≡ top → IsBelow nodes top n
  under : {n : ℕ} (node : Node) (parent : NodeNo) → slice_get nodes n ≡ Some node → node.parent ≡ Some parent → IsBelow nodes top parent.0 → IsBelow nodes top n

-- in a plan a parent comes before its child
abbrev pub Descends : List Node → Type 0
Descends nodes = (n : ℕ) (node : Node) → slice_get nodes n ≡ Some node → IfSome node.parent (λ p. p.0 < n)

pub descends : (nodes : List Node) → IsPlan nodes → Descends nodes
descends nodes plan n node e = parent_before nodes plan.each n node e

-- whether it is below, one node further up
below-at : (nodes : List Node) (top n : ℕ) (node : Node) → Descends nodes → slice_get nodes n ≡ Some node
    → is_below nodes top n ≡ ((n == top) || list_any (λ a. a == top) (at_parent [] (grown with_number [] nodes) node.parent))
below-at nodes top n node down e = ap (list_any (λ a. a == top)) (path-at nodes n node e (down n node e))

pub below-parent : (nodes : List Node) (top n : ℕ) (node : Node) (parent : NodeNo) → Descends nodes → slice_get nodes n ≡ Some node → node.parent ≡ Some parent
    → is_below nodes top n ≡ ((n == top) || is_below nodes top parent.0)
below-parent nodes top n node parent down e p =
    below-at nodes top n node down e ∙ ap (λ o. (n == top) || list_any (λ a. a == top) (at_parent [] (grown with_number [] nodes) o)) p

pub below-root : (nodes : List Node) (top n : ℕ) (node : Node) → Descends nodes → slice_get nodes n ≡ Some node → node.parent ≡ None
    → is_below nodes top n ≡ ((n == top) || false)
below-root nodes top n node down e p =
    below-at nodes top n node down e ∙ ap (λ o. (n == top) || list_any (λ a. a == top) (at_parent [] (grown with_number [] nodes) o)) p

pub none_past : (nodes : List Node) (n : ℕ) → slice_get nodes n ≡ None → length nodes ≤ n
none_past [] n e = omega arith
none_past (node ∷ more) zero e = cc
none_past (node ∷ more) (suc n) e = let rest = none_past more n e in omega (arith, rest)

or_true : (b : Bool) → (b || true) ≡ true
or_true true = refl
or_true false = refl

-- a node for which the test holds is top, or its parent is one
found_by : (nodes : List Node) (top n : ℕ) (node : Node) → Descends nodes → slice_get nodes n ≡ Some node → is_below nodes top n ≡ true
    → ((parent : NodeNo) → parent.0 < n → is_below nodes top parent.0 ≡ true → IsBelow nodes top parent.0) → IsBelow nodes top n
found_by nodes top n node down e b further = here (n == top) refl
  where
    above : (parent : Option NodeNo) → node.parent ≡ parent → (n == top) ≡ false → IsBelow nodes top n
    above None p differs = absurd (false≢true (ap (λ b. b || false) (sym differs) ∙ sym (below-root nodes top n node down e p) ∙ b))
    above (Some parent) p differs =
        under node parent e p (further parent (subst (λ o. IfSome o (λ p. p.0 < n)) p (down n node e))
        (ap (λ b. b || is_below nodes top parent.0) (sym differs) ∙ sym (below-parent nodes top n node parent down e p) ∙ b))

    here : (same : Bool) → (n == top) ≡ same → IsBelow nodes top n
    here true same = itself (eqb-true n top same)
    here false differs = above node.parent refl differs

module _ (nodes : List Node) (top : ℕ) (down : Descends nodes) where
  found : (bound n : ℕ) → n < bound → is_below nodes top n ≡ true → IsBelow nodes top n
  found zero n h b = absurd (omega (arith, h))
  found (suc bound) n h b = at (λ k less is. found bound k (omega (arith, h, less)) is) (slice_get nodes n) refl
    where
      at : ((k : ℕ) → k < n → is_below nodes top k ≡ true → IsBelow nodes top k) → (o : Option Node) → slice_get nodes n ≡ o → IsBelow nodes top n
      at further None e = absurd (false≢true (ap (list_any (λ a. a == top)) (sym (path-past nodes n (none_past nodes n e))) ∙ b))
      at further (Some node) e = found_by nodes top n node down e b (λ parent less is. further parent.0 less is)

  pub below : (n : ℕ) → is_below nodes top n ≡ true → IsBelow nodes top n
  below n b = found (n + 1) n (omega arith) b

  -- top itself stands at or before what is below it
  pub top_first : (n : ℕ) → IsBelow nodes top n → top ≤ n
  top_first n (itself same) = omega (arith, same)
  top_first n (under node parent e p more) =
      let rest = top_first parent.0 more in
      let less : parent.0 < n = subst (λ o. IfSome o (λ p. p.0 < n)) p (down n node e) in
      omega (arith, rest, less)

  pub is_above : top < length nodes → (n : ℕ) → IsBelow nodes top n → is_below nodes top n ≡ true
  is_above h n (itself same) = on (slice_get nodes n) refl
    where
      on : (o : Option Node) → slice_get nodes n ≡ o → is_below nodes top n ≡ true
      on None e = let past = none_past nodes n e in absurd (omega (arith, h, same, past))
      on (Some node) e = below-at nodes top n node down e ∙ ap (λ b. b || list_any (λ a. a == top) (at_parent [] (grown with_number [] nodes) node.parent)) (eq-eqb n top same)
  is_above h n (under node parent e p more) =
      below-parent nodes top n node parent down e p ∙ ap (λ b. (n == top) || b) (is_above h parent.0 more) ∙ or_true (n == top)

-- what is below a child is below its parent
pub up : (nodes : List Node) (n at : ℕ) (node : Node) (parent : NodeNo) → slice_get nodes n ≡ Some node → node.parent ≡ Some parent → IsBelow nodes n at → IsBelow nodes parent.0 at
up nodes n at node parent e p (itself same) = under node parent (ap (slice_get nodes) same ∙ e) p (itself refl)
up nodes n at node parent e p (under other above there q below) = under other above there q (up nodes n above.0 node parent e p below)

-- what is below a node is below each node above it
further : (nodes : List Node) (top mid n : ℕ) → IsBelow nodes top mid → IsBelow nodes mid n → IsBelow nodes top n
further nodes top mid n above (itself same) = subst (IsBelow nodes top) (sym same) above
further nodes top mid n above (under node parent e p more) = under node parent e p (further nodes top mid parent.0 above more)

pub further_below : (nodes : List Node) (top mid n : ℕ) → IsPlan nodes → mid < length nodes → is_below nodes top mid ≡ true → is_below nodes mid n ≡ true → is_below nodes top n ≡ true
further_below nodes top mid n plan inside up down =
    let falls = descends nodes plan in
    let above = below nodes top falls mid up in
    let first = top_first nodes top falls mid above in
    is_above nodes top falls (omega (arith, first, inside)) n (further nodes top mid n above (below nodes mid falls n down))

-- a node stands before those below it
pub stands_before : (nodes : List Node) (top n : ℕ) → IsPlan nodes → is_below nodes top n ≡ true → top ≤ n
stands_before nodes top n plan is = let falls = descends nodes plan in top_first nodes top falls n (below nodes top falls n is)

pub begins : (nodes : List Node) (top n : ℕ) → IsPlan nodes → IsBelow nodes top n → (more : List ℕ) × (joined nodes n ≡ joined nodes top ++ more)
begins nodes top n plan (itself e) = ([], ap (joined nodes) e ∙ sym (append-nil (joined nodes top)))
begins nodes top n plan (under node parent at up below) =
    let above = begins nodes top parent.0 plan below in
    let step : joined nodes n ≡ joined nodes parent.0 ++ node.segment =
    joined-at nodes n node at (parent_before nodes plan.each n node at) ∙ ap (λ p. at_parent [] (grown with_segment [] nodes) p ++ node.segment) up in
    (above.0 ++ node.segment, step ∙ ap (λ bytes. bytes ++ node.segment) above.1 ∙ append_assoc (joined nodes top) above.0 node.segment)

-- a node's stimulus is longer than that of another node above it
pub begins_more : (nodes : List Node) (top n : ℕ) → IsPlan nodes → IsBelow nodes top n → (n ≡ top → ⊥) → length (joined nodes top) < length (joined nodes n)
begins_more nodes top n plan (itself e) differ = absurd (differ e)
begins_more nodes top n plan (under node parent at up below) differ =
    let above = begins nodes top parent.0 plan below in
    let step : joined nodes n ≡ joined nodes parent.0 ++ node.segment =
    joined-at nodes n node at (parent_before nodes plan.each n node at) ∙ ap (λ p. at_parent [] (grown with_segment [] nodes) p ++ node.segment) up in
    let after : IsNodeAfter (take n nodes) node = subst (λ o. IfSome o (IsNodeAfter (take n nodes))) at (plan.each n) in
    let some : 0 < length node.segment = subst (λ p. IfSome p (λ _. 0 < length node.segment)) up after.some in
    let longer = ap length step ∙ length-append (joined nodes parent.0) node.segment in
    let front = ap length above.1 ∙ length-append (joined nodes top) above.0 in
    omega (arith, some, longer, front)

pub same_front : (a more : List ℕ) → take (length a) a ≡ take (length a) (a ++ more)
same_front a more = sym (take-append-le (length a) a more (omega arith))

pub shares : {S : Type 0} (m : Machine S) → PrefixLaw m → SharesItsRun m
shares m law nodes top n limits_top limits_n k plan is free_top free_n reads =
    let more = begins nodes top n plan (below nodes top (descends nodes plan) n is) in
    let a = joined nodes top in
    let long : length (joined nodes n) ≡ length a + length more.0 = ap length more.1 ∙ length-append a more.0 in
    law a (joined nodes n) limits_top limits_n (length a) k (omega arith) (omega (arith, long)) (same_front a more.0 ∙ ap (take (length a)) (sym more.1)) free_top free_n reads
