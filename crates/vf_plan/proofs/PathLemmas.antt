-- What grows along the paths of a plan.
use Rattle.std.proofs.Common.{◌≡◌, ℕ, zero, suc, ◌+◌, ◌<◌, ◌≤◌, List, [], ◌∷◌, ◌++◌, length, get_or, Option, Some, None, IfSome, refl, sym, ◌∙◌, ap, ap₂, subst, arith, slice_get, length-append, unwrap_or, append_assoc}
use Rattle.std.proofs.lemmas.List.{get_or_append_left, get_or_push, get_or_past}
use Rattle.vf_base.specs.declared.names.NodeNo.{NodeNo}
use Rattle.vf_plan.specs.declared.plan.Node.{Node}
use Rattle.vf_plan.specs.declared.plan.PathSize.{PathSize}
use Rattle.vf_plan.specs.Paths.{at_parent, grown_after, grown, path_sizes, path_to, longer, no_path, joined, with_segment, path, with_number}

module _ {A : Type 0} (grow : A → ℕ → Node → A) (start : A) where
  grown_after-append : (done : List A) (front back : List Node) → grown_after grow start done (front ++ back) ≡ grown_after grow start (grown_after grow start done front) back
  unfolding grown_after
  grown_after-append done [] back = refl
  grown_after-append done (node ∷ front) back = grown_after-append (done ++ grow (at_parent start done node.parent) (length done) node ∷ []) front back

  length-grown_after : (done : List A) (nodes : List Node) → length (grown_after grow start done nodes) ≡ length done + length nodes
  unfolding grown_after
  length-grown_after done [] = omega arith
  length-grown_after done (node ∷ more) =
      let rest = length-grown_after (done ++ grow (at_parent start done node.parent) (length done) node ∷ []) more in
      let here = length-append done (grow (at_parent start done node.parent) (length done) node ∷ []) in
      omega (arith, rest, here)

  -- what stands is kept
  keeps : (done : List A) (nodes : List Node) (n : ℕ) → n < length done → get_or (grown_after grow start done nodes) n start ≡ get_or done n start
  unfolding grown_after
  keeps done [] n h = refl
  keeps done (node ∷ more) n h =
      let x = grow (at_parent start done node.parent) (length done) node in
      let long = length-append done (x ∷ []) in
      keeps (done ++ x ∷ []) more n (omega (arith, long, h)) ∙ get_or_append_left done (x ∷ []) start n h

  keeps_parent : (done : List A) (nodes : List Node) (parent : Option NodeNo) → IfSome parent (λ p. p.0 < length done)
      → at_parent start (grown_after grow start done nodes) parent ≡ at_parent start done parent
  keeps_parent done nodes None h = refl
  keeps_parent done nodes (Some p) h = keeps done nodes p.0 h

  -- each node has what grows out of its parent's
  grown_after-at : (done : List A) (nodes : List Node) (n at : ℕ) (node : Node) → at ≡ length done + n → slice_get nodes n ≡ Some node → IfSome node.parent (λ p. p.0 < at)
      → get_or (grown_after grow start done nodes) at start ≡ grow (at_parent start (grown_after grow start done nodes) node.parent) at node
  unfolding grown_after
  grown_after-at done [] zero at node i e h = cc
  grown_after-at done [] (suc n) at node i e h = cc
  grown_after-at done (first ∷ more) zero at node i e h =
      let x = grow (at_parent start done first.parent) (length done) first in
      let long = length-append done (x ∷ []) in
      let same : first ≡ node = ap (λ o. unwrap_or o first) e in
      let below : IfSome first.parent (λ p. p.0 < length done) = subst (λ (m : Node). IfSome m.parent (λ p. p.0 < length done)) (sym same) (subst (λ k. IfSome node.parent (λ p. p.0 < k)) (let j : at ≡ length done = omega (arith, i) in j) h) in
      keeps (done ++ x ∷ []) more at (omega (arith, long, i))
      ∙ get_or_push done x start at (omega (arith, i))
      ∙ ap₂ (λ a k. grow a k first) (sym (keeps_parent done (first ∷ more) first.parent below)) (let j : length done ≡ at = omega (arith, i) in j)
      ∙ ap (λ (m : Node). grow (at_parent start (grown_after grow start done (first ∷ more)) m.parent) at m) same
  grown_after-at done (first ∷ more) (suc n) at node i e h =
      let x = grow (at_parent start done first.parent) (length done) first in
      let long = length-append done (x ∷ []) in
      grown_after-at (done ++ x ∷ []) more n at node (omega (arith, long, i)) e h

pub length-path_sizes : (nodes : List Node) → length (path_sizes nodes) ≡ length nodes
length-path_sizes nodes = let long = length-grown_after longer no_path [] nodes in omega (arith, long)

pub path_sizes-push : (before : List Node) (node : Node) → path_sizes (before ++ node ∷ []) ≡ path_sizes before ++ path_to before node ∷ []
unfolding grown_after
path_sizes-push before node = grown_after-append longer no_path [] before (node ∷ [])

-- a node's stimulus is its parent's and its segment
pub joined-at : (nodes : List Node) (n : ℕ) (node : Node) → slice_get nodes n ≡ Some node → IfSome node.parent (λ p. p.0 < n)
    → joined nodes n ≡ at_parent [] (grown with_segment [] nodes) node.parent ++ node.segment
joined-at nodes n node e h = grown_after-at with_segment [] [] nodes n n node (let same : n ≡ 0 + n = omega arith in same) e h

-- a node's path is its number and its parent's path
pub path-at : (nodes : List Node) (n : ℕ) (node : Node) → slice_get nodes n ≡ Some node → IfSome node.parent (λ p. p.0 < n)
    → path nodes n ≡ n ∷ at_parent [] (grown with_number [] nodes) node.parent
path-at nodes n node e h = grown_after-at with_number [] [] nodes n n node (let same : n ≡ 0 + n = omega arith in same) e h

-- past the nodes there is no path
pub path-past : (nodes : List Node) (n : ℕ) → length nodes ≤ n → path nodes n ≡ []
path-past nodes n h =
    let long = length-grown_after with_number [] [] nodes in
    get_or_past (grown with_number [] nodes) n [] (omega (arith, long, h))

pub path_sizes-none : (nodes : List Node) → nodes ≡ [] → path_sizes nodes ≡ []
unfolding grown_after
path_sizes-none nodes e = ap path_sizes e

-- a node's stimulus after its parent's
pub pathed : (nodes : List Node) (n : ℕ) (node : Node) (old mid new : List ℕ) → slice_get nodes n ≡ Some node → IfSome node.parent (λ p. p.0 < n)
    → mid ≡ old ++ at_parent [] (grown with_segment [] nodes) node.parent → new ≡ mid ++ node.segment → new ≡ old ++ joined nodes n
pathed nodes n node old mid new e h m g =
    g ∙ ap (λ bytes. bytes ++ node.segment) m
    ∙ append_assoc old (at_parent [] (grown with_segment [] nodes) node.parent) node.segment
    ∙ ap (λ bytes. old ++ bytes) (sym (joined-at nodes n node e h))

pub sized-push : (nodes : List Node) (node : Node) (paths after : List PathSize) (path : PathSize) (all : List Node) → paths ≡ path_sizes nodes → path ≡ path_to nodes node → after ≡ paths ++ path ∷ [] → all ≡ nodes ++ node ∷ [] → after ≡ path_sizes all
sized-push nodes node paths after path all e p a n =
    a ∙ ap₂ (λ (ps : List PathSize) (q : PathSize). ps ++ q ∷ []) e p ∙ sym (path_sizes-push nodes node) ∙ ap path_sizes (sym n)
