-- Where the jobs of each node's subtree end in the order of jobs.
use Rattle.std.proofs.Common.{◌≡◌, ℕ, zero, suc, ◌+◌, ◌<◌, ◌≤◌, Bool, true, false, ◌==◌, nat_lt, List, length, Option, Some, None, IfSome, refl, sym, ◌∙◌, ap, subst, arith, slice_get, slice_set, get_or, unwrap_or}
use Rattle.std.specs.List.{list_any}
use Rattle.std.proofs.lemmas.Bool.{false≢true, eqb-true, eqb-false, ltb-true, ltb-false}
use Rattle.std.proofs.lemmas.List.{get_or-set_same, get_or-set_other}
use Rattle.vf_base.specs.declared.names.Job.{Job}
use Rattle.vf_base.specs.declared.names.NodeNo.{NodeNo}
use Rattle.vf_plan.specs.declared.plan.Node.{Node}
use Rattle.vf_plan.specs.Rules.{IsPlan}
use Rattle.vf_jobs.specs.Jobs.{node_of}
use Rattle.vf_jobs.specs.Subtree.{is_below}
use Rattle.vf_jobs.proofs.CallerLemmas.{descends}
use Rattle.vf_records.proofs.ReadyLemmas.{above, standing}
use Rattle.vf_records.proofs.ServeLemmas.{below_up, below_within}

-- from a node on no child has more than its parent
abbrev pub Rises : List Node → List ℕ → ℕ → Type 0
Rises nodes most from = (n : ℕ) (node : Node) (parent : NodeNo) → from ≤ n → slice_get nodes n ≡ Some node → node.parent ≡ Some parent → get_or most n 0 ≤ get_or most parent.0 0

-- the parent of one node more is raised
pub rises_more : (nodes : List Node) → IsPlan nodes → (most new : List ℕ) (at : ℕ) (node : Node) → slice_get nodes at ≡ Some node → Rises nodes most (at + 1)
    → ((n : ℕ) → get_or most n 0 ≤ get_or new n 0) → IfSome node.parent (λ p. get_or most at 0 ≤ get_or new p.0 0)
    → ((n : ℕ) → IfSome node.parent (λ p. p.0 < n) → get_or new n 0 ≡ get_or most n 0) → Rises nodes new at
rises_more nodes plan most new at node here rises grown raised others n child parent from e p = by (at == n) refl
  where
    down : IfSome node.parent (λ q. q.0 < at)
    down = descends nodes plan at node here

    later_than : (o : Option NodeNo) → IfSome o (λ q. q.0 < at) → IfSome o (λ q. q.0 < n)
    later_than None h = h
    later_than (Some q) h = omega (arith, h, from)

    same_up : at ≡ n → node.parent ≡ Some parent
    same_up same = ap (λ (o : Option Node). (unwrap_or o node).parent) (sym here ∙ ap (slice_get nodes) same ∙ e) ∙ p

    by : (b : Bool) → (at == n) ≡ b → get_or new n 0 ≤ get_or new parent.0 0
    by true s =
        let same = eqb-true at n s in
        let own = others n (later_than node.parent down) in
        let up : get_or most at 0 ≤ get_or new parent.0 0 = subst (λ o. IfSome o (λ q. get_or most at 0 ≤ get_or new q.0 0)) (same_up same) raised in
        let number = ap (λ k. get_or most k 0) same in
        omega (arith, own, up, number)
    by false s =
        let differs = eqb-false at n s in
        let own = others n (later_than node.parent down) in
        let was = rises n child parent (omega (arith, from, differs)) e p in
        let more = grown parent.0 in
        omega (arith, own, was, more)

-- what is below a node has no more than the node
pub climbs : (nodes : List Node) → IsPlan nodes → (most : List ℕ) → Rises nodes most 0 → (bound top n : ℕ) → n < bound → is_below nodes top n ≡ true → get_or most n 0 ≤ get_or most top 0
climbs nodes plan most rises zero top n less is = absurd (omega (arith, less))
climbs nodes plan most rises (suc bound) top n less is = by (climbs nodes plan most rises bound top) (n == top) refl
  where
    Further : Type 0
    Further = (up : ℕ) → up < bound → is_below nodes top up ≡ true → get_or most up 0 ≤ get_or most top 0

    st : (x : Node) × (slice_get nodes n ≡ Some x)
    st = standing nodes n (below_within nodes top n is)

    upward : Further → (parent : Option NodeNo) → st.0.parent ≡ parent → (n ≡ top → ⊥) → get_or most n 0 ≤ get_or most top 0
    upward further None p differs = absurd (false≢true (ap (λ o. list_any (λ a. a == top) (above nodes o)) (sym p) ∙ below_up nodes plan top n st.0 st.1 is differs))
    upward further (Some parent) p differs =
        let down : parent.0 < n = subst (λ o. IfSome o (λ q. q.0 < n)) p (descends nodes plan n st.0 st.1) in
        let one = rises n st.0 parent (omega arith) st.1 p in
        let rest = further parent.0 (omega (arith, less, down)) (ap (λ o. list_any (λ a. a == top) (above nodes o)) (sym p) ∙ below_up nodes plan top n st.0 st.1 is differs) in
        omega (arith, one, rest)

    by : Further → (b : Bool) → (n == top) ≡ b → get_or most n 0 ≤ get_or most top 0
    by further true s = let same = ap (λ k. get_or most k 0) (eqb-true n top s) in omega (arith, same)
    by further false s = upward further st.0.parent refl (eqb-false n top s)

-- the places of the jobs so far
abbrev pub EndOwn : List Job → List ℕ → ℕ → Type 0
EndOwn listed ends at = (k : ℕ) (job : Job) → k < at → slice_get listed k ≡ Some job → k < get_or ends (node_of job) 0

pub own_more : (listed : List Job) (ends : List ℕ) (at node : ℕ) (job : Job) → slice_get listed at ≡ Some job → node ≡ node_of job → node < length ends → EndOwn listed ends at
    → EndOwn listed (slice_set ends node (at + 1)) (at + 1)
own_more listed ends at node job here is inside own k other less e = by (node_of other == node) refl
  where
    same_job_at : k ≡ at → other ≡ job
    same_job_at same = ap (λ o. unwrap_or o other) (sym e ∙ ap (slice_get listed) same ∙ here)

    by : (b : Bool) → (node_of other == node) ≡ b → k < get_or (slice_set ends node (at + 1)) (node_of other) 0
    by true s =
        let written = ap (λ n. get_or (slice_set ends node (at + 1)) n 0) (eqb-true (node_of other) node s) ∙ get_or-set_same ends node (at + 1) 0 inside in
        omega (arith, written, less)
    by false s =
        let differs = eqb-false (node_of other) node s in
        let elsewhere = get_or-set_other ends node (node_of other) (at + 1) 0 differs in
        let before : k < at = at_least (nat_lt k at) refl in
        let was = own k other before e in
        omega (arith, elsewhere, was)
      where
        at_least : (b : Bool) → nat_lt k at ≡ b → k < at
        at_least true h = ltb-true k at h
        at_least false h = absurd (eqb-false (node_of other) node s (ap node_of (same_job_at (let most = ltb-false k at h in omega (arith, less, most))) ∙ sym is))
