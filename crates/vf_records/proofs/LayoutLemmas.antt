-- Where jobs stand among the jobs of a plan.
use Rattle.std.proofs.Common.{◌≡◌, ℕ, zero, suc, ◌+◌, ◌<◌, Bool, true, false, ◌||◌, ◌==◌, if◌then◌else◌, List, [], ◌∷◌, ◌++◌, ◌⊎◌, inl, inr, length, take, Some, refl, sym, ◌∙◌, ap, subst, arith, slice_get, get_or, unwrap_or, append_assoc, append-nil, length-append}
use Rattle.std.specs.List.{list_any}
use Rattle.std.proofs.Math.Seq.{take-suc, get_or-append_seam}
use Rattle.std.proofs.lemmas.Bool.{eqb-true, eq-eqb, false≢true}
use Rattle.std.proofs.lemmas.List.{get_or_append_left}
use Rattle.std.proofs.lemmas.List.Folds.{list_any-append}
use Rattle.std.proofs.lemmas.Option.{get_or_from_slice_get, slice_get_within}
use Rattle.vf_base.specs.declared.names.Job.{Job}
use Rattle.vf_base.specs.declared.names.Job.TheVariants.{Reach, Finish}
use Rattle.vf_base.specs.declared.names.NodeNo.{NodeNo}
use Rattle.vf_plan.specs.declared.plan.Node.{Node}
use Rattle.vf_jobs.specs.Jobs.{has_child, is_child_of, jobs_at, jobs_from, node_of, node_no}
use Rattle.vf_records.specs.declared.layout.Place.{Place}
use Rattle.vf_records.specs.Layout.{place_of_node, no_place, place_at, place_in, IsLaidOut}

-- what stands in a list that is put together stands in one of its parts
pub in_parts : {A : Type 0} (xs ys : List A) (i : ℕ) (x : A) → slice_get (xs ++ ys) i ≡ Some x
    → (slice_get xs i ≡ Some x) ⊎ ((j : ℕ) × (slice_get ys j ≡ Some x) × (i ≡ length xs + j))
in_parts [] ys i x e = inr (i, e, (let same : i ≡ 0 + i = omega arith in same))
in_parts (y ∷ xs) ys zero x e = inl e
in_parts (y ∷ xs) ys (suc i) x e =
    elim (in_parts xs ys i x e) as (λ _. (slice_get (y ∷ xs) (suc i) ≡ Some x) ⊎ ((j : ℕ) × (slice_get ys j ≡ Some x) × (suc i ≡ length (y ∷ xs) + j)))
    [ inl h ↦ inl h | inr h ↦ inr (h.0, h.1, (let same = h.2 in omega arith)) ]

pub jobs-append : (nodes : List Node) (k : ℕ) (xs ys : List Node) → jobs_from nodes k (xs ++ ys) ≡ jobs_from nodes k xs ++ jobs_from nodes (k + length xs) ys
unfolding jobs_from
jobs-append nodes k [] ys = ap (λ n. jobs_from nodes n ys) (let same : k ≡ k + 0 = omega arith in same)
jobs-append nodes k (x ∷ xs) ys =
    ap (λ js. jobs_at nodes k x ++ js) (jobs-append nodes (k + 1) xs ys)
    ∙ sym (append_assoc (jobs_at nodes k x) (jobs_from nodes (k + 1) xs) (jobs_from nodes (k + 1 + length xs) ys))
    ∙ ap (λ n. (jobs_at nodes k x ++ jobs_from nodes (k + 1) xs) ++ jobs_from nodes n ys) (let same : k + 1 + length xs ≡ k + suc (length xs) = omega arith in same)

jobs-one : (nodes : List Node) (k : ℕ) (node : Node) → jobs_from nodes k (node ∷ []) ≡ jobs_at nodes k node
unfolding jobs_from
jobs-one nodes k node = append-nil (jobs_at nodes k node)

pub take_one : {A : Type 0} (xs : List A) (k : ℕ) (x : A) → slice_get xs k ≡ Some x → take (k + 1) xs ≡ take k xs ++ x ∷ []
take_one xs k x e =
    let within = slice_get_within xs k x e in
    ap (λ n. take n xs) (let same : k + 1 ≡ suc k = omega arith in same) ∙ take-suc xs k x within
    ∙ ap (λ y. take k xs ++ y ∷ []) (get_or_from_slice_get xs k x x e)

listed_more : (nodes : List Node) (k : ℕ) (node : Node) → slice_get nodes k ≡ Some node
    → jobs_from nodes 0 (take k nodes) ++ jobs_at nodes k node ≡ jobs_from nodes 0 (take (k + 1) nodes)
listed_more nodes k node e = sym (
    ap (jobs_from nodes 0) (take_one nodes k node e) ∙ jobs-append nodes 0 (take k nodes) (node ∷ [])
    ∙ ap (λ n. jobs_from nodes 0 (take k nodes) ++ jobs_from nodes n (node ∷ [])) (length_taken nodes k node e)
    ∙ ap (λ js. jobs_from nodes 0 (take k nodes) ++ js) (jobs-one nodes k node))
  where
    length_taken : {A : Type 0} (xs : List A) (k : ℕ) (x : A) → slice_get xs k ≡ Some x → 0 + length (take k xs) ≡ k
    length_taken [] k x e = cc
    length_taken (y ∷ xs) zero x e = omega arith
    length_taken (y ∷ xs) (suc k) x e = let rest = length_taken xs k x e in omega arith

-- ---- the jobs of one node

abbrev two : Bool → Bool → NodeNo → List Job
two inner test n = (if inner then Reach n ∷ [] else []) ++ (if test then Finish n ∷ [] else [])

record StandsAt (before : ℕ) (inner : Bool) (n : NodeNo) (j : ℕ) (job : Job) : Type 0 where
  pub place : place_at (place_of_node before inner) job ≡ before + j
  pub node : node_of job ≡ n.0

is_reach : (before : ℕ) (inner : Bool) (n : NodeNo) (job : Job) → Reach n ≡ job → StandsAt before inner n 0 job
is_reach before inner n job e = subst (StandsAt before inner n 0) e (record { place = (let same : before ≡ before + 0 = omega arith in same); node = refl })

is_finish : (before : ℕ) (inner : Bool) (n : NodeNo) (job : Job) → Finish n ≡ job → StandsAt before inner n (if inner then 1 else 0) job
is_finish before inner n job e = subst (StandsAt before inner n (if inner then 1 else 0)) e (record { place = refl; node = refl })

new_at : (before : ℕ) (inner test : Bool) (n : NodeNo) (j : ℕ) (job : Job) → slice_get (two inner test n) j ≡ Some job → StandsAt before inner n j job
new_at before true true n zero job e = is_reach before true n job (ap (λ o. unwrap_or o (Reach n)) e)
new_at before true true n (suc zero) job e = is_finish before true n job (ap (λ o. unwrap_or o (Finish n)) e)
new_at before true true n (suc (suc j)) job e = cc
new_at before true false n zero job e = is_reach before true n job (ap (λ o. unwrap_or o (Reach n)) e)
new_at before true false n (suc j) job e = cc
new_at before false true n zero job e = is_finish before false n job (ap (λ o. unwrap_or o (Finish n)) e)
new_at before false true n (suc j) job e = cc
new_at before false false n j job e = cc

-- ---- one node more

module _ (nodes : List Node) (k : ℕ) (node : Node) (jobs : List Job) (places : List Place) (inner : Bool) (here : slice_get nodes k ≡ Some node)
    (is_inner : inner ≡ has_child nodes k) (laid : IsLaidOut nodes k jobs places) where
  last : get_or (places ++ place_of_node (length jobs) inner ∷ []) k no_place ≡ place_of_node (length jobs) inner
  last = ap (λ n. get_or (places ++ place_of_node (length jobs) inner ∷ []) n no_place) (sym laid.long) ∙ get_or-append_seam places (place_of_node (length jobs) inner) [] no_place

  as_before : (n : ℕ) → n < k → get_or (places ++ place_of_node (length jobs) inner ∷ []) n no_place ≡ get_or places n no_place
  as_before n h = get_or_append_left places (place_of_node (length jobs) inner ∷ []) no_place n (let long = laid.long in omega arith)

  old_placed : (i : ℕ) (job : Job) → slice_get jobs i ≡ Some job → place_in (places ++ place_of_node (length jobs) inner ∷ []) job ≡ i
  old_placed i job e = ap (λ p. place_at p job) (as_before (node_of job) (laid.within i job e)) ∙ laid.placed i job e

  new_placed : (i j : ℕ) (job : Job) → slice_get (two inner node.test (node_no k)) j ≡ Some job → i ≡ length jobs + j → place_in (places ++ place_of_node (length jobs) inner ∷ []) job ≡ i
  new_placed i j job e same =
      let there = new_at (length jobs) inner node.test (node_no k) j job e in
      ap (λ n. place_at (get_or (places ++ place_of_node (length jobs) inner ∷ []) n no_place) job) there.node
      ∙ ap (λ p. place_at p job) last ∙ there.place ∙ sym same

  inner_at : (n : ℕ) → n < k + 1 → (same : Bool) → (n == k) ≡ same → (get_or (places ++ place_of_node (length jobs) inner ∷ []) n no_place).inner ≡ has_child nodes n
  inner_at n h true e =
      let is : n ≡ k = eqb-true n k e in
      ap (λ n. (get_or (places ++ place_of_node (length jobs) inner ∷ []) n no_place).inner) is ∙ ap (λ (p : Place). p.inner) last ∙ is_inner ∙ ap (has_child nodes) (sym is)
  inner_at n h false e =
      let less : n < k = (let other : n ≡ k → ⊥ = λ is. false≢true (sym e ∙ eq-eqb n k is) in omega (arith, h, other)) in
      ap (λ (p : Place). p.inner) (as_before n less) ∙ laid.inner n less

  pub laid_more : IsLaidOut nodes (k + 1) (jobs ++ two inner node.test (node_no k)) (places ++ place_of_node (length jobs) inner ∷ [])
  laid_more = record {
    listed = ap (λ js. js ++ two inner node.test (node_no k)) laid.listed
        ∙ ap (λ b. jobs_from nodes 0 (take k nodes) ++ two b node.test (node_no k)) is_inner ∙ listed_more nodes k node here;
    long = length-append places (place_of_node (length jobs) inner ∷ []) ∙ ap (λ n. n + 1) laid.long;
    placed = λ i job e. elim (in_parts jobs (two inner node.test (node_no k)) i job e) as (λ _. place_in (places ++ place_of_node (length jobs) inner ∷ []) job ≡ i)
        [ inl h ↦ old_placed i job h | inr h ↦ new_placed i h.0 job h.1 h.2 ];
    within = λ i job e. elim (in_parts jobs (two inner node.test (node_no k)) i job e) as (λ _. node_of job < k + 1)
        [ inl h ↦ (let less = laid.within i job h in omega arith) | inr h ↦ (let there = (new_at (length jobs) inner node.test (node_no k) h.0 job h.1).node in omega arith) ];
    inner = λ n h. inner_at n h (n == k) refl;
  }

pub laid_first : (nodes : List Node) → IsLaidOut nodes 0 [] []
unfolding jobs_from
laid_first nodes = record { listed = refl; long = refl; placed = λ i job e. cc; within = λ i job e. cc; inner = λ n h. absurd (omega arith) }

-- ---- parents

pub marked_more : (nodes : List Node) (k n : ℕ) (node : Node) (marked : Bool) → slice_get nodes k ≡ Some node
    → marked ≡ list_any (λ (x : Node). is_child_of n x.parent) (take k nodes)
    → (marked || is_child_of n node.parent) ≡ list_any (λ (x : Node). is_child_of n x.parent) (take (k + 1) nodes)
marked_more nodes k n node marked e m = sym (
    ap (list_any (λ (x : Node). is_child_of n x.parent)) (take_one nodes k node e)
    ∙ list_any-append (λ (x : Node). is_child_of n x.parent) (take k nodes) (node ∷ [])
    ∙ ap (λ b. b || (is_child_of n node.parent || false)) (sym m) ∙ ap (λ b. marked || b) (or_false (is_child_of n node.parent)))
  where
    or_false : (b : Bool) → (b || false) ≡ b
    or_false true = refl
    or_false false = refl
