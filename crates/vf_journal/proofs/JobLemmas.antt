-- The jobs of a plan.
use Rattle.std.proofs.Common.{◌≡◌, ℕ, zero, suc, ◌+◌, ◌<◌, ◌==◌, ◌||◌, Bool, true, false, if◌then◌else◌, List, [], ◌∷◌, ◌++◌, Some, IfSome, slice_get, refl, sym, ◌∙◌, ap, ap₂, subst, arith, ⊎_elim}
use Rattle.std.specs.List.{list_any}
use Rattle.std.proofs.lemmas.Bool.{false≢true, eqb-true, eq-eqb, or_left, or_right, or_cases, or_parts}
use Rattle.std.proofs.lemmas.List.Folds.{list_any-append}
use Rattle.vf_base.specs.declared.names.Job.{Job}
use Rattle.vf_base.specs.declared.names.Job.TheVariants.{Reach, Finish}
use Rattle.vf_base.specs.declared.names.NodeNo.{NodeNo}
use Rattle.vf_plan.specs.declared.plan.Node.{Node}
use Rattle.vf_plan.specs.Rules.{IsPlan}
use Rattle.vf_jobs.specs.Jobs.{node_of, node_no, has_child, is_child_of, jobs_at, jobs_from, IsJob}
use Rattle.vf_jobs.proofs.CallerLemmas.{descends}
use Rattle.vf_journal.specs.Records.{same_job, is_job}

-- ---- jobs that are the same

pub same_node : (a b : NodeNo) → (a.0 == b.0) ≡ true → a ≡ b
same_node a b h = let e = eqb-true a.0 b.0 h in λ x. record { 0 = e x }

pub same_job-true : (a b : Job) → same_job a b ≡ true → a ≡ b
same_job-true (Reach a) (Reach b) h = ap Reach (same_node a b h)
same_job-true (Reach a) (Finish b) h = absurd (false≢true h)
same_job-true (Finish a) (Reach b) h = absurd (false≢true h)
same_job-true (Finish a) (Finish b) h = ap Finish (same_node a b h)

-- ---- lists

pub some_before : {X : Type 0} (xs : List X) (m n : ℕ) (x : X) → slice_get xs n ≡ Some x → m < n → (y : X) × (slice_get xs m ≡ Some y)
some_before [] m n x e h = cc
some_before (y ∷ more) zero n x e h = (y, refl)
some_before (y ∷ more) (suc m) zero x e h = absurd (omega arith)
some_before (y ∷ more) (suc m) (suc n) x e h = some_before more m n x e (omega arith)

pub any_at : {X : Type 0} (p : X → Bool) (xs : List X) (k : ℕ) (x : X) → slice_get xs k ≡ Some x → p x ≡ true → list_any p xs ≡ true
any_at p [] k x e h = cc
any_at p (y ∷ more) zero x e h = let same : y ≡ x = cc in or_left (p y) (list_any p more) (ap p same ∙ h)
any_at p (y ∷ more) (suc k) x e h = or_right (p y) (list_any p more) (any_at p more k x e h)

-- no job of the plan passes a test, so this one does not
pub none_passes : (test : Job → Bool) (job : Job) (xs : List Job) → list_any test xs ≡ false → list_any (same_job job) xs ≡ true → test job ≡ false
none_passes test job [] none is = absurd (false≢true is)
none_passes test job (x ∷ more) none is =
    let parts = or_parts (test x) (list_any test more) none in
    ⊎_elim (λ here. ap test (same_job-true job x here) ∙ parts.0) (λ there. none_passes test job more parts.1 there) (or_cases (same_job job x) (list_any (same_job job) more) is)

-- ---- which jobs there are

-- a job of one of the nodes, which has the number n
pub record IsJobAt (all : List Node) (n : ℕ) (node : Node) (job : Job) : Type 0 where
  pub at : node_of job ≡ n
  pub child : (top : NodeNo) → job ≡ Reach top → has_child all n ≡ true
  pub test : (top : NodeNo) → job ≡ Finish top → node.test ≡ true

at_by : (all : List Node) (n : ℕ) (node : Node) (job : Job) (child test : Bool) → has_child all n ≡ child → node.test ≡ test
    → list_any (same_job job) ((if child then Reach (node_no n) ∷ [] else []) ++ (if test then Finish (node_no n) ∷ [] else [])) ≡ true → IsJobAt all n node job
at_by all n node job false false c t h = absurd (false≢true h)
at_by all n node job true false c t h =
    ⊎_elim
    (λ here. let same = same_job-true job (Reach (node_no n)) here in record { at = ap node_of same; child = λ top e. c; test = λ top e. let wrong : Reach (node_no n) ≡ Finish top = sym same ∙ e in cc })
    (λ there. absurd (false≢true there))
    (or_cases (same_job job (Reach (node_no n))) false h)
at_by all n node job false true c t h =
    ⊎_elim
    (λ here. let same = same_job-true job (Finish (node_no n)) here in record { at = ap node_of same; child = λ top e. let wrong : Finish (node_no n) ≡ Reach top = sym same ∙ e in cc; test = λ top e. t })
    (λ there. absurd (false≢true there))
    (or_cases (same_job job (Finish (node_no n))) false h)
at_by all n node job true true c t h =
    ⊎_elim
    (λ here. let same = same_job-true job (Reach (node_no n)) here in record { at = ap node_of same; child = λ top e. c; test = λ top e. t })
    (λ there. ⊎_elim
    (λ here. let same = same_job-true job (Finish (node_no n)) here in record { at = ap node_of same; child = λ top e. c; test = λ top e. t })
    (λ none. absurd (false≢true none))
    (or_cases (same_job job (Finish (node_no n))) false there))
    (or_cases (same_job job (Reach (node_no n))) (same_job job (Finish (node_no n)) || false) h)

pub record IsFoundJob (all : List Node) (i : ℕ) (more : List Node) (job : Job) : Type 0 where
  pub place : ℕ
  pub node : Node
  pub stands : slice_get more place ≡ Some node
  pub job_at : IsJobAt all (i + place) node job

found_in : (all : List Node) (i : ℕ) (more : List Node) (job : Job) → list_any (same_job job) (jobs_from all i more) ≡ true → IsFoundJob all i more job
unfolding jobs_from
found_in all i [] job h = absurd (false≢true h)
found_in all i (node ∷ more) job h =
    ⊎_elim
    (λ here. record {
      place = 0;
      node = node;
      stands = refl;
      job_at = subst (λ n. IsJobAt all n node job) (let e : i ≡ i + 0 = omega arith in e) (at_by all i node job (has_child all i) node.test refl refl here);
    })
    (λ there.
    let rest = found_in all (i + 1) more job there in
    record {
      place = suc rest.place;
      node = rest.node;
      stands = rest.stands;
      job_at = subst (λ n. IsJobAt all n rest.node job) (let e : (i + 1) + rest.place ≡ i + suc rest.place = omega arith in e) rest.job_at;
    })
    (or_cases (list_any (same_job job) (jobs_at all i node)) (list_any (same_job job) (jobs_from all (i + 1) more))
    (sym (list_any-append (same_job job) (jobs_at all i node) (jobs_from all (i + 1) more)) ∙ h))

-- a job of the plan is one of a node
pub record IsPlanned (nodes : List Node) (job : Job) : Type 0 where
  pub node : Node
  pub stands : slice_get nodes (node_of job) ≡ Some node
  pub job_at : IsJobAt nodes (node_of job) node job

pub planned : (nodes : List Node) (job : Job) → is_job nodes job ≡ true → IsPlanned nodes job
planned nodes job h =
    let found = found_in nodes 0 nodes job h in
    let place : found.place ≡ node_of job = let at = found.job_at.at in omega (arith, at) in
    record {
      node = found.node;
      stands = ap (slice_get nodes) (sym place) ∙ found.stands;
      job_at = subst (λ n. IsJobAt nodes n found.node job) (sym found.job_at.at) found.job_at;
    }

pub is_job_of : (nodes : List Node) (job : Job) → is_job nodes job ≡ true → IsJob nodes job
is_job_of nodes (Reach n) h = let p = planned nodes (Reach n) h in (p.node, p.stands)
is_job_of nodes (Finish n) h = let p = planned nodes (Finish n) h in (p.node, p.stands, p.job_at.test n refl)

-- the job that reaches a node with a child
in_jobs : (all : List Node) (job : Job) (i k : ℕ) (more : List Node) (node : Node) → slice_get more k ≡ Some node
    → list_any (same_job job) (jobs_at all (i + k) node) ≡ true → list_any (same_job job) (jobs_from all i more) ≡ true
unfolding jobs_from
in_jobs all job i k [] node e h = cc
in_jobs all job i zero (x ∷ more) node e h =
    let same : x ≡ node = cc in
    list_any-append (same_job job) (jobs_at all i x) (jobs_from all (i + 1) more)
    ∙ or_left (list_any (same_job job) (jobs_at all i x)) (list_any (same_job job) (jobs_from all (i + 1) more))
    (ap₂ (λ n y. list_any (same_job job) (jobs_at all n y)) (let e : i ≡ i + 0 = omega arith in e) same ∙ h)
in_jobs all job i (suc k) (x ∷ more) node e h =
    list_any-append (same_job job) (jobs_at all i x) (jobs_from all (i + 1) more)
    ∙ or_right (list_any (same_job job) (jobs_at all i x)) (list_any (same_job job) (jobs_from all (i + 1) more))
    (in_jobs all job (i + 1) k more node e (ap (λ n. list_any (same_job job) (jobs_at all n node)) (let e : (i + 1) + k ≡ i + suc k = omega arith in e) ∙ h))

reach_at : (all : List Node) (n : ℕ) (node : Node) (child : Bool) → child ≡ true
    → list_any (same_job (Reach (node_no n))) ((if child then Reach (node_no n) ∷ [] else []) ++ (if node.test then Finish (node_no n) ∷ [] else [])) ≡ true
reach_at all n node false e = absurd (false≢true e)
reach_at all n node true e = or_left (n == n) _ (eq-eqb n n refl)

pub reaches : (nodes : List Node) (n : NodeNo) (node : Node) → slice_get nodes n.0 ≡ Some node → has_child nodes n.0 ≡ true → is_job nodes (Reach n) ≡ true
reaches nodes n node e h = in_jobs nodes (Reach n) 0 n.0 nodes node e
    (ap (λ k. list_any (same_job (Reach n)) (jobs_at nodes k node)) (let z : 0 + n.0 ≡ n.0 = omega arith in z) ∙ reach_at nodes n.0 node (has_child nodes n.0) h)

-- the parent of a node has a job that reaches it
pub parent_reached : (nodes : List Node) (n : ℕ) (node : Node) (parent : NodeNo) → IsPlan nodes → slice_get nodes n ≡ Some node → node.parent ≡ Some parent
    → (parent.0 < n) × (is_job nodes (Reach parent) ≡ true)
parent_reached nodes n node parent plan e p =
    let less : parent.0 < n = subst (λ o. IfSome o (λ q. q.0 < n)) p (descends nodes plan n node e) in
    let above = some_before nodes parent.0 n node e less in
    let child : has_child nodes parent.0 ≡ true = any_at (λ x. is_child_of parent.0 x.parent) nodes n node e (ap (is_child_of parent.0) p ∙ eq-eqb parent.0 parent.0 refl) in
    (less, reaches nodes parent above.0 above.1 child)
