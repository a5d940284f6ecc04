-- The jobs of a plan, when they are ready, and what may serve them (docs/FARM.md, "Jobs and their limits").
use Rattle.std.specs.Prelude.{◌≡◌, ℕ, ◌+◌, Bool, true, false, ◌&&◌, ◌==◌, nat_le, if◌then◌else◌, List, [], ◌∷◌, ◌++◌, drop, Option, Some, None, slice_get}
use Rattle.std.specs.List.{list_any}
use Rattle.vf_base.specs.declared.names.Job.{Job}
use Rattle.vf_base.specs.declared.names.Job.TheVariants.{Reach, Finish}
use Rattle.vf_base.specs.declared.names.NodeNo.{NodeNo}
use Rattle.vf_base.specs.declared.run.Header.{Header}
use Rattle.vf_base.specs.declared.run.Limits.{Limits}
use Rattle.vf_plan.specs.declared.plan.Node.{Node}
use Rattle.vf_plan.specs.Paths.{path}
use Rattle.vf_plan.specs.Rules.{IsPlan}
use Rattle.vf_jobs.specs.Subtree.{is_below}
use Rattle.vf_jobs.specs.Limits.{limits_of}

-- ---- which jobs there are

abbrev pub is_child_of : ℕ → Option NodeNo → Bool
is_child_of n None = false
is_child_of n (Some parent) = parent.0 == n

abbrev pub has_child : List Node → ℕ → Bool
has_child nodes n = list_any (λ node. is_child_of n node.parent) nodes

abbrev pub node_no : ℕ → NodeNo
node_no n = record { 0 = n }

abbrev pub jobs_at : List Node → ℕ → Node → List Job
jobs_at nodes n node =
    (if has_child nodes n then Reach (node_no n) ∷ [] else []) ++ (if node.test then Finish (node_no n) ∷ [] else [])

unfoldable pub jobs_from : List Node → ℕ → List Node → List Job
jobs_from nodes n [] = []
jobs_from nodes n (node ∷ more) = jobs_at nodes n node ++ jobs_from nodes (n + 1) more

-- the jobs of a plan, by node number, the one that reaches a node before the one that finishes it
abbrev pub jobs : List Node → List Job
jobs nodes = jobs_from nodes 0 nodes

abbrev pub node_of : Job → ℕ
node_of (Reach n) = n.0
node_of (Finish n) = n.0

-- ---- when a job is ready

-- whether the parent's kind is known; a root has none to wait for
abbrev pub is_open : (ℕ → Bool) → Option Node → Bool
is_open known None = false
is_open known (Some node) = elim node.parent [ None ↦ true | Some parent ↦ known parent.0 ]

-- where it is known of which nodes the kind is known
abbrev pub is_ready : List Node → (ℕ → Bool) → Job → Bool
is_ready nodes known (Reach n) = is_open known (slice_get nodes n.0)
is_ready nodes known (Finish n) = if has_child nodes n.0 then known n.0 else is_open known (slice_get nodes n.0)

-- ---- what serves a job

-- an image, or an ending, with these counts fits a job with these limits
abbrev pub fits : Limits → Header → Bool
fits limits header = nat_le header.turns limits.turns && nat_le header.written limits.output

-- a passing of the budget after so many turns of a run under other limits fits a job with these
abbrev pub passing_fits : Limits → ℕ → Limits → Bool
passing_fits limits turns of_run = nat_le (turns + 1) limits.turns && (limits.output == of_run.output)

-- the nodes whose images may serve a job, the nearest first
abbrev pub sources : List Node → Job → List ℕ
sources nodes (Reach n) = drop 1 (path nodes n.0)
sources nodes (Finish n) = path nodes n.0

abbrev pub holds_fitting : Limits → Option Header → Bool
holds_fitting limits None = false
holds_fitting limits (Some header) = fits limits header

abbrev pub first_fitting : Limits → (ℕ → Option Header) → List ℕ → Option ℕ
first_fitting limits held [] = None
first_fitting limits held (n ∷ more) = if holds_fitting limits (held n) then Some n else first_fitting limits held more

-- the nearest node whose image is held and fits the job, where `held` has the counts of the images held; None is time zero
abbrev pub origin : Limits → List Node → (ℕ → Option Header) → Job → Option ℕ
origin given nodes held job = first_fitting (limits_of given nodes job) held (sources nodes job)

-- ---- laws

-- a job that reaches a node of the plan, or that finishes a test of it
abbrev pub IsJob : List Node → Job → Type 0
IsJob nodes (Reach n) = (node : Node) × (slice_get nodes n.0 ≡ Some node)
IsJob nodes (Finish n) = (test : Node) × (slice_get nodes n.0 ≡ Some test) × (test.test ≡ true)

-- what does not fit the job that reaches a node fits no job of its subtree
abbrev pub FitsAbove : Type 0
FitsAbove =
    (given : Limits) (nodes : List Node) (top : NodeNo) (job : Job) (header : Header)
    → IsPlan nodes → IsJob nodes job → is_below nodes top.0 (node_of job) ≡ true
    → fits (limits_of given nodes job) header ≡ true → fits (limits_of given nodes (Reach top)) header ≡ true
