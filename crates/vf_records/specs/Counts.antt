-- How many jobs there are in the subtree of a node, and how many of them are over.
use Rattle.std.specs.Prelude.{◌≡◌, ℕ, ◌+◌, ◌<◌, Bool, true, false, ◌&&◌, if◌then◌else◌, List, [], ◌∷◌, Some, length, get_or, slice_get}
use Rattle.vf_base.specs.declared.names.Job.{Job}
use Rattle.vf_plan.specs.declared.plan.Node.{Node}
use Rattle.vf_jobs.specs.Jobs.{node_of}
use Rattle.vf_jobs.specs.Subtree.{is_below}
use Rattle.vf_records.specs.declared.row.Progress.{Progress}
use Rattle.vf_records.specs.declared.row.Progress.TheVariants as rows

abbrev pub is_over_progress : Progress → Bool
is_over_progress rows.Idle = false
is_over_progress (rows.Running attempt) = false
is_over_progress rows.Over = true

abbrev pub one : Bool → ℕ
one b = if b then 1 else 0

-- of a list of jobs, how many are in the node's subtree
unfoldable pub jobs_below : List Node → ℕ → List Job → ℕ
jobs_below nodes n [] = 0
jobs_below nodes n (job ∷ more) = one (is_below nodes n (node_of job)) + jobs_below nodes n more

-- and how many of these are over
unfoldable pub over_below : List Node → ℕ → List Job → List Progress → ℕ
over_below nodes n [] progress = 0
over_below nodes n (job ∷ more) [] = 0
over_below nodes n (job ∷ more) (p ∷ rest) = one (is_below nodes n (node_of job) && is_over_progress p) + over_below nodes n more rest

-- the counts of all jobs and of those that are over, for each node
pub record AreNumbered (nodes : List Node) (listed : List Job) (progress : List Progress) (all done : List ℕ) : Type 0 where
  pub all_long : length all ≡ length nodes
  pub done_long : length done ≡ length nodes
  pub all_counted : (n : ℕ) → get_or all n 0 ≡ jobs_below nodes n listed
  pub done_counted : (n : ℕ) → get_or done n 0 ≡ over_below nodes n listed progress

-- one past the place of the last job of each node's subtree, at least
abbrev pub AreEnded : List Node → List Job → List ℕ → Type 0
AreEnded nodes listed ends = (top k : ℕ) (job : Job) → slice_get listed k ≡ Some job → is_below nodes top (node_of job) ≡ true → k < get_or ends top 0
