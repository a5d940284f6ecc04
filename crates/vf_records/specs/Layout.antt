-- Where the jobs of a plan stand in the tables.
use Rattle.std.specs.Prelude.{◌≡◌, ℕ, ◌+◌, ◌<◌, Bool, false, if◌then◌else◌, List, length, take, Some, get_or, slice_get}
use Rattle.vf_base.specs.declared.names.Job.{Job}
use Rattle.vf_base.specs.declared.names.Job.TheVariants.{Reach, Finish}
use Rattle.vf_plan.specs.declared.plan.Node.{Node}
use Rattle.vf_jobs.specs.Jobs.{has_child, jobs_from, node_of}
use Rattle.vf_records.specs.declared.layout.Place.{Place}

-- the places of a node's jobs after so many jobs
abbrev pub place_of_node : ℕ → Bool → Place
place_of_node before inner = record { reach = before; finish = before + (if inner then 1 else 0); inner = inner }

abbrev pub no_place : Place
no_place = place_of_node 0 false

abbrev pub place_at : Place → Job → ℕ
place_at p (Reach n) = p.reach
place_at p (Finish n) = p.finish

-- the place of a job, where the places of each node's jobs are told
abbrev pub place_in : List Place → Job → ℕ
place_in places job = place_at (get_or places (node_of job) no_place) job

-- the jobs of the first nodes of a plan, and their places
pub record IsLaidOut (nodes : List Node) (k : ℕ) (jobs : List Job) (places : List Place) : Type 0 where
  pub listed : jobs ≡ jobs_from nodes 0 (take k nodes)
  pub long : length places ≡ k
  pub placed : (i : ℕ) (job : Job) → slice_get jobs i ≡ Some job → place_in places job ≡ i
  pub within : (i : ℕ) (job : Job) → slice_get jobs i ≡ Some job → node_of job < k
  pub inner : (n : ℕ) → n < k → (get_or places n no_place).inner ≡ has_child nodes n
