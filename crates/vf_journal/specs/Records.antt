-- What is known of jobs and images, in a running farm and in a journal that is replayed (docs/FARM.md, "The farm").
use Rattle.std.specs.Prelude.{ℕ, Bool, true, false, ◌&&◌, ◌==◌, List, [], Option, Some, None, unwrap_or}
use Rattle.std.specs.List.{list_any, find}
use Rattle.vf_base.specs.declared.names.Job.{Job}
use Rattle.vf_base.specs.declared.names.Job.TheVariants.{Reach, Finish}
use Rattle.vf_base.specs.declared.names.NodeNo.{NodeNo}
use Rattle.vf_base.specs.declared.run.Outcome.{Outcome}
use Rattle.vf_plan.specs.declared.plan.Node.{Node}
use Rattle.vf_jobs.specs.Jobs as jobs
use Rattle.vf_journal.specs.declared.entry.Kind.{Kind}
use Rattle.vf_journal.specs.declared.entry.Kind.TheVariants as kinds
use Rattle.vf_journal.specs.declared.entry.JobState.{JobState}
use Rattle.vf_journal.specs.declared.entry.JobState.TheVariants as states
use Rattle.vf_journal.specs.declared.entry.Told.{Told}
use Rattle.vf_journal.specs.declared.entry.Told.TheVariants as told
use Rattle.vf_journal.specs.Farm.{Farm}

-- an image that is held: the save point of its node, at a turn of the run that reaches it, with so many pages of its
-- own; an incremental one has a full image as its base
pub record Held : Type 0 where
  pub node : NodeNo
  pub turn : ℕ
  pub pages : ℕ
  pub base : Option NodeNo

-- an attempt at a job: the image it started from, if any; the full image that this one is or is based on; and the turn
-- at which it started, 0 at time zero
pub record Attempt : Type 0 where
  pub origin : Option NodeNo
  pub full : Option NodeNo
  pub since : ℕ

-- How far a job has come. An idle one waits or is ready. One that is over tells an outcome, or that it was lost; a Reach
-- that ended at its save point or passed it tells nothing.
pub data Stage : Type 0 where
  idle : Stage
  running : Attempt → Stage
  deferred : Stage
  over : Option Told → Stage

-- the kinds of nodes by number, the stages of jobs, the images held in the order in which they were saved, and whether
-- the workers have rested
pub record Records : Type 0 where
  pub kinds : ℕ → Kind
  pub stages : Job → Stage
  pub held : List Held
  pub rested : Bool

-- nothing has been done
abbrev pub at_first : Records
at_first = record { kinds = λ n. kinds.Unknown; stages = λ job. idle; held = []; rested = false }

-- ---- nodes and jobs

abbrev pub same_job : Job → Job → Bool
same_job (Reach a) (Reach b) = a.0 == b.0
same_job (Reach a) (Finish b) = false
same_job (Finish a) (Reach b) = false
same_job (Finish a) (Finish b) = a.0 == b.0

-- whether it is a job of the plan
abbrev pub is_job : List Node → Job → Bool
is_job nodes job = list_any (same_job job) (jobs.jobs nodes)

abbrev pub is_known : Kind → Bool
is_known kinds.Unknown = false
is_known (kinds.Saved turn) = true
is_known kinds.Passed = true
is_known kinds.Ended = true
is_known kinds.Over = true
is_known kinds.Lost = true

abbrev pub is_idle : Stage → Bool
is_idle idle = true
is_idle (running attempt) = false
is_idle deferred = false
is_idle (over tells) = false

abbrev pub is_running : Stage → Bool
is_running idle = false
is_running (running attempt) = true
is_running deferred = false
is_running (over tells) = false

abbrev pub is_deferred : Stage → Bool
is_deferred idle = false
is_deferred (running attempt) = false
is_deferred deferred = true
is_deferred (over tells) = false

abbrev pub is_over : Stage → Bool
is_over idle = false
is_over (running attempt) = false
is_over deferred = false
is_over (over tells) = true

-- it has not started, and nothing keeps it waiting
abbrev pub is_ready : {S : Type 0} → Farm S → Records → Job → Bool
is_ready f r job = is_job f.nodes job && (is_idle (r.stages job) && jobs.is_ready f.nodes (λ n. is_known (r.kinds n)) job)

abbrev pub idle_state : Bool → JobState
idle_state true = states.Ready
idle_state false = states.Waiting

abbrev pub state_at : Stage → Bool → JobState
state_at idle ready = idle_state ready
state_at (running attempt) ready = states.Running
state_at deferred ready = states.Deferred
state_at (over tells) ready = states.Over

-- the state of a job
abbrev pub state_of : {S : Type 0} → Farm S → Records → Job → JobState
state_of f r job = state_at (r.stages job) (is_ready f r job)

-- whether some job of the plan is in such a stage
abbrev pub some_job : {S : Type 0} → Farm S → (Job → Bool) → Bool
some_job f test = list_any test (jobs.jobs f.nodes)

-- ---- what is told

abbrev pub told_by : Stage → Option Told
told_by idle = None
told_by (running attempt) = None
told_by deferred = None
told_by (over tells) = tells

-- the outcome of its own run
abbrev pub own_outcome : Option Told → Option Outcome
own_outcome None = None
own_outcome (Some (told.Own outcome)) = Some outcome
own_outcome (Some (told.Copied node)) = None
own_outcome (Some told.Lost) = None

abbrev pub outcome_by : Records → Option Told → Option Outcome
outcome_by r None = None
outcome_by r (Some (told.Own outcome)) = Some outcome
outcome_by r (Some (told.Copied node)) = own_outcome (told_by (r.stages (Reach node)))
outcome_by r (Some told.Lost) = None

-- the outcome that is told of a job: its own, or that of the run whose outcome it has
abbrev pub outcome_told : Records → Job → Option Outcome
outcome_told r job = outcome_by r (told_by (r.stages job))

-- ---- images

-- the image of a node
abbrev pub image_of : Records → NodeNo → Option Held
image_of r node = find (λ h. h.node.0 == node.0) r.held

abbrev pub is_base : NodeNo → Option NodeNo → Bool
is_base node None = false
is_base node (Some base) = base.0 == node.0

-- an incremental image on it is held
abbrev pub is_pinned : Records → NodeNo → Bool
is_pinned r node = list_any (λ h. is_base node h.base) r.held

abbrev pub full_of : Held → NodeNo
full_of h = unwrap_or h.base h.node

abbrev pub attempt_from : Option Held → Attempt
attempt_from None = record { origin = None; full = None; since = 0 }
attempt_from (Some h) = record { origin = Some h.node; full = Some (full_of h); since = h.turn }
