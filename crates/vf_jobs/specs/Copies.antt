-- What the run that reaches a node settles for the jobs of the node's subtree (docs/FARM.md, "Copies").
use Rattle.std.specs.Prelude.{◌≡◌, ℕ, true, List, Some}
use Rattle.vf_base.specs.declared.names.Job.{Job}
use Rattle.vf_base.specs.declared.names.Job.TheVariants.{Reach}
use Rattle.vf_base.specs.declared.names.NodeNo.{NodeNo}
use Rattle.vf_base.specs.declared.run.Header.{Header}
use Rattle.vf_base.specs.declared.run.Limits.{Limits}
use Rattle.vf_machine.specs.Machine.{Machine}
use Rattle.vf_machine.specs.Run.{turn_at}
use Rattle.vf_machine.specs.Solo.{turns_before_end}
use Rattle.vf_plan.specs.declared.plan.Node.{Node}
use Rattle.vf_plan.specs.Paths.{joined}
use Rattle.vf_plan.specs.Rules.{IsPlan}
use Rattle.vf_jobs.specs.Subtree.{is_below}
use Rattle.vf_jobs.specs.Limits.{limits_of}
use Rattle.vf_jobs.specs.Jobs.{node_of, fits, passing_fits, IsJob}
use Rattle.vf_jobs.specs.Kinds.{ended, over, outcome_of, kind_of_node}

-- what a run has counted when it has ended, the ending turn with it where that counts
abbrev pub header_at_end : {S : Type 0} → Machine S → List ℕ → Limits → Header
header_at_end m stim limits = (turn_at m stim limits (turns_before_end m stim limits)).after.header

-- what the solo run of a job has counted when it has ended
abbrev pub end_of_job : {S : Type 0} → Machine S → Limits → List Node → Job → Header
end_of_job m given nodes job = header_at_end m (joined nodes (node_of job)) (limits_of given nodes job)

-- a job comes to what the job that reaches a node comes to: the same outcome, and the same kind of the node that it reaches
pub record IsCopied {S : Type 0} (m : Machine S) (given : Limits) (budget : ℕ) (nodes : List Node) (top : NodeNo) (job : Job) : Type 0 where
  pub outcome : outcome_of m given budget nodes job ≡ outcome_of m given budget nodes (Reach top)
  pub kind : (n : NodeNo) → job ≡ Reach n → kind_of_node m given budget nodes n ≡ kind_of_node m given budget nodes top

-- Where the run that reaches a node ended before any read past the node's stimulus, every job of its subtree that the ending fits
-- comes to the same.
abbrev pub EndingIsCopied : {S : Type 0} → Machine S → Type 0
EndingIsCopied m =
    (given : Limits) (budget : ℕ) (nodes : List Node) (top : NodeNo) (job : Job) (t : ℕ)
    → IsPlan nodes → IsJob nodes job → is_below nodes top.0 (node_of job) ≡ true
    → kind_of_node m given budget nodes top ≡ Some (ended t)
    → fits (limits_of given nodes job) (end_of_job m given nodes (Reach top)) ≡ true
    → IsCopied m given budget nodes top job

-- The same where the run would pass the budget, of every job that the passing fits.
abbrev pub PassingIsCopied : {S : Type 0} → Machine S → Type 0
PassingIsCopied m =
    (given : Limits) (budget : ℕ) (nodes : List Node) (top : NodeNo) (job : Job) (t : ℕ)
    → IsPlan nodes → IsJob nodes job → is_below nodes top.0 (node_of job) ≡ true
    → kind_of_node m given budget nodes top ≡ Some (over t)
    → passing_fits (limits_of given nodes job) t (limits_of given nodes (Reach top)) ≡ true
    → IsCopied m given budget nodes top job
