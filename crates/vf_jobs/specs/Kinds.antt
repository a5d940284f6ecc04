-- The save point and the kind of a node, on the solo run of the job that reaches it: the run of a machine on the node's
-- stimulus under that job's limits (docs/FARM.md, "Save points and kinds"). A number of turns t stands for the moment after
-- t turns.
use Rattle.std.specs.Prelude.{◌≡◌, ℕ, zero, suc, ◌+◌, ◌≤◌, Bool, true, false, ◌&&◌, ◌==◌, nat_lt, nat_le, List, length, Option, Some, None, is_some, unwrap_or, if◌then◌else◌}
use Rattle.vf_base.specs.declared.names.Job.{Job}
use Rattle.vf_base.specs.declared.names.Job.TheVariants.{Reach}
use Rattle.vf_base.specs.declared.names.NodeNo.{NodeNo}
use Rattle.vf_base.specs.declared.run.Limits.{Limits}
use Rattle.vf_base.specs.declared.run.Outcome.{Outcome}
use Rattle.vf_base.specs.declared.run.SaveKind.{SaveKind}
use Rattle.vf_base.specs.declared.run.SaveKind.TheVariants.{Full}
use Rattle.vf_machine.specs.declared.mark.Mark.{Mark}
use Rattle.vf_machine.specs.declared.mark.Mark.TheVariants.{Plain, Saved, Ended}
use Rattle.vf_machine.specs.Machine.{Machine}
use Rattle.vf_machine.specs.Search.{first}
use Rattle.vf_machine.specs.Run.{moment_at, turn_at, mark_at, reads_next}
use Rattle.vf_machine.specs.Pages.{pages_touched}
use Rattle.vf_machine.specs.Solo.{turns_before_end, solo}
use Rattle.vf_machine.specs.Laws.{SameFor}
use Rattle.vf_plan.specs.declared.plan.Node.{Node}
use Rattle.vf_plan.specs.Paths.{joined}
use Rattle.vf_plan.specs.Rules.{IsPlan}
use Rattle.vf_jobs.specs.Subtree.{is_below}
use Rattle.vf_jobs.specs.Limits.{limits_of}
use Rattle.vf_jobs.specs.Jobs.{node_of, fits}

abbrev pub save_of : Mark → Option SaveKind
save_of Plain = None
save_of (Saved kind) = Some kind
save_of (Ended ending) = None

-- all of the stimulus has been read, and nothing past it
abbrev pub all_read : {S : Type 0} → Machine S → List ℕ → Limits → ℕ → Bool
all_read m stim limits t = (moment_at m stim limits t).header.reads == length stim

-- the checkpoint that turn t, counted from 1, asked for when all of the stimulus had been read
abbrev pub save_at : {S : Type 0} → Machine S → List ℕ → Limits → ℕ → Option SaveKind
save_at m stim limits zero = None
save_at m stim limits (suc t) = if all_read m stim limits (suc t) then save_of (mark_at m stim limits t) else None

-- the save point: the first such turn, if there is one before the ending
abbrev pub savepoint : {S : Type 0} → Machine S → List ℕ → Limits → Option ℕ
savepoint m stim limits = first (λ t. is_some (save_at m stim limits t)) (turns_before_end m stim limits + 1)

-- the turns that the run counts, its ending included
abbrev pub turns_at_end : {S : Type 0} → Machine S → List ℕ → Limits → ℕ
turns_at_end m stim limits = (turn_at m stim limits (turns_before_end m stim limits)).after.header.turns

-- Saved at a turn with the kind of checkpoint; passed by a read past the stimulus; ended first; or over the budget first.
pub data Kind : Type 0 where
  saved : ℕ → SaveKind → Kind
  passed : ℕ → Kind
  ended : ℕ → Kind
  over : ℕ → Kind

abbrev pub is_at : ℕ → Option ℕ → Bool
is_at t None = false
is_at t (Some s) = s == t

abbrev pub is_saved : {S : Type 0} → Machine S → List ℕ → Limits → ℕ → ℕ → Bool
is_saved m stim limits budget t = is_at t (savepoint m stim limits) && nat_le (pages_touched m stim limits t) budget

-- the next turn would read past the stimulus, whether or not a limit ends the run before it
abbrev pub is_passed : {S : Type 0} → Machine S → List ℕ → Limits → ℕ → Bool
is_passed m stim limits t = all_read m stim limits t && reads_next m stim (moment_at m stim limits t)

-- the run goes on, and its next turn passes the budget
abbrev pub is_over : {S : Type 0} → Machine S → List ℕ → Limits → ℕ → ℕ → Bool
is_over m stim limits budget t = nat_lt t (turns_before_end m stim limits) && nat_lt budget (pages_touched m stim limits (suc t))

-- the kind that is decided after t turns; of several the first in this order
abbrev pub kind_at : {S : Type 0} → Machine S → List ℕ → Limits → ℕ → ℕ → Option Kind
kind_at m stim limits budget t =
    if is_saved m stim limits budget t then Some (saved t (unwrap_or (save_at m stim limits t) Full))
    else (if is_passed m stim limits t then Some (passed t)
    else (if turns_at_end m stim limits == t then Some (ended t)
    else (if is_over m stim limits budget t then Some (over t)
    else None)))

-- the first that is decided below n
unfoldable pub first_decided : (ℕ → Option Kind) → ℕ → Option Kind
first_decided decide zero = None
first_decided decide (suc n) = elim (first_decided decide n) [ Some kind ↦ Some kind | None ↦ decide n ]

-- the kind of a node: the one that is decided after the fewest turns
abbrev pub kind_of : {S : Type 0} → Machine S → List ℕ → Limits → ℕ → Option Kind
kind_of m stim limits budget = first_decided (kind_at m stim limits budget) (turns_at_end m stim limits + 1)

-- ---- a plan's nodes and jobs

-- the outcome of the solo run of a job
abbrev pub outcome_of : {S : Type 0} → Machine S → Limits → ℕ → List Node → Job → Outcome
outcome_of m given budget nodes job = solo m (joined nodes (node_of job)) (limits_of given nodes job) budget

abbrev pub savepoint_of_node : {S : Type 0} → Machine S → Limits → List Node → NodeNo → Option ℕ
savepoint_of_node m given nodes n = savepoint m (joined nodes n.0) (limits_of given nodes (Reach n))

abbrev pub kind_of_node : {S : Type 0} → Machine S → Limits → ℕ → List Node → NodeNo → Option Kind
kind_of_node m given budget nodes n = kind_of m (joined nodes n.0) (limits_of given nodes (Reach n)) budget

-- ---- laws

-- there is exactly one kind
abbrev pub HasOneKind : {S : Type 0} → Machine S → Type 0
HasOneKind m = (stim : List ℕ) (limits : Limits) (budget : ℕ) → (kind : Kind) × (kind_of m stim limits budget ≡ Some kind)

-- Up to a node's save point the solo run of the job that reaches it is that of each run on the stimulus of a node of its subtree
-- whose limits the checkpoint fits.
abbrev pub SharesItsSavePoint : {S : Type 0} → Machine S → Type 0
SharesItsSavePoint m =
    (nodes : List Node) (top n : ℕ) (limits_top limits_n : Limits) (t k : ℕ) → IsPlan nodes → is_below nodes top n ≡ true
    → savepoint m (joined nodes top) limits_top ≡ Some t → fits limits_n (moment_at m (joined nodes top) limits_top t).header ≡ true
    → k ≤ t → SameFor m (joined nodes top) limits_top (joined nodes n) limits_n k
