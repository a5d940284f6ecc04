-- The subtree of a node, and what the runs of its jobs have in common (docs/FARM.md, "Jobs and their limits").
use Rattle.std.specs.Prelude.{◌≡◌, ℕ, ◌≤◌, Bool, true, ◌==◌, List, length}
use Rattle.std.specs.List.{list_any}
use Rattle.vf_base.specs.declared.run.Limits.{Limits}
use Rattle.vf_machine.specs.Machine.{Machine}
use Rattle.vf_machine.specs.Run.{moment_at}
use Rattle.vf_machine.specs.Laws.{IsUnlimited, SameFor}
use Rattle.vf_plan.specs.declared.plan.Node.{Node}
use Rattle.vf_plan.specs.Paths.{path, joined}
use Rattle.vf_plan.specs.Rules.{IsPlan}

-- a node's subtree is the node and all nodes below it: those whose paths go through it
abbrev pub is_below : List Node → ℕ → ℕ → Bool
is_below nodes top n = list_any (λ a. a == top) (path nodes n)

-- The solo runs of a node and of one below it are the same up to the turn that reads past the node's stimulus, whatever
-- their limits, as long as neither has ended by a limit.
abbrev pub SharesItsRun : {S : Type 0} → Machine S → Type 0
SharesItsRun m =
    (nodes : List Node) (top n : ℕ) (limits_top limits_n : Limits) (k : ℕ) → IsPlan nodes → is_below nodes top n ≡ true
    → IsUnlimited m (joined nodes top) limits_top k → IsUnlimited m (joined nodes n) limits_n k
    → (moment_at m (joined nodes top) limits_top k).header.reads ≤ length (joined nodes top)
    → SameFor m (joined nodes top) limits_top (joined nodes n) limits_n k
