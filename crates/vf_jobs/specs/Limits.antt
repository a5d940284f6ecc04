-- The limits of a plan's jobs (docs/FARM.md, "Jobs and their limits").
use Rattle.std.specs.Prelude.{◌≡◌, ℕ, ◌+◌, ◌≤◌, Bool, true, ◌&&◌, nat_lt, if◌then◌else◌, List, [], ◌∷◌, Option, Some, None, slice_get, unwrap_or}
use Rattle.vf_base.specs.declared.names.Job.{Job}
use Rattle.vf_base.specs.declared.names.Job.TheVariants.{Reach, Finish}
use Rattle.vf_base.specs.declared.names.NodeNo.{NodeNo}
use Rattle.vf_base.specs.declared.run.Limits.{Limits}
use Rattle.vf_plan.specs.declared.plan.Node.{Node}
use Rattle.vf_plan.specs.Paths.{path}
use Rattle.vf_plan.specs.Rules.{IsPlan}
use Rattle.vf_jobs.specs.Subtree.{is_below}

-- a test's limit on turns and on bytes written: its own, or what is given where it has none
abbrev pub turns_of : ℕ → Node → ℕ
turns_of given test = unwrap_or test.turns given

abbrev pub output_of : ℕ → Node → ℕ
output_of given test = unwrap_or test.output given

-- ---- the greatest limit of the tests of a subtree

abbrev pub larger : ℕ → ℕ → ℕ
larger a b = if nat_lt a b then b else a

abbrev pub greater : Option ℕ → Option ℕ → Option ℕ
greater None other = other
greater (Some a) None = Some a
greater (Some a) (Some b) = Some (larger a b)

-- the greatest limit of the tests for which `here` holds, among nodes numbered from n
unfoldable pub greatest_from : (Node → ℕ) → (ℕ → Bool) → ℕ → List Node → Option ℕ
greatest_from limit_of here n [] = None
greatest_from limit_of here n (node ∷ more) =
    greater (if node.test && here n then Some (limit_of node) else None) (greatest_from limit_of here (n + 1) more)

abbrev pub greatest_below : (Node → ℕ) → List Node → ℕ → Option ℕ
greatest_below limit_of nodes top = greatest_from limit_of (is_below nodes top) 0 nodes

-- ---- the limits of a job

-- what the first has that has something
abbrev pub first_some : (ℕ → Option ℕ) → List ℕ → Option ℕ
first_some f [] = None
first_some f (n ∷ more) = elim (f n) [ Some limit ↦ Some limit | None ↦ first_some f more ]

-- The limit of the job that reaches a node: the greatest of the tests in its subtree. Where there is none it is that of
-- the nearest node above that has one, and where none has, what is given.
abbrev pub reach_limit : (Node → ℕ) → ℕ → List Node → ℕ → ℕ
reach_limit limit_of given nodes n = unwrap_or (first_some (greatest_below limit_of nodes) (path nodes n)) given

-- each limit for itself
abbrev pub limits_at : Limits → List Node → ℕ → Limits
limits_at given nodes n = record {
  turns = reach_limit (turns_of given.turns) given.turns nodes n;
  output = reach_limit (output_of given.output) given.output nodes n;
}

abbrev pub limits_of_test : Limits → Node → Limits
limits_of_test given test = record { turns = turns_of given.turns test; output = output_of given.output test }

abbrev pub limits_of_found : Limits → Option Node → Limits
limits_of_found given (Some test) = limits_of_test given test
limits_of_found given None = given

-- the limits of a job, where those are given that a test without its own has
abbrev pub limits_of : Limits → List Node → Job → Limits
limits_of given nodes (Reach n) = limits_at given nodes n.0
limits_of given nodes (Finish n) = limits_of_found given (slice_get nodes n.0)

-- ---- laws

-- a limit of a parent's Reach is never below its child's
abbrev pub ReachLimitsFall : Type 0
ReachLimitsFall =
    (limit_of : Node → ℕ) (given : ℕ) (nodes : List Node) (n : ℕ) (node : Node) (parent : NodeNo)
    → IsPlan nodes → slice_get nodes n ≡ Some node → node.parent ≡ Some parent
    → reach_limit limit_of given nodes n ≤ reach_limit limit_of given nodes parent.0

-- and never below that of a test in its subtree
abbrev pub TestsAreWithin : Type 0
TestsAreWithin =
    (limit_of : Node → ℕ) (given : ℕ) (nodes : List Node) (top n : ℕ) (test : Node)
    → IsPlan nodes → slice_get nodes n ≡ Some test → test.test ≡ true → is_below nodes top n ≡ true
    → limit_of test ≤ reach_limit limit_of given nodes top
