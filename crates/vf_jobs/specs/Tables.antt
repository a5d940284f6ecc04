-- The tables from which the limits of jobs are read.
use Rattle.std.specs.Prelude.{◌≡◌, ℕ, ◌<◌, List, length, drop, Option, Some, None, get_or, option_map}
use Rattle.vf_base.specs.declared.run.Limits.{Limits}
use Rattle.vf_plan.specs.declared.plan.Node.{Node}
use Rattle.vf_jobs.specs.Subtree.{is_below}
use Rattle.vf_jobs.specs.Limits.{larger, turns_of, output_of, greatest_from, limits_at}

-- the greater of two limits, each for itself
abbrev pub greater_of : Limits → Option Limits → Limits
greater_of limits None = limits
greater_of limits (Some other) = record { turns = larger limits.turns other.turns; output = larger limits.output other.output }

-- the greatest limits of the tests from number k on in the subtree of a node
pub record IsGreatest (given : Limits) (nodes : List Node) (k top : ℕ) (found : Option Limits) : Type 0 where
  pub turns : option_map (λ (l : Limits). l.turns) found ≡ greatest_from (turns_of given.turns) (is_below nodes top) k (drop k nodes)
  pub output : option_map (λ (l : Limits). l.output) found ≡ greatest_from (output_of given.output) (is_below nodes top) k (drop k nodes)

pub record AreGreatest (given : Limits) (nodes : List Node) (k : ℕ) (tops : List (Option Limits)) : Type 0 where
  pub long : length tops ≡ length nodes
  pub each : (n : ℕ) → n < length nodes → IsGreatest given nodes k n (get_or tops n None)

-- the limits of the jobs that reach the first k nodes
pub record AreLimits (given : Limits) (nodes : List Node) (k : ℕ) (reach : List Limits) : Type 0 where
  pub long : length reach ≡ k
  pub each : (n : ℕ) → n < k → get_or reach n given ≡ limits_at given nodes n
