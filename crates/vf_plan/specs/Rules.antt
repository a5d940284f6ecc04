-- The rules of a plan.
use Rattle.std.specs.Prelude.{◌≡◌, ℕ, ◌<◌, ◌≤◌, true, List, length, take, None, IfSome, slice_get}
use Rattle.std.specs.List.{list_any}
use Rattle.vf_plan.specs.declared.limits.TheConstants.{MOST_NODES, MOST_DEPTH, LONGEST_SEGMENT, LONGEST_PATH, LONGEST_EXPECTATION, MOST_TURNS, MOST_OUTPUT}
use Rattle.vf_plan.specs.declared.plan.Node.{Node}
use Rattle.vf_plan.specs.Form.{is_name}
use Rattle.vf_plan.specs.Paths.{path_to}
use Rattle.vf_plan.specs.Reading.{node_named}

-- what a node keeps to that stands after others
pub record IsNodeAfter (before : List Node) (node : Node) : Type 0 where
  pub name : is_name node.name ≡ true
  pub new : node_named node.name before ≡ None
  pub parent : IfSome node.parent (λ parent. parent.0 < length before)
  pub segment : length node.segment ≤ LONGEST_SEGMENT
  pub some : IfSome node.parent (λ parent. 0 < length node.segment)
  pub bytes : (path_to before node).bytes ≤ LONGEST_PATH
  pub depth : (path_to before node).nodes ≤ MOST_DEPTH
  pub expect : IfSome node.expect (λ bytes. length bytes ≤ LONGEST_EXPECTATION)
  pub turns : IfSome node.turns (λ turns. (1 ≤ turns) × (turns ≤ MOST_TURNS) × (node.test ≡ true))
  pub output : IfSome node.output (λ output. (output ≤ MOST_OUTPUT) × (node.test ≡ true))

-- what each plan is: 1 to 4,096 nodes, each lawful after those before it, and a test among them
pub record IsPlan (nodes : List Node) : Type 0 where
  pub some : 0 < length nodes
  pub most : length nodes ≤ MOST_NODES
  pub each : (n : ℕ) → IfSome (slice_get nodes n) (IsNodeAfter (take n nodes))
  pub tested : list_any (λ node. node.test) nodes ≡ true
