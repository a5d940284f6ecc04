-- How a Plan shows itself as its nodes, and what the reader keeps.
use Rattle.std.specs.Prelude.{◌≡◌, ℕ, ◌≤◌, List, length, map, IfSome, slice_get, take}
use Rattle.vf_plan.specs.declared.limits.TheConstants.{MOST_NODES, MOST_DEPTH, LONGEST_PATH}
use Rattle.vf_plan.specs.declared.plan.Node.{Node}
use Rattle.vf_plan.specs.declared.plan.Plan.TheInside.{Inside}
use Rattle.vf_plan.specs.declared.reader.Reader.TheInside as reader
use Rattle.vf_plan.specs.Paths.{path_sizes}
use Rattle.vf_plan.specs.Rules.{IsPlan, IsNodeAfter}

abbrev pub nodes_of : Inside → List Node
nodes_of p = p.nodes.items

abbrev pub IsKept : Inside → Type 0
IsKept p = IsPlan p.nodes.items

abbrev pub read_so_far : reader.Inside → List Node
read_so_far r = r.nodes.items

-- the names and the sizes of the paths are those of the nodes
pub record IsReader (r : reader.Inside) : Type 0 where
  pub named : map (λ name. name.items) r.names.keys ≡ map (λ node. node.name) r.nodes.items
  pub sized : r.paths.items ≡ path_sizes r.nodes.items
  pub few : length r.nodes.items ≤ MOST_NODES
  pub small : (n : ℕ) → IfSome (slice_get r.paths.items n) (λ path. (path.nodes ≤ MOST_DEPTH) × (path.bytes ≤ LONGEST_PATH))
  pub each : (n : ℕ) → IfSome (slice_get r.nodes.items n) (IsNodeAfter (take n r.nodes.items))
