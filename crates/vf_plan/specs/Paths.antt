-- The paths of a plan, from a root to a node.
use Rattle.std.specs.Prelude.{ℕ, ◌+◌, List, [], ◌∷◌, ◌++◌, length, Option, Some, None, get_or}
use Rattle.vf_base.specs.declared.names.NodeNo.{NodeNo}
use Rattle.vf_plan.specs.declared.plan.Node.{Node}
use Rattle.vf_plan.specs.declared.plan.PathSize.{PathSize}

-- what the parent has, or what stands before a root
abbrev pub at_parent : {A : Type 0} → A → List A → Option NodeNo → A
at_parent start before None = start
at_parent start before (Some parent) = get_or before parent.0 start

-- what each node has, after those before it, where a node has what grows out of its parent's by its number and itself
unfoldable pub grown_after : {A : Type 0} → (A → ℕ → Node → A) → A → List A → List Node → List A
grown_after grow start before [] = before
grown_after grow start before (node ∷ more) =
    grown_after grow start (before ++ grow (at_parent start before node.parent) (length before) node ∷ []) more

-- what grows along the path from the root to each node of a plan
abbrev pub grown : {A : Type 0} → (A → ℕ → Node → A) → A → List Node → List A
grown grow start nodes = grown_after grow start [] nodes

abbrev pub with_segment : List ℕ → ℕ → Node → List ℕ
with_segment bytes n node = bytes ++ node.segment

-- the stimulus of a node: the segments from the root to it, one after the other
abbrev pub joined : List Node → ℕ → List ℕ
joined nodes n = get_or (grown with_segment [] nodes) n []

abbrev pub with_number : List ℕ → ℕ → Node → List ℕ
with_number above n node = n ∷ above

-- the path of a node: its number, its parent's, and so on up to its root's
abbrev pub path : List Node → ℕ → List ℕ
path nodes n = get_or (grown with_number [] nodes) n []

abbrev pub no_path : PathSize
no_path = record { nodes = 0; bytes = 0 }

abbrev pub longer : PathSize → ℕ → Node → PathSize
longer path n node = record { nodes = path.nodes + 1; bytes = path.bytes + length node.segment }

-- of each node: how many nodes are on the path from the root to it, and how many bytes their segments have
abbrev pub path_sizes : List Node → List PathSize
path_sizes nodes = grown longer no_path nodes

-- the size of the path to a node that stands after others
abbrev pub path_to : List Node → Node → PathSize
path_to before node = longer (at_parent no_path (path_sizes before) node.parent) (length before) node
