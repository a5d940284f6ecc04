use Rattle.std.proofs.Common.{◌≡◌, [], length, drop}
use Rattle.serde_json.specs.View.{items_view}
use Rattle.vf_plan.specs.Reading.{nodes_after}
use Rattle.vf_plan.proofs.read.read_nodes.Given as goal

-- the nodes so far, with those that the rest of the values write, are all nodes
abbrev pub invariant-loop-value : goal.invariant-loop-value
invariant-loop-value l =
    (nodes_after l.version l.reader (items_view (drop l.value-index l.values)) ≡ nodes_after l.version [] (items_view l.values))
    × (length l.reader ≡ l.value-index)
