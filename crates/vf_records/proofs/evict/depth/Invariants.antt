use Rattle.std.proofs.Common.{◌≡◌, ◌+◌, ◌<◌, ◌≤◌, IfSome, length}
use Rattle.vf_plan.specs.Paths.{path}
use Rattle.vf_records.proofs.ReadyLemmas.{above, height}
use Rattle.vf_records.proofs.evict.depth.Given as goal

-- so many nodes are behind, and the others stand from here up
abbrev pub invariant-nodes : goal.invariant-nodes
invariant-nodes l = record {
  there : IfSome l.at (λ node. node.0 < length l.plan);
  same : l.steps + length (above l.plan l.at) ≡ length (path l.plan l.fn.node.0);
  low : l.steps + height l.at ≤ l.fn.node.0 + 1;
}

abbrev pub decreases-nodes : goal.decreases-nodes
decreases-nodes l = height l.at
