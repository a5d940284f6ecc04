use Rattle.std.proofs.Common.{◌≡◌, ◌<◌, length}
use Rattle.vf_jobs.specs.Subtree.{is_below}
use Rattle.vf_jobs.proofs.subtree.is_below.Given as goal

-- the node looked at is of the plan, and below the one asked for just where the first node is
abbrev pub invariant-nodes : goal.invariant-nodes
invariant-nodes l = record {
  there : l.at < length l.plan;
  same : is_below l.plan l.top.0 l.fn.node.0 ≡ is_below l.plan l.top.0 l.at;
}

abbrev pub decreases-nodes : goal.decreases-nodes
decreases-nodes l = l.at
