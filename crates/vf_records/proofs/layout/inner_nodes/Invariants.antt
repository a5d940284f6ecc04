use Rattle.std.proofs.Common.{◌≡◌, ℕ, length, get_or, take, false}
use Rattle.std.specs.List.{list_any}
use Rattle.vf_jobs.specs.Jobs.{is_child_of}
use Rattle.vf_plan.specs.declared.plan.Node.{Node}
use Rattle.vf_records.proofs.layout.inner_nodes.Given as goal

-- the parents of the nodes so far are marked
abbrev pub invariant-loop-at : goal.invariant-loop-at
invariant-loop-at l = record {
  long : length l.inner.items ≡ length l.plan;
  marked : (n : ℕ) → get_or l.inner.items n false ≡ list_any (λ (node : Node). is_child_of n node.parent) (take l.at l.plan);
}
