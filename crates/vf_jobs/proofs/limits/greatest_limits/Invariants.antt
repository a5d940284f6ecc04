use Rattle.std.proofs.Common.{◌≤◌, length}
use Rattle.vf_jobs.specs.Tables.{AreGreatest}
use Rattle.vf_jobs.proofs.limits.greatest_limits.Given as goal

-- the table is that of the nodes from `at` on
abbrev pub invariant-loop-at : goal.invariant-loop-at
invariant-loop-at l = (AreGreatest l.given l.nodes l.at l.tops.items) × (l.at ≤ length l.nodes)

abbrev pub decreases-loop-at : goal.decreases-loop-at
decreases-loop-at l = l.at
