use Rattle.vf_jobs.specs.Tables.{AreLimits}
use Rattle.vf_jobs.proofs.limits.reach_limits.Given as goal

-- the limits of the jobs that reach the nodes so far
abbrev pub invariant-loop-at : goal.invariant-loop-at
invariant-loop-at l = AreLimits l.given l.nodes l.at l.reach.items
