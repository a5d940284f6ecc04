use Rattle.std.proofs.Common.{◌≡◌, ℕ, length, get_or, take}
use Rattle.vf_records.specs.Counts.{jobs_below}
use Rattle.vf_records.proofs.counts.counted.Given as goal

-- the jobs so far are counted
abbrev pub invariant-loop-at : goal.invariant-loop-at
invariant-loop-at l = record {
  long : length l.counts.items ≡ length l.nodes;
  counted : (n : ℕ) → get_or l.counts.items n 0 ≡ jobs_below l.nodes n (take l.at l.jobs.items);
}
