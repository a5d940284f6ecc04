use Rattle.std.proofs.Common.{ℕ, ◌-◌, ◌<◌, ◌≤◌, length}
use Rattle.vf_patch.specs.Sorted.{address}
use Rattle.vf_patch.proofs.sorted.find.Given as goal

abbrev pub invariant-loop-low : goal.invariant-loop-low
invariant-loop-low l = record {
  order : l.low ≤ l.high;
  within : l.high ≤ length l.writes.items;
  below : (k : ℕ) → k < l.low → address l.writes.items k < l.at;
  above : (k : ℕ) → l.high ≤ k → k < length l.writes.items → l.at < address l.writes.items k;
}

abbrev pub decreases-loop-low : goal.decreases-loop-low
decreases-loop-low l = l.high - l.low
