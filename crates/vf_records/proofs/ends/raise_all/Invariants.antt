use Rattle.std.proofs.Common.{◌≡◌, ℕ, ◌≤◌, length, get_or}
use Rattle.vf_records.proofs.EndLemmas.{Rises}
use Rattle.vf_records.proofs.ends.raise_all.Given as goal

-- the parents of the nodes from `at` on have been raised
abbrev pub invariant-loop-at : goal.invariant-loop-at
invariant-loop-at l = record {
  at : l.at ≤ length l.nodes;
  long : length l.most.items ≡ length l.nodes;
  grown : (n : ℕ) → get_or l.fn.most.items n 0 ≤ get_or l.most.items n 0;
  rises : Rises l.nodes l.most.items l.at;
}

abbrev pub decreases-loop-at : goal.decreases-loop-at
decreases-loop-at l = l.at
