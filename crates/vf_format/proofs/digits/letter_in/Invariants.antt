use Rattle.std.proofs.Common.{◌-◌, ◌≤◌, take, drop}
use Rattle.vf_format.specs.Seen.{Tells}
use Rattle.vf_format.proofs.digits.letter_in.Given as goal

abbrev pub invariant-loop-at : goal.invariant-loop-at
invariant-loop-at l = record {
  low : l.low ≤ l.at;
  high : l.at ≤ l.high;
  tells : Tells l.seen (take (l.high - l.at) (drop l.at l.value.bits));
}

abbrev pub decreases-loop-at : goal.decreases-loop-at
decreases-loop-at l = l.at
