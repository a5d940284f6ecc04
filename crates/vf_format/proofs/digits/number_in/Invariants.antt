use Rattle.std.proofs.Common.{◌≡◌, ◌-◌, ◌^◌, ◌<◌, ◌≤◌, take, drop}
use Rattle.vf_fours.specs.Numbers.{number}
use Rattle.vf_format.proofs.digits.number_in.Given as goal

abbrev pub invariant-loop-at : goal.invariant-loop-at
invariant-loop-at l = record {
  low : l.low ≤ l.at;
  high : l.at ≤ l.high;
  is : l.number ≡ number (take (l.high - l.at) (drop l.at l.value.bits));
  fits : l.number < 2 ^ (l.high - l.at);
}

abbrev pub decreases-loop-at : goal.decreases-loop-at
decreases-loop-at l = l.at
