use Rattle.std.proofs.Common.{◌≡◌, ◌≤◌}
use Rattle.vf_format.specs.Printed.{falling, digit_at, trimmed}
use Rattle.vf_format.proofs.format.without_zeros.Given as goal

abbrev pub invariant-loop-count : goal.invariant-loop-count
invariant-loop-count l = record {
  most : l.count ≤ l.digits;
  text : trimmed (falling (digit_at l.size l.value.bits) l.count) ≡ trimmed (falling (digit_at l.size l.value.bits) l.digits);
}

abbrev pub decreases-loop-count : goal.decreases-loop-count
decreases-loop-count l = l.count
