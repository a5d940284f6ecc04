use Rattle.std.proofs.Common.{◌≡◌, ◌≤◌, ◌++◌, length}
use Rattle.std.specs.Int.{div_ceil}
use Rattle.vf_format.specs.Printed.{falling, digit_at, digits_text}
use Rattle.vf_format.proofs.format.write_digits.Given as goal

abbrev pub invariant-loop-k : goal.invariant-loop-k
invariant-loop-k l = record {
  most : l.k ≤ div_ceil (length l.value.bits) l.size;
  text : l.into ++ falling (digit_at l.size l.value.bits) l.k ≡ l.fn.into ++ digits_text l.size l.least l.value.bits;
}

abbrev pub decreases-loop-k : goal.decreases-loop-k
decreases-loop-k l = l.k
