use Rattle.std.proofs.Common.{◌≡◌, ◌≤◌, length}
use Rattle.std.specs.Int.{div_ceil}
use Rattle.vf_format.specs.Printed.{falling, byte_at, bytes_text, without_first}
use Rattle.vf_format.proofs.format.byte_count.Given as goal

abbrev pub invariant-loop-count : goal.invariant-loop-count
invariant-loop-count l = record {
  most : l.count ≤ div_ceil (length l.value.bits) 8;
  text : without_first 0 (falling (byte_at l.value.bits) l.count) ≡ bytes_text l.value.bits;
}

abbrev pub decreases-loop-count : goal.decreases-loop-count
decreases-loop-count l = l.count
