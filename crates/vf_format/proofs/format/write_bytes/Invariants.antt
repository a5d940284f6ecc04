use Rattle.std.proofs.Common.{◌≡◌, ◌≤◌, ◌++◌, length}
use Rattle.std.specs.Int.{div_ceil}
use Rattle.vf_format.specs.Printed.{falling, byte_at, bytes_text}
use Rattle.vf_format.proofs.format.write_bytes.Given as goal

abbrev pub invariant-loop-k : goal.invariant-loop-k
invariant-loop-k l = record {
  most : l.k ≤ div_ceil (length l.value.bits) 8;
  text : l.into ++ falling (byte_at l.value.bits) l.k ≡ l.fn.into ++ bytes_text l.value.bits;
}

abbrev pub decreases-loop-k : goal.decreases-loop-k
decreases-loop-k l = l.k
