use Rattle.std.proofs.Common.{◌≡◌, ℕ, ◌+◌, ◌<◌, ◌≤◌, true, vec_len, vec_capacity}
use Rattle.vf_frames.specs.Numbers.{has, apart}
use Rattle.vf_frames.proofs.tally.all_free.Given as goal

abbrev pub invariant-loop-i : goal.invariant-loop-i
invariant-loop-i l = record {
  len : vec_len l.free ≡ l.i;
  room : l.frames ≤ vec_capacity l.free;
  once : apart l.free.items ≡ true;
  each : (f : ℕ) → has f l.free.items ≡ true → (l.frames ≤ f + l.i) × (f < l.frames);
}
