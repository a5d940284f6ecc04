use Rattle.std.proofs.Common.{◌≡◌, ℕ, ◌+◌, ◌*◌, ◌<◌, length, slice_index, take}
use Rattle.vf_pages.specs.Writes.{written}
use Rattle.vf_pages.proofs.content.write_words.Given as goal

abbrev pub invariant-loop-write : goal.invariant-loop-write
invariant-loop-write l = record {
  len : length l.words ≡ 64;
  each : (i : ℕ) → i < 64 → slice_index l.words i ≡ written (take l.write-index l.writes) (64 * l.page + i) (slice_index l.fn.words i);
}
