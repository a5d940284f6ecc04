use Rattle.std.proofs.Common.{◌≡◌, ℕ, ◌<◌, ◌≤◌, vec_len, vec_capacity, slice_index, bit_or}
use Rattle.vf_frames.proofs.set.or_words.Given as goal

abbrev pub invariant-loop-i : goal.invariant-loop-i
invariant-loop-i l = record {
  len : vec_len l.words ≡ vec_len l.fn.words;
  capacity : vec_capacity l.words ≡ vec_capacity l.fn.words;
  done : (k : ℕ) → k < l.i → slice_index l.words.items k ≡ bit_or (slice_index l.fn.words.items k) (slice_index l.other.items k);
  rest : (k : ℕ) → l.i ≤ k → slice_index l.words.items k ≡ slice_index l.fn.words.items k;
}
