use Rattle.std.proofs.Common.{◌≡◌, ℕ, ◌-◌, ◌≤◌, max, vec_len, vec_capacity, slice_index}
use Rattle.vf_frames.proofs.set.lengthen.Given as goal

-- the words are the same, and no more than wanted are added
abbrev pub invariant-loop-words : goal.invariant-loop-words
invariant-loop-words l = record {
  same : (k : ℕ) → slice_index l.words.items k ≡ slice_index l.fn.words.items k;
  most : vec_len l.words ≤ max l.len (vec_len l.fn.words);
  capacity : vec_capacity l.words ≡ vec_capacity l.fn.words;
}

abbrev pub decreases-loop-words : goal.decreases-loop-words
decreases-loop-words l = l.len - vec_len l.words
