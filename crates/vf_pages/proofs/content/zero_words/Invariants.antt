use Rattle.std.proofs.Common.{◌≡◌, ℕ, ◌+◌, ◌*◌, ◌<◌, length, get_or, slice_index}
use Rattle.vf_pages.proofs.content.zero_words.Given as goal

abbrev pub invariant-loop-i : goal.invariant-loop-i
invariant-loop-i l = (length l.words ≡ 64) × ((k : ℕ) → k < l.i → get_or l.words k 0 ≡ slice_index l.zero (64 * l.page + k))
