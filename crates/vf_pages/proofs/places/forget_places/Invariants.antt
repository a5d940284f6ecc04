use Rattle.std.proofs.Common.{◌≡◌, ℕ, ◌<◌, length, slice_index}
use Rattle.vf_pages.proofs.places.forget_places.Given as goal

abbrev pub invariant-loop-i : goal.invariant-loop-i
invariant-loop-i l = record {
  long : length l.places.items ≡ length l.fn.places.items;
  none : (p : ℕ) → p < l.i → slice_index l.places.items p ≡ 0;
}
