use Rattle.std.proofs.Common.{ℕ, ◌-◌, ◌<◌, ◌≤◌, length, slice_index}
use Rattle.vf_pages.specs.Pages.{pages_in}
use Rattle.vf_pages.specs.Views.{pages_of}
use Rattle.vf_pages.proofs.search.find.Given as goal

abbrev pub invariant-loop-low : goal.invariant-loop-low
invariant-loop-low l = record {
  order : l.low ≤ l.high;
  within : l.high ≤ length l.held;
  below : (k : ℕ) → k < l.low → slice_index (pages_in (pages_of l.held)) k < l.page;
  above : (k : ℕ) → l.high ≤ k → k < length l.held → l.page < slice_index (pages_in (pages_of l.held)) k;
}

abbrev pub decreases-loop-low : goal.decreases-loop-low
decreases-loop-low l = l.high - l.low
