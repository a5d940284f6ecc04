use Rattle.std.proofs.Common.{◌≡◌, ◌+◌, true, List, ◌++◌, vec_len, vec_capacity}
use Rattle.std.specs.Prelude.{reverse}
use Rattle.vf_frames.specs.Numbers.{rises}
use Rattle.vf_pages.specs.Pages.{Page, IsSorted, entry, pages_in}
use Rattle.vf_pages.specs.Views.{pages_of}
use Rattle.vf_pages.specs.Puts.{puts}
use Rattle.vf_pages.proofs.merge.take_page.Given as goal

abbrev pub invariant-loop-one : goal.invariant-loop-one
invariant-loop-one l = record {
  puts : (es : List Page) → rises 0 (l.page + 1) (pages_in es) ≡ true → puts es (pages_of l.held.items) ++ pages_of (reverse l.behind.items) ≡ puts es (pages_of l.fn.held.items) ++ pages_of (reverse l.fn.behind.items);
  sorted : IsSorted (pages_of l.held.items);
  entry : entry l.page (pages_of l.held.items) ≡ entry l.page (pages_of l.fn.held.items);
  len : vec_len l.held + vec_len l.behind ≡ vec_len l.fn.held + vec_len l.fn.behind;
  held_capacity : vec_capacity l.held ≡ vec_capacity l.fn.held;
  behind_capacity : vec_capacity l.behind ≡ vec_capacity l.fn.behind;
}

abbrev pub decreases-loop-one : goal.decreases-loop-one
decreases-loop-one l = vec_len l.held
