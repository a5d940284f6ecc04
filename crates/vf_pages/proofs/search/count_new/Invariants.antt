use Rattle.std.proofs.Common.{◌≡◌, ℕ, ◌+◌, ◌≤◌, true, length}
use Rattle.vf_pages.specs.Pages.{page_limit}
use Rattle.vf_pages.specs.Views.{pages_of}
use Rattle.vf_pages.specs.Writes.{AreWrites, touches, written_pages}
use Rattle.vf_pages.specs.Needs.{new_pages}
use Rattle.vf_pages.proofs.search.count_new.Given as goal

abbrev pub invariant-loop-first : goal.invariant-loop-first
invariant-loop-first l = record {
  rising : AreWrites l.words l.rest;
  counted : l.count + new_pages (pages_of l.held) (written_pages l.rest) ≡ new_pages (pages_of l.held) (written_pages l.writes);
  passed : (q : ℕ) → touches q l.rest ≡ true → l.count ≤ q;
  limit : l.count ≤ page_limit;
}

abbrev pub decreases-loop-first : goal.decreases-loop-first
decreases-loop-first l = length l.rest
