use Rattle.std.proofs.Common.{◌≡◌, ◌≤◌, take, length}
use Rattle.std.specs.Prelude.{vec_capacity}
use Rattle.vf_pages.specs.Views.{pages_of}
use Rattle.vf_pages.proofs.share.share.Given as goal

abbrev pub invariant-loop-one : goal.invariant-loop-one
invariant-loop-one l = record {
  pages : pages_of l.copy.items ≡ pages_of (take l.one-index l.held);
  len : length l.copy.items ≡ l.one-index;
  room : length l.held ≤ vec_capacity l.copy;
}
