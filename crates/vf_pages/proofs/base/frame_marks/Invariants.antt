use Rattle.std.proofs.Common.{◌≡◌, ◌+◌, length, take}
use Rattle.vf_pages.specs.Views.{pages_of}
use Rattle.vf_pages.specs.Bases.{AreMarked}
use Rattle.vf_pages.proofs.base.frame_marks.Given as goal

abbrev pub invariant-loop-one : goal.invariant-loop-one
invariant-loop-one l = record {
  marked : AreMarked (pages_of (take l.one-index l.held)) l.marks.items;
  long : length l.marks.items ≡ l.most + 1;
}
