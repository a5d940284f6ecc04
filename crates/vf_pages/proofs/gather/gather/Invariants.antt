use Rattle.std.proofs.Common.{◌≡◌, ℕ, true, false, length}
use Rattle.vf_frames.specs.Holders.{SamePool}
use Rattle.vf_pages.specs.Views.{pages_of}
use Rattle.vf_pages.specs.Writes.{touches}
use Rattle.vf_pages.specs.Places.{AtHand}
use Rattle.vf_pages.proofs.Progress.{Progress}
use Rattle.vf_pages.proofs.gather.gather.Given as goal

abbrev pub invariant-loop-first : goal.invariant-loop-first
invariant-loop-first g l = record {
  progress : Progress (length l.zero) l.zero (pages_of l.fn.held.items) l.writes l.rest
      (g.F.Frames.numbers l.fn.pool) (g.F.Frames.seen l.fn.token) (g.F.Frames.numbers l.pool) (g.F.Frames.seen l.token) (pages_of l.fresh.items);
  pages : pages_of l.held.items ≡ pages_of l.fn.held.items;
  taken : (p : ℕ) → touches p l.writes ≡ true → touches p l.rest ≡ false → AtHand l.held.items (pages_of l.fresh.items) p;
  pool : SamePool (g.F.Frames.name l.fn.pool) (g.F.Frames.numbers l.fn.pool) (g.F.Frames.name l.pool) (g.F.Frames.numbers l.pool);
}

abbrev pub decreases-loop-first : goal.decreases-loop-first
decreases-loop-first g l = length l.rest
