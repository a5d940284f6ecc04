use Rattle.std.proofs.Common.{◌≡◌, ◌<◌, ℕ, None, ◌∷◌, length}
use Rattle.vf_frames.specs.Holders.{Keeps, SamePool}
use Rattle.vf_book.specs.Book.{holders, image_at, AreOf, HandKept}
use Rattle.vf_book.proofs.images.release_all.Given as goal

abbrev pub invariant-loop-at : goal.invariant-loop-at
invariant-loop-at g l = record {
  long : length l.images.items ≡ length l.records.setup.plan;
  gone : (n : ℕ) → n < l.at → image_at l.images.items n ≡ None;
  images : AreOf (g.F.Frames.name l.pool) l.images.items;
  hand : HandKept (g.F.Frames.seen l.fn.hand) (g.F.Frames.seen l.hand);
  kept : Keeps (g.F.Frames.numbers l.fn.pool) (g.F.Frames.seen l.fn.hand ∷ holders l.fn.images.items) (g.F.Frames.numbers l.pool) (g.F.Frames.seen l.hand ∷ holders l.images.items);
  pool : SamePool (g.F.Frames.name l.fn.pool) (g.F.Frames.numbers l.fn.pool) (g.F.Frames.name l.pool) (g.F.Frames.numbers l.pool);
}
