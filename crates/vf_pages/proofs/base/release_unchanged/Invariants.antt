use Rattle.std.proofs.Common.{[], ◌∷◌, length}
use Rattle.vf_frames.specs.Holders.{Keeps, SamePool}
use Rattle.vf_frames.specs.Calls.{SameRest, NotesGrow, NoWin}
use Rattle.vf_pages.specs.Views.{pages_of}
use Rattle.vf_pages.proofs.Bases.{Released_so_far}
use Rattle.vf_pages.proofs.base.release_unchanged.Given as goal

-- the token has the frames of the pages kept so far and of those after them
abbrev pub invariant-loop-one : goal.invariant-loop-one
invariant-loop-one g l = record {
  frames : Released_so_far (pages_of l.base) (pages_of l.held) (pages_of l.rest) (g.F.Frames.seen l.token).frames;
  rest : SameRest (g.F.Frames.seen l.fn.token) (g.F.Frames.seen l.token);
  notes : NotesGrow NoWin (g.F.Frames.seen l.fn.token).notes (g.F.Frames.seen l.token).notes;
  kept : Keeps (g.F.Frames.numbers l.fn.pool) (g.F.Frames.seen l.fn.token ∷ []) (g.F.Frames.numbers l.pool) (g.F.Frames.seen l.token ∷ []);
  pool : SamePool (g.F.Frames.name l.fn.pool) (g.F.Frames.numbers l.fn.pool) (g.F.Frames.name l.pool) (g.F.Frames.numbers l.pool);
}

abbrev pub decreases-loop-one : goal.decreases-loop-one
decreases-loop-one g l = length l.rest
