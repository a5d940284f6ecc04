use Rattle.std.proofs.Common.{[], ◌∷◌, take}
use Rattle.vf_frames.specs.Holders.{Keeps, SamePool}
use Rattle.vf_frames.specs.Calls.{SameRest, NotesGrow, NoWin}
use Rattle.vf_pages.specs.Pages.{Takes}
use Rattle.vf_pages.specs.Views.{pages_of}
use Rattle.vf_pages.proofs.share.hold_all.Given as goal

abbrev pub invariant-loop-one : goal.invariant-loop-one
invariant-loop-one g l = record {
  held : Takes (pages_of (take l.one-index l.held)) (g.F.Frames.seen l.fn.token).frames (g.F.Frames.seen l.token).frames;
  rest : SameRest (g.F.Frames.seen l.fn.token) (g.F.Frames.seen l.token);
  notes : NotesGrow NoWin (g.F.Frames.seen l.fn.token).notes (g.F.Frames.seen l.token).notes;
  kept : Keeps (g.F.Frames.numbers l.fn.pool) (g.F.Frames.seen l.from ∷ g.F.Frames.seen l.fn.token ∷ [])
      (g.F.Frames.numbers l.pool) (g.F.Frames.seen l.from ∷ g.F.Frames.seen l.token ∷ []);
  pool : SamePool (g.F.Frames.name l.fn.pool) (g.F.Frames.numbers l.fn.pool) (g.F.Frames.name l.pool) (g.F.Frames.numbers l.pool);
}
