use Rattle.std.proofs.Common.{◌≡◌, ◌+◌, ◌≤◌, [], ◌∷◌, vec_len, vec_capacity}
use Rattle.vf_frames.specs.Holders.{Keeps, SamePool}
use Rattle.vf_frames.specs.Calls.{SameRest, NotesGrow, NoWin}
use Rattle.vf_pages.specs.Pages.{IsSorted, Owns}
use Rattle.vf_pages.specs.Views.{pages_of}
use Rattle.vf_pages.specs.Puts.{puts}
use Rattle.vf_pages.proofs.install.put_pages.Given as goal

abbrev pub invariant-loop-one : goal.invariant-loop-one
invariant-loop-one g l = record {
  pages : puts (pages_of l.fresh.items) (pages_of l.held.items) ≡ puts (pages_of l.fn.fresh.items) (pages_of l.fn.held.items);
  sorted : IsSorted (pages_of l.held.items);
  fresh : IsSorted (pages_of l.fresh.items);
  owns : Owns (pages_of l.held.items) (pages_of l.fresh.items) (g.F.Frames.seen l.token).frames;
  room : vec_len l.held + vec_len l.fresh ≤ vec_capacity l.held;
  rest : SameRest (g.F.Frames.seen l.fn.token) (g.F.Frames.seen l.token);
  notes : NotesGrow NoWin (g.F.Frames.seen l.fn.token).notes (g.F.Frames.seen l.token).notes;
  kept : Keeps (g.F.Frames.numbers l.fn.pool) (g.F.Frames.seen l.fn.token ∷ []) (g.F.Frames.numbers l.pool) (g.F.Frames.seen l.token ∷ []);
  pool : SamePool (g.F.Frames.name l.fn.pool) (g.F.Frames.numbers l.fn.pool) (g.F.Frames.name l.pool) (g.F.Frames.numbers l.pool);
}

abbrev pub decreases-loop-one : goal.decreases-loop-one
decreases-loop-one g l = vec_len l.fresh
