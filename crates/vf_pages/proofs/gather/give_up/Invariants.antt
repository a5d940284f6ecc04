use Rattle.std.proofs.Common.{◌≡◌, ℕ, ◌+◌, cond, [], ◌∷◌, vec_len}
use Rattle.vf_frames.specs.Numbers.{has}
use Rattle.vf_frames.specs.Holders.{Keeps, SamePool}
use Rattle.vf_frames.specs.Calls.{SameRest, NotesGrow, NoWin}
use Rattle.vf_pages.specs.Pages.{occurs, frames_in, Covers}
use Rattle.vf_pages.specs.Views.{pages_of}
use Rattle.vf_pages.proofs.gather.give_up.Given as goal

abbrev pub invariant-loop-one : goal.invariant-loop-one
invariant-loop-one g l = record {
  covers : Covers (pages_of l.fresh.items) (g.F.Frames.seen l.token).frames;
  released : (f : ℕ) → cond (has f (g.F.Frames.seen l.token).frames) 1 0 + occurs f (frames_in (pages_of l.fn.fresh.items))
      ≡ cond (has f (g.F.Frames.seen l.fn.token).frames) 1 0 + occurs f (frames_in (pages_of l.fresh.items));
  rest : SameRest (g.F.Frames.seen l.fn.token) (g.F.Frames.seen l.token);
  notes : NotesGrow NoWin (g.F.Frames.seen l.fn.token).notes (g.F.Frames.seen l.token).notes;
  kept : Keeps (g.F.Frames.numbers l.fn.pool) (g.F.Frames.seen l.fn.token ∷ []) (g.F.Frames.numbers l.pool) (g.F.Frames.seen l.token ∷ []);
  pool : SamePool (g.F.Frames.name l.fn.pool) (g.F.Frames.numbers l.fn.pool) (g.F.Frames.name l.pool) (g.F.Frames.numbers l.pool);
}

abbrev pub decreases-loop-one : goal.decreases-loop-one
decreases-loop-one g l = vec_len l.fresh
