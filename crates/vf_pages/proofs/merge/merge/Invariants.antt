use Rattle.std.proofs.Common.{◌≡◌, ℕ, ◌+◌, ◌≤◌, cond, [], ◌∷◌, ◌++◌, vec_len, vec_capacity}
use Rattle.std.specs.Prelude.{reverse}
use Rattle.vf_frames.specs.Numbers.{has}
use Rattle.vf_frames.specs.Holders.{Keeps, SamePool}
use Rattle.vf_frames.specs.Calls.{SameRest, NotesGrow, NoWin}
use Rattle.vf_pages.specs.Pages.{IsSorted, frames_in, occurs}
use Rattle.vf_pages.specs.Views.{pages_of}
use Rattle.vf_pages.specs.Puts.{puts}
use Rattle.vf_pages.proofs.merge.merge.Given as goal

abbrev pub invariant-loop-one : goal.invariant-loop-one
invariant-loop-one g l = record {
  pages : puts (pages_of l.fresh.items) (pages_of l.held.items) ++ pages_of (reverse l.behind.items) ≡ puts (pages_of l.fn.fresh.items) (pages_of l.fn.held.items);
  sorted : IsSorted (pages_of l.held.items);
  fresh : IsSorted (pages_of l.fresh.items);
  owns : (f : ℕ) → occurs f (frames_in (pages_of l.held.items ++ pages_of (reverse l.behind.items))) + occurs f (frames_in (pages_of l.fresh.items)) ≡ cond (has f (g.F.Frames.seen l.token).frames) 1 0;
  room : vec_len l.held + vec_len l.fresh + vec_len l.behind ≤ vec_capacity l.held;
  behind : vec_len l.held + vec_len l.fresh + vec_len l.behind ≤ vec_capacity l.behind;
  rest : SameRest (g.F.Frames.seen l.fn.token) (g.F.Frames.seen l.token);
  notes : NotesGrow NoWin (g.F.Frames.seen l.fn.token).notes (g.F.Frames.seen l.token).notes;
  kept : Keeps (g.F.Frames.numbers l.fn.pool) (g.F.Frames.seen l.fn.token ∷ []) (g.F.Frames.numbers l.pool) (g.F.Frames.seen l.token ∷ []);
  pool : SamePool (g.F.Frames.name l.fn.pool) (g.F.Frames.numbers l.fn.pool) (g.F.Frames.name l.pool) (g.F.Frames.numbers l.pool);
}

abbrev pub decreases-loop-one : goal.decreases-loop-one
decreases-loop-one g l = vec_len l.fresh
