use Rattle.std.proofs.Common.{ℕ, ◌≤◌, take}
use Rattle.vf_pages.specs.Pages.{occurs, frames_in}
use Rattle.vf_pages.specs.Views.{pages_of}
use Rattle.vf_pages.proofs.base.greatest_frame.Given as goal

abbrev pub invariant-loop-one : goal.invariant-loop-one
invariant-loop-one l = (f : ℕ) → 1 ≤ occurs f (frames_in (pages_of (take l.one-index l.held))) → f ≤ l.most
