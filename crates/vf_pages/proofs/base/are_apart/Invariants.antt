use Rattle.std.proofs.Common.{◌≡◌, ℕ, ◌≤◌, false, take}
use Rattle.vf_pages.specs.Pages.{occurs, frames_in}
use Rattle.vf_pages.specs.Views.{pages_of}
use Rattle.vf_pages.specs.Bases.{is_marked}
use Rattle.vf_pages.proofs.base.are_apart.Given as goal

-- no frame looked at so far is marked
abbrev pub invariant-loop-one : goal.invariant-loop-one
invariant-loop-one l = (f : ℕ) → 1 ≤ occurs f (frames_in (pages_of (take l.one-index l.base))) → is_marked l.marks.items f ≡ false
