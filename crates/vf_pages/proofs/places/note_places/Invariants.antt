use Rattle.vf_pages.specs.Views.{pages_of}
use Rattle.vf_pages.proofs.Tables.{IsFilled}
use Rattle.std.specs.Prelude.{length}
use Rattle.vf_pages.proofs.places.note_places.Given as goal

abbrev pub invariant-loop-i : goal.invariant-loop-i
invariant-loop-i l = IsFilled (length l.fn.places.items) l.i l.places.items (pages_of l.held.items)
