use Rattle.std.proofs.Common.{◌≡◌, ℕ, true, length, map}
use Rattle.std.specs.Prelude.{vec_capacity}
use Rattle.vf_pages.specs.Pages.{pages_in}
use Rattle.vf_pages.specs.Views.{pages_of}
use Rattle.vf_pages.specs.Writes.{AreWrites, touches}
use Rattle.vf_pages.specs.InPlace.{in_place}
use Rattle.vf_pages.specs.Places.{AtHand}
use Rattle.vf_pages.proofs.kept.write_kept.Given as goal

abbrev pub invariant-loop-first : goal.invariant-loop-first
invariant-loop-first l = record {
  rising : AreWrites l.words l.rest;
  capacity : vec_capacity l.held ≡ vec_capacity l.fn.held;
  numbers : pages_in (pages_of l.held.items) ≡ pages_in (pages_of l.fn.held.items);
  written : map (in_place l.rest (pages_of l.fresh.items)) (pages_of l.held.items) ≡ map (in_place l.writes (pages_of l.fresh.items)) (pages_of l.fn.held.items);
  taken : (p : ℕ) → touches p l.rest ≡ true → AtHand l.held.items (pages_of l.fresh.items) p;
}

abbrev pub decreases-loop-first : goal.decreases-loop-first
decreases-loop-first l = length l.rest
