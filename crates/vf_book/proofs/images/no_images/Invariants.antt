use Rattle.std.proofs.Common.{◌≡◌, None, replicate}
use Rattle.vf_book.proofs.images.no_images.Given as goal

abbrev pub invariant-loop : goal.invariant-loop
invariant-loop g l = l.images.items ≡ replicate l.counter None
