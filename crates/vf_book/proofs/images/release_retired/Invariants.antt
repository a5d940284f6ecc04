use Rattle.std.proofs.Common.{drop}
use Rattle.vf_book.proofs.ReleaseLemmas.{Released}
use Rattle.vf_book.proofs.images.release_retired.Given as goal

abbrev pub invariant-loop-at : goal.invariant-loop-at
invariant-loop-at g l =
    Released l.records l.fn.images.items l.images.items (drop l.at l.records.journal) (g.F.Frames.name l.fn.pool) (g.F.Frames.name l.pool) (g.F.Frames.numbers l.fn.pool) (g.F.Frames.numbers l.pool)
    (g.F.Frames.seen l.fn.hand) (g.F.Frames.seen l.hand)
