use Rattle.vf_book.proofs.ImageLemmas.{lags_since, lags_lost}
use Rattle.vf_book.proofs.CallLemmas.{inside_open, inside_images, may_lose}
use Rattle.vf_book.proofs.book.Book.lose.Goals as goal

pub lose-requires : goal.lose-requires
lose-requires g c =
    may_lose c.self.inside.records c.args.sim (inside_open c.self.inside.records c.self.inside.images.items c.args.self.now c.self.view_is c.args.sim c.requires.open)
    c.stand-job.ensures.kept c.stand-job.result.0 c.stand-job.result.1 c.stand-job.ensures.job c.stand-job.ensures.header

pub end_attempt-requires-clause-lags : goal.end_attempt-requires-clause-lags
end_attempt-requires-clause-lags g c =
    lags_since c.self.inside.records c.lose.new.self c.self.inside.images.items c.entries-since.result c.entries-since.ensures
    (lags_lost c.self.inside.records c.lose.new.self c.self.inside.images.items c.self.invariant c.stand-job.result.0 c.stand-job.result.1.turns
    record { account = c.lose.ensures.journal; records = c.lose.ensures.records })

pub end_attempt-requires-clause-images : goal.end_attempt-requires-clause-images
end_attempt-requires-clause-images g c = inside_images c.self.inside.records c.self.inside.images.items c.args.self.now c.self.view_is (g.F.Frames.name c.args.pool.now) c.requires.pool.images
