use Rattle.vf_book.proofs.ImageLemmas.{lags_since, lags_pass}
use Rattle.vf_book.proofs.CallLemmas.{inside_open, inside_images, may_pass, within_budget, outside_appends, passed_as}
use Rattle.vf_book.proofs.book.Book.note_passed.Goals as goal

pub pass-requires : goal.pass-requires
pass-requires g c =
    may_pass c.self.inside.records c.args.sim (inside_open c.self.inside.records c.self.inside.images.items c.args.self.now c.self.view_is c.args.sim c.requires.open)
    c.stand-job.ensures.kept c.stand-job.result.0 c.stand-job.result.1 c.stand-job.ensures.job c.stand-job.ensures.header c.node_of.result
    (within_budget (g.F.Frames.name c.args.pool.now) c.args.self.now (g.F.Frames.seen c.args.hand.now) c.args.sim c.requires.pool c.requires.open c.requires.sim.name c.stand-job.ensures.within)
    c.requires.passing c.node_of.ensures

pub end_attempt-requires-clause-lags : goal.end_attempt-requires-clause-lags
end_attempt-requires-clause-lags g c =
    lags_since c.self.inside.records c.pass.new.self c.self.inside.images.items c.entries-since.result c.entries-since.ensures
    (lags_pass c.self.inside.records c.pass.new.self c.self.inside.images.items c.self.invariant c.node_of.result c.stand-job.result.1.turns
    record { account = c.pass.ensures.journal; records = c.pass.ensures.records })

pub end_attempt-requires-clause-images : goal.end_attempt-requires-clause-images
end_attempt-requires-clause-images g c = inside_images c.self.inside.records c.self.inside.images.items c.args.self.now c.self.view_is (g.F.Frames.name c.args.pool.now) c.requires.pool.images

pub returns-clause-entry : goal.returns-clause-entry
returns-clause-entry g c =
    outside_appends c.self.inside.records c.self.inside.images.items c.args.self.now c.self.view_is _ c.pass.new.self
    (passed_as c.args.sim c.stand-job.result.0 c.stand-job.result.1 c.stand-job.ensures.job c.stand-job.ensures.header c.self.inside.records c.pass.new.self c.node_of.result c.node_of.ensures
    record { account = c.pass.ensures.journal; records = c.pass.ensures.records })
