use Rattle.std.proofs.Common.{◌∙◌, ◌∷◌}
use Rattle.vf_journal.specs.declared.entry.Entry.TheVariants.{End}
use Rattle.vf_book.specs.Book.{holders}
use Rattle.vf_book.proofs.HolderLemmas.{are_of-renamed, hand-then, hand-given, keeps-on, keeps-ended}
use Rattle.vf_book.proofs.ImageLemmas.{lags_since, lags_end}
use Rattle.vf_book.proofs.CallLemmas.{made_of, inside_open, inside_images, outside_appends, outside_keeps, may_end, counts_end, outcome_end, within_budget, serves_after}
use Rattle.vf_book.proofs.book.Book.end.Goals as goal

pub end-requires-clause-lawful : goal.end-requires-clause-lawful
end-requires-clause-lawful g c =
    may_end c.self.inside.records c.args.sim (inside_open c.self.inside.records c.self.inside.images.items c.args.self.now c.self.view_is c.args.sim c.requires.open)
    c.stand-job.ensures.kept c.stand-job.result.0 c.stand-job.result.1 c.stand-job.ensures.job c.stand-job.ensures.header c.args.ending c.args.turns
    (within_budget (g.F.Frames.name c.args.pool.now) c.args.self.now (g.F.Frames.seen c.args.hand.now) c.args.sim c.requires.pool c.requires.open c.requires.sim.name c.stand-job.ensures.within)
    c.requires.ending

pub end-requires-clause-counts : goal.end-requires-clause-counts
end-requires-clause-counts g c =
    counts_end c.self.inside.records c.args.sim (inside_open c.self.inside.records c.self.inside.images.items c.args.self.now c.self.view_is c.args.sim c.requires.open)
    c.stand-job.ensures.kept c.stand-job.result.0 c.stand-job.result.1 c.stand-job.ensures.job c.stand-job.ensures.header c.args.ending c.args.turns
    (within_budget (g.F.Frames.name c.args.pool.now) c.args.self.now (g.F.Frames.seen c.args.hand.now) c.args.sim c.requires.pool c.requires.open c.requires.sim.name c.stand-job.ensures.within)
    c.requires.ending

pub end-requires-clause-outcome : goal.end-requires-clause-outcome
end-requires-clause-outcome g c =
    outcome_end c.self.inside.records c.args.sim (inside_open c.self.inside.records c.self.inside.images.items c.args.self.now c.self.view_is c.args.sim c.requires.open)
    c.stand-job.ensures.kept c.stand-job.result.0 c.stand-job.result.1 c.stand-job.ensures.job c.stand-job.ensures.header c.args.ending c.args.turns c.give_back-text.result
    (within_budget (g.F.Frames.name c.args.pool.now) c.args.self.now (g.F.Frames.seen c.args.hand.now) c.args.sim c.requires.pool c.requires.open c.requires.sim.name c.stand-job.ensures.within)
    c.requires.ending c.give_back-text.ensures.text

pub release_retired-requires-clause-lags : goal.release_retired-requires-clause-lags
release_retired-requires-clause-lags g c =
    lags_since c.self.inside.records c.end.new.self c.self.inside.images.items c.entries-since.result c.entries-since.ensures
    (lags_end c.self.inside.records c.end.new.self c.self.inside.images.items c.self.invariant c.stand-job.result.0 c.args.turns
    record { account = c.end.ensures.journal; records = c.end.ensures.records })

pub release_retired-requires-clause-images : goal.release_retired-requires-clause-images
release_retired-requires-clause-images g c =
    are_of-renamed (g.F.Frames.name c.args.pool.now) (g.F.Frames.name c.give_back-text.new.pool) c.self.inside.images.items c.give_back-text.ensures.pool.name
    (inside_images c.self.inside.records c.self.inside.images.items c.args.self.now c.self.view_is (g.F.Frames.name c.args.pool.now) c.requires.pool.images)

pub returns-clause-pool : goal.returns-clause-pool
returns-clause-pool g c =
    let e = End c.stand-job.result.0 c.args.turns in
    serves_after (g.F.Frames.name c.args.pool.now) (g.F.Frames.name c.release_retired.new.pool) c.args.self.now (made_of c.end.new.self c.release_retired.new.images.items)
    (g.F.Frames.seen c.args.hand.now) (g.F.Frames.seen c.release_retired.new.hand) e c.requires.pool
    (outside_appends c.self.inside.records c.self.inside.images.items c.args.self.now c.self.view_is e c.end.new.self record { account = c.end.ensures.journal; records = c.end.ensures.records })
    (c.release_retired.ensures.pool.name ∙ c.give_back-text.ensures.pool.name) (c.release_retired.ensures.hand.name ∙ c.give_back-text.ensures.given.name) c.release_retired.ensures.images

pub returns-clause-hand : goal.returns-clause-hand
returns-clause-hand g c =
    hand-then (g.F.Frames.seen c.args.hand.now) (g.F.Frames.seen c.give_back-text.new.into) (g.F.Frames.seen c.release_retired.new.hand)
    (hand-given c.args.sim.pages (g.F.Frames.seen c.args.hand.now) (g.F.Frames.seen c.give_back-text.new.into) c.give_back-text.ensures.given) c.release_retired.ensures.hand

pub returns-clause-kept : goal.returns-clause-kept
returns-clause-kept g c =
    let first = g.F.Frames.numbers c.args.pool.now in
    let between = g.F.Frames.numbers c.give_back-text.new.pool in
    let last = g.F.Frames.numbers c.release_retired.new.pool in
    let hand = g.F.Frames.seen c.args.hand.now in
    let hand' = g.F.Frames.seen c.give_back-text.new.into in
    let sim = c.args.sim.pages.holder in
    let after = g.F.Frames.seen c.release_retired.new.hand ∷ holders c.release_retired.new.images.items in
    outside_keeps c.self.inside.records c.self.inside.images.items c.args.self.now c.self.view_is first last hand sim after
    (keeps-on first between last (hand ∷ sim ∷ holders c.self.inside.images.items) (hand' ∷ holders c.self.inside.images.items) after
    (keeps-ended first between hand sim hand' (holders c.self.inside.images.items) c.give_back-text.ensures.kept) c.release_retired.ensures.kept)
