use Rattle.std.proofs.Common.{◌≡◌, ◌∷◌, [], sym, subst}
use Rattle.vf_journal.specs.declared.entry.Entry.TheVariants.{Pages}
use Rattle.vf_journal.specs.Effects.{IsAlone}
use Rattle.vf_records.specs.Account.{records_in}
use Rattle.vf_book.specs.Book.{BookView, holders}
use Rattle.vf_book.proofs.ImageLemmas.{lags_since, lags_pages}
use Rattle.vf_book.proofs.CallLemmas.{made_of, inside_open, inside_images, outside_appends, outside_keeps, may_pass_budget, within_budget, serves_after}
use Rattle.vf_book.proofs.book.Book.over.Goals as goal

pub pass_budget-requires : goal.pass_budget-requires
pass_budget-requires g c =
    may_pass_budget c.self.inside.records c.args.sim (inside_open c.self.inside.records c.self.inside.images.items c.args.self.now c.self.view_is c.args.sim c.requires.open)
    c.stand-job.ensures.kept c.stand-job.result.0 c.stand-job.result.1 c.stand-job.ensures.job c.stand-job.ensures.header c.args.pages
    (within_budget (g.F.Frames.name c.args.pool.now) c.args.self.now (g.F.Frames.seen c.args.hand.now) c.args.sim c.requires.pool c.requires.open c.requires.sim.name c.stand-job.ensures.within)
    c.requires.over
    (subst (λ (v : BookView). IsAlone (records_in v.account) c.args.sim.job) (sym c.self.view_is) c.requires.alone)
    (subst (λ (v : BookView). (records_in v.account).held ≡ []) (sym c.self.view_is) c.requires.none)

pub end_attempt-requires-clause-lags : goal.end_attempt-requires-clause-lags
end_attempt-requires-clause-lags g c =
    lags_since c.self.inside.records c.pass_budget.new.self c.self.inside.images.items c.entries-since.result c.entries-since.ensures
    (lags_pages c.self.inside.records c.pass_budget.new.self c.self.inside.images.items c.self.invariant c.stand-job.result.0 c.stand-job.result.1.turns c.args.pages
    record { account = c.pass_budget.ensures.journal; records = c.pass_budget.ensures.records })

pub end_attempt-requires-clause-images : goal.end_attempt-requires-clause-images
end_attempt-requires-clause-images g c = inside_images c.self.inside.records c.self.inside.images.items c.args.self.now c.self.view_is (g.F.Frames.name c.args.pool.now) c.requires.pool.images

pub returns-clause-pool : goal.returns-clause-pool
returns-clause-pool g c =
    let e = Pages c.stand-job.result.0 c.stand-job.result.1.turns c.args.pages in
    serves_after (g.F.Frames.name c.args.pool.now) (g.F.Frames.name c.end_attempt.new.pool) c.args.self.now (made_of c.pass_budget.new.self c.end_attempt.new.images.items)
    (g.F.Frames.seen c.args.hand.now) (g.F.Frames.seen c.end_attempt.new.hand) e c.requires.pool
    (outside_appends c.self.inside.records c.self.inside.images.items c.args.self.now c.self.view_is e c.pass_budget.new.self record { account = c.pass_budget.ensures.journal; records = c.pass_budget.ensures.records })
    c.end_attempt.ensures.pool.name c.end_attempt.ensures.hand.name c.end_attempt.ensures.images

pub returns-clause-kept : goal.returns-clause-kept
returns-clause-kept g c =
    outside_keeps c.self.inside.records c.self.inside.images.items c.args.self.now c.self.view_is (g.F.Frames.numbers c.args.pool.now) (g.F.Frames.numbers c.end_attempt.new.pool)
    (g.F.Frames.seen c.args.hand.now) c.args.sim.pages.holder (g.F.Frames.seen c.end_attempt.new.hand ∷ holders c.end_attempt.new.images.items) c.end_attempt.ensures.kept
