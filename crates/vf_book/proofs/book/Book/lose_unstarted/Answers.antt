use Rattle.std.proofs.Common.{◌≡◌, true, sym, subst}
use Rattle.vf_journal.specs.Records.{is_ready}
use Rattle.vf_records.specs.Account.{farm_of, records_in}
use Rattle.vf_book.specs.Book.{BookView}
use Rattle.vf_book.proofs.Entries.{lost_unstarted}
use Rattle.vf_book.proofs.ImageLemmas.{lags_since, lags_lost}
use Rattle.vf_book.proofs.CallLemmas.{inside_images}
use Rattle.vf_book.proofs.book.Book.lose_unstarted.Goals as goal

pub lose-requires : goal.lose-requires
lose-requires g c =
    lost_unstarted c.self.inside.records c.args.job (subst (λ (v : BookView). is_ready (farm_of v.account.setup) (records_in v.account) c.args.job ≡ true) (sym c.self.view_is) c.requires.ready)

pub release_retired-requires-clause-lags : goal.release_retired-requires-clause-lags
release_retired-requires-clause-lags g c =
    lags_since c.self.inside.records c.lose.new.self c.self.inside.images.items c.entries-since.result c.entries-since.ensures
    (lags_lost c.self.inside.records c.lose.new.self c.self.inside.images.items c.self.invariant c.args.job 0 record { account = c.lose.ensures.journal; records = c.lose.ensures.records })

pub release_retired-requires-clause-images : goal.release_retired-requires-clause-images
release_retired-requires-clause-images g c = inside_images c.self.inside.records c.self.inside.images.items c.args.self.now c.self.view_is (g.F.Frames.name c.args.pool.now) c.requires.pool.images
