use Rattle.std.proofs.Common.{◌∙◌, ◌∷◌, List, Option, drop, sym, subst}
use Rattle.vf_frames.specs.Holders.{Keeps}
use Rattle.vf_journal.specs.declared.entry.Entry.TheVariants.{Saved}
use Rattle.vf_image.specs.Images.{Checkpoint}
use Rattle.vf_jobs.specs.Jobs.{node_of}
use Rattle.vf_book.specs.Book.{BookView, AreOf, Lags, Saves, holders}
use Rattle.vf_book.proofs.HolderLemmas.{are_of-put, are_of-renamed, keeps-on, keeps-put}
use Rattle.vf_book.proofs.CallLemmas.{made_of, inside_open, inside_images, outside_appends, outside_keeps, within_budget, serves_after}
use Rattle.vf_book.proofs.ImageLemmas.{lags_since}
use Rattle.vf_book.proofs.SaveLemmas.{place_empty}
use Rattle.vf_book.proofs.PutLemmas.{planned_reach, node_inside, node_unsaved, base_there_for, may_save, counts_saved, lags_put, saves_node}
use Rattle.vf_book.proofs.book.Book.put_image.Goals as goal

pub base_for-base-requires : goal.base_for-base-requires
base_for-base-requires g c = planned_reach c.self.inside.records c.self.inside.images.items c.self.invariant c.known.ensures c.args.sim
    (inside_open c.self.inside.records c.self.inside.images.items c.args.self.now c.self.view_is c.args.sim c.requires.open) c.stand-job.ensures.kept
    c.stand-job.result.0 c.stand-job.result.1 c.stand-job.ensures.job c.stand-job.ensures.header c.node_of-node.result c.node_of-node.ensures c.requires.at_save

pub keep-image-requires-clause-reach : goal.keep-image-requires-clause-reach
keep-image-requires-clause-reach g c = c.requires.at_save.job

pub keep-image-requires-clause-saved : goal.keep-image-requires-clause-saved
keep-image-requires-clause-saved g c = c.requires.at_save.saved

pub keep-image-requires-clause-base : goal.keep-image-requires-clause-base
keep-image-requires-clause-base g c =
    base_there_for c.self.inside.records c.self.inside.images.items c.self.invariant c.known.ensures c.args.sim
    (inside_open c.self.inside.records c.self.inside.images.items c.args.self.now c.self.view_is c.args.sim c.requires.open) c.stand-job.ensures.kept
    c.stand-job.result.0 c.stand-job.result.1 c.stand-job.ensures.job c.stand-job.ensures.header c.node_of-node.result c.node_of-node.ensures c.requires.at_save
    c.args.kind c.base_for-base.result c.base_for-base.ensures

pub put-requires : goal.put-requires
put-requires g c = node_inside c.self.inside.records c.self.inside.images.items c.self.invariant c.known.ensures c.args.sim
    (inside_open c.self.inside.records c.self.inside.images.items c.args.self.now c.self.view_is c.args.sim c.requires.open) c.stand-job.ensures.kept
    c.stand-job.result.0 c.stand-job.result.1 c.stand-job.ensures.job c.stand-job.ensures.header c.node_of-node.result c.node_of-node.ensures c.requires.at_save

pub save-requires-clause-lawful : goal.save-requires-clause-lawful
save-requires-clause-lawful g c = may_save c.self.inside.records c.self.inside.images.items c.self.invariant c.known.ensures c.args.sim
    (inside_open c.self.inside.records c.self.inside.images.items c.args.self.now c.self.view_is c.args.sim c.requires.open) c.stand-job.ensures.kept
    c.stand-job.result.0 c.stand-job.result.1 c.stand-job.ensures.job c.stand-job.ensures.header c.node_of-node.result c.node_of-node.ensures c.requires.at_save
    c.args.kind c.base_for-base.result c.base_for-base.ensures c.requires.kind
    (within_budget (g.F.Frames.name c.args.pool.now) c.args.self.now (g.F.Frames.seen c.args.hand.now) c.args.sim c.requires.pool c.requires.open c.requires.sim.name c.stand-job.ensures.within)
    c.keep-image.result c.keep-image.ensures.image c.own_pages.result c.own_pages.ensures.own c.own_pages.ensures.count c.own_pages.ensures.frames

pub save-requires-clause-counts : goal.save-requires-clause-counts
save-requires-clause-counts g c = counts_saved c.self.inside.records c.self.inside.images.items c.self.invariant c.known.ensures c.args.sim
    (inside_open c.self.inside.records c.self.inside.images.items c.args.self.now c.self.view_is c.args.sim c.requires.open) c.stand-job.ensures.kept
    c.stand-job.result.0 c.stand-job.result.1 c.stand-job.ensures.job c.stand-job.ensures.header c.node_of-node.result c.node_of-node.ensures c.requires.at_save
    c.args.kind c.base_for-base.result c.base_for-base.ensures c.requires.kind
    (within_budget (g.F.Frames.name c.args.pool.now) c.args.self.now (g.F.Frames.seen c.args.hand.now) c.args.sim c.requires.pool c.requires.open c.requires.sim.name c.stand-job.ensures.within)
    c.keep-image.result c.keep-image.ensures.image c.own_pages.result c.own_pages.ensures.own c.own_pages.ensures.count c.own_pages.ensures.frames

pub release_retired-requires-clause-lags : goal.release_retired-requires-clause-lags
release_retired-requires-clause-lags g c =
    subst (λ (xs : List (Option Checkpoint)). Lags c.save.new.self xs (drop c.entries-since.result c.save.new.self.journal)) (sym c.put.ensures)
    (lags_since c.self.inside.records c.save.new.self _ c.entries-since.result c.entries-since.ensures
    (lags_put c.self.inside.records c.self.inside.images.items c.self.invariant c.known.ensures c.args.sim
    (inside_open c.self.inside.records c.self.inside.images.items c.args.self.now c.self.view_is c.args.sim c.requires.open) c.stand-job.ensures.kept
    c.stand-job.result.0 c.stand-job.result.1 c.stand-job.ensures.job c.stand-job.ensures.header c.node_of-node.result c.node_of-node.ensures c.requires.at_save
    c.args.kind c.base_for-base.result c.base_for-base.ensures c.requires.kind
    (within_budget (g.F.Frames.name c.args.pool.now) c.args.self.now (g.F.Frames.seen c.args.hand.now) c.args.sim c.requires.pool c.requires.open c.requires.sim.name c.stand-job.ensures.within)
    c.keep-image.result c.keep-image.ensures.image c.own_pages.result c.own_pages.ensures.own c.own_pages.ensures.count c.own_pages.ensures.frames
    c.save.new.self record { account = c.save.ensures.journal; records = c.save.ensures.records }))

pub release_retired-requires-clause-images : goal.release_retired-requires-clause-images
release_retired-requires-clause-images g c =
    let old = g.F.Frames.name c.args.pool.now in
    let new = g.F.Frames.name c.keep-image.new.pool in
    subst (λ (xs : List (Option Checkpoint)). AreOf new xs) (sym c.put.ensures)
    (are_of-put new c.self.inside.images.items c.node_of-node.result.0 c.keep-image.result
    (node_inside c.self.inside.records c.self.inside.images.items c.self.invariant c.known.ensures c.args.sim
    (inside_open c.self.inside.records c.self.inside.images.items c.args.self.now c.self.view_is c.args.sim c.requires.open) c.stand-job.ensures.kept
    c.stand-job.result.0 c.stand-job.result.1 c.stand-job.ensures.job c.stand-job.ensures.header c.node_of-node.result c.node_of-node.ensures c.requires.at_save)
    (are_of-renamed old new c.self.inside.images.items c.keep-image.ensures.pool.name (inside_images c.self.inside.records c.self.inside.images.items c.args.self.now c.self.view_is (g.F.Frames.name c.args.pool.now) c.requires.pool.images))
    record { name = c.keep-image.ensures.rest.name ∙ c.requires.sim.name ∙ sym c.keep-image.ensures.pool.name; parts = c.keep-image.ensures.rest.parts ∙ c.requires.sim.parts })

pub returns-clause-entry : goal.returns-clause-entry
returns-clause-entry g c =
    subst (λ (v : BookView). Saves v.account c.save.new.self (record { 0 = node_of c.args.sim.job }) c.args.sim.header.turns c.args.kind) c.self.view_is
    (saves_node c.self.inside.records c.self.inside.images.items c.self.invariant c.known.ensures c.args.sim
    (inside_open c.self.inside.records c.self.inside.images.items c.args.self.now c.self.view_is c.args.sim c.requires.open) c.stand-job.ensures.kept
    c.stand-job.result.0 c.stand-job.result.1 c.stand-job.ensures.job c.stand-job.ensures.header c.node_of-node.result c.node_of-node.ensures c.requires.at_save
    c.args.kind c.base_for-base.result c.base_for-base.ensures c.requires.kind
    (within_budget (g.F.Frames.name c.args.pool.now) c.args.self.now (g.F.Frames.seen c.args.hand.now) c.args.sim c.requires.pool c.requires.open c.requires.sim.name c.stand-job.ensures.within)
    c.keep-image.result c.keep-image.ensures.image c.own_pages.result c.own_pages.ensures.own c.own_pages.ensures.count c.own_pages.ensures.frames
    c.save.new.self record { account = c.save.ensures.journal; records = c.save.ensures.records })

pub returns-clause-pool : goal.returns-clause-pool
returns-clause-pool g c =
    let e = Saved c.node_of-node.result c.stand-job.result.1.turns c.own_pages.result c.base_for-base.result in
    serves_after (g.F.Frames.name c.args.pool.now) (g.F.Frames.name c.release_retired.new.pool) c.args.self.now (made_of c.save.new.self c.release_retired.new.images.items)
    (g.F.Frames.seen c.args.hand.now) (g.F.Frames.seen c.release_retired.new.hand) e c.requires.pool
    (outside_appends c.self.inside.records c.self.inside.images.items c.args.self.now c.self.view_is e c.save.new.self record { account = c.save.ensures.journal; records = c.save.ensures.records })
    (c.release_retired.ensures.pool.name ∙ c.keep-image.ensures.pool.name) c.release_retired.ensures.hand.name c.release_retired.ensures.images

pub returns-clause-kept : goal.returns-clause-kept
returns-clause-kept g c =
    let first = g.F.Frames.numbers c.args.pool.now in
    let between = g.F.Frames.numbers c.keep-image.new.pool in
    let last = g.F.Frames.numbers c.release_retired.new.pool in
    let hand = g.F.Frames.seen c.args.hand.now in
    let sim = c.args.sim.pages.holder in
    let images = c.self.inside.images.items in
    let after = g.F.Frames.seen c.release_retired.new.hand ∷ holders c.release_retired.new.images.items in
    let inside = node_inside c.self.inside.records c.self.inside.images.items c.self.invariant c.known.ensures c.args.sim
    (inside_open c.self.inside.records c.self.inside.images.items c.args.self.now c.self.view_is c.args.sim c.requires.open) c.stand-job.ensures.kept
    c.stand-job.result.0 c.stand-job.result.1 c.stand-job.ensures.job c.stand-job.ensures.header c.node_of-node.result c.node_of-node.ensures c.requires.at_save in
    let none = node_unsaved c.self.inside.records c.self.inside.images.items c.self.invariant c.known.ensures c.args.sim
    (inside_open c.self.inside.records c.self.inside.images.items c.args.self.now c.self.view_is c.args.sim c.requires.open) c.stand-job.ensures.kept
    c.stand-job.result.0 c.stand-job.result.1 c.stand-job.ensures.job c.stand-job.ensures.header c.node_of-node.result c.node_of-node.ensures c.requires.at_save in
    outside_keeps c.self.inside.records images c.args.self.now c.self.view_is first last hand sim after
    (keeps-on first between last (hand ∷ sim ∷ holders images) (hand ∷ holders c.put.new.images.items) after
    (subst (λ (xs : List (Option Checkpoint)). Keeps first (hand ∷ sim ∷ holders images) between (hand ∷ holders xs)) (sym c.put.ensures)
    (keeps-put first between images c.node_of-node.result.0 c.keep-image.result hand sim inside (place_empty c.self.inside.records c.save.new.self images c.self.invariant c.node_of-node.result none) c.keep-image.ensures.kept))
    c.release_retired.ensures.kept)
