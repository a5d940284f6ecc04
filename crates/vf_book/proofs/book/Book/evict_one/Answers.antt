use Rattle.std.proofs.Common.{◌≡◌, ◌∙◌, List, [], Option, None, refl, sym, subst}
use Rattle.std.specs.Prelude.{slice_set}
use Rattle.vf_journal.specs.declared.entry.Entry.TheVariants.{Evict}
use Rattle.vf_records.specs.Account.{records_in}
use Rattle.vf_image.specs.Images.{Checkpoint}
use Rattle.vf_book.specs.Book.{BookView, AreOf, IsBook, holders}
use Rattle.vf_book.proofs.Entries.{evict_lawful}
use Rattle.vf_book.proofs.HolderLemmas.{are_of-given, are_of-renamed}
use Rattle.vf_book.proofs.CallLemmas.{made_of, inside_images, outside_appends, serves_after, held_inside, evicted_book, none_held}
use Rattle.vf_book.proofs.book.Book.evict_one.Goals as goal

pub returns-in_default-clause-evicted : goal.returns-in_default-clause-evicted
returns-in_default-clause-evicted g c =
    let none = c.choose_evicted.ensures.none c.in_default.is in (
      refl,
      subst (λ (v : BookView). (records_in v.account).held ≡ []) c.self.view_is none,
      subst (λ (v : BookView). holders v.images ≡ []) c.self.view_is (none_held (made_of c.self.inside.records c.self.inside.images.items) c.self.invariant none),
    )

pub evict-requires : goal.evict-requires
evict-requires g c = evict_lawful c.self.inside.records c.in-Some.node c.known.ensures (sym c.choose_evicted.ensures.chosen ∙ c.in-Some.is)

pub give_back-requires-clause-node : goal.give_back-requires-clause-node
give_back-requires-clause-node g c =
    held_inside (made_of c.self.inside.records c.self.inside.images.items) c.in-Some.node c.self.invariant
    (evict_lawful c.self.inside.records c.in-Some.node c.known.ensures (sym c.choose_evicted.ensures.chosen ∙ c.in-Some.is)).guard.0

pub give_back-requires-clause-images : goal.give_back-requires-clause-images
give_back-requires-clause-images g c = inside_images c.self.inside.records c.self.inside.images.items c.args.self.now c.self.view_is (g.F.Frames.name c.args.pool.now) c.requires.pool.images

pub invariant_of-self : goal.invariant_of-self
invariant_of-self g c =
    subst (λ (xs : List (Option Checkpoint)). IsBook (made_of c.evict.new.self xs)) (sym c.give_back.ensures.images)
    (evicted_book c.self.inside.records c.evict.new.self c.self.inside.images.items c.in-Some.node c.self.invariant record { account = c.evict.ensures.journal; records = c.evict.ensures.records })

pub returns-clause-pool : goal.returns-clause-pool
returns-clause-pool g c =
    let e = Evict c.in-Some.node in
    serves_after (g.F.Frames.name c.args.pool.now) (g.F.Frames.name c.give_back.new.pool) c.args.self.now (made_of c.evict.new.self c.give_back.new.images.items)
    (g.F.Frames.seen c.args.hand.now) (g.F.Frames.seen c.give_back.new.hand) e c.requires.pool
    (outside_appends c.self.inside.records c.self.inside.images.items c.args.self.now c.self.view_is e c.evict.new.self record { account = c.evict.ensures.journal; records = c.evict.ensures.records })
    c.give_back.ensures.pool.name c.give_back.ensures.hand.name
    (subst (λ (xs : List (Option Checkpoint)). AreOf (g.F.Frames.name c.give_back.new.pool) xs) (sym c.give_back.ensures.images)
    (are_of-renamed (g.F.Frames.name c.args.pool.now) (g.F.Frames.name c.give_back.new.pool) (slice_set c.self.inside.images.items c.in-Some.node.0 None) c.give_back.ensures.pool.name
    (are_of-given (g.F.Frames.name c.args.pool.now) c.self.inside.images.items c.in-Some.node.0
    (inside_images c.self.inside.records c.self.inside.images.items c.args.self.now c.self.view_is (g.F.Frames.name c.args.pool.now) c.requires.pool.images))))
