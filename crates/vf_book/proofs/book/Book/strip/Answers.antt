use Rattle.std.proofs.Common.{[], ◌∷◌, List, subst}
use Rattle.vf_frames.specs.declared.holder.Holder.{Holder}
use Rattle.vf_frames.specs.Holders.{Keeps}
use Rattle.vf_book.specs.Book.{holders}
use Rattle.vf_book.proofs.CallLemmas.{inside_images, outside_keeps_hand}
use Rattle.vf_book.proofs.book.Book.strip.Goals as goal

pub release_all-requires-clause-images : goal.release_all-requires-clause-images
release_all-requires-clause-images g c = inside_images c.self.inside.records c.self.inside.images.items c.args.self c.self.view_is (g.F.Frames.name c.args.pool.now) c.requires.pool.images

pub returns-clause-kept : goal.returns-clause-kept
returns-clause-kept g c =
    let here = g.F.Frames.seen c.args.hand.now in
    let last = g.F.Frames.seen c.release_all.new.hand in
    let before = g.F.Frames.numbers c.args.pool.now in
    let after = g.F.Frames.numbers c.release_all.new.pool in
    outside_keeps_hand c.self.inside.records c.self.inside.images.items c.args.self c.self.view_is before after here (last ∷ [])
    (subst (λ (hs : List Holder). Keeps before (here ∷ holders c.self.inside.images.items) after (last ∷ hs)) c.release_all.ensures.none c.release_all.ensures.kept)
