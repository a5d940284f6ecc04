use Rattle.std.proofs.Common.{◌∙◌, ◌∷◌, sym, subst}
use Rattle.vf_frames.specs.Holders.{Keeps}
use Rattle.vf_book.specs.Book.{holders}
use Rattle.vf_book.proofs.HolderLemmas.{keeps-given}
use Rattle.vf_book.proofs.images.give_back.Goals as goal

pub returns-clause-kept : goal.returns-clause-kept
returns-clause-kept g c =
    let here = g.F.Frames.seen c.args.hand.now in
    let last = g.F.Frames.seen c.give_back.new.into in
    let before = g.F.Frames.numbers c.args.pool.now in
    let after = g.F.Frames.numbers c.give_back.new.pool in
    subst (λ images. Keeps before (here ∷ holders c.args.images.now.items) after (last ∷ holders images)) (sym c.take_image.ensures.rest)
    (keeps-given before after c.args.images.now.items c.args.node.0 c.in-Some.image here last (sym c.take_image.ensures.image ∙ c.in-Some.is) c.give_back.ensures.kept)
