use Rattle.std.proofs.Common.{◌∙◌, ◌<◌, IfSome, length, sym, ap, subst}
use Rattle.vf_base.specs.declared.names.NodeNo.{NodeNo}
use Rattle.vf_book.specs.Book.{without}
use Rattle.vf_book.proofs.images.release_by.Goals as goal

pub give_back-requires-clause-node : goal.give_back-requires-clause-node
give_back-requires-clause-node g c = subst (λ o. IfSome o (λ (node : NodeNo). node.0 < length c.args.images.now.items)) c.in-Some.is c.requires.inside

pub returns-in_default-clause-images : goal.returns-in_default-clause-images
returns-in_default-clause-images g c = ap (λ o. without o c.args.images.now.items) (sym c.in_default.is)

pub returns-clause-images : goal.returns-clause-images
returns-clause-images g c = c.give_back.ensures.images ∙ ap (λ o. without o c.args.images.now.items) (sym c.in-Some.is)
