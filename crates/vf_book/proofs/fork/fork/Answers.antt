use Rattle.std.proofs.Common.{◌≡◌, ◌<◌, ◌∙◌, true, length, Option, is_some, sym, ap, subst, IfOk}
use Rattle.std.specs.Prelude.{IfSome}
use Rattle.vf_base.specs.declared.names.NodeNo.{NodeNo}
use Rattle.vf_image.specs.Images.{Checkpoint}
use Rattle.vf_image.specs.Simulators.{Simulator}
use Rattle.vf_base.specs.declared.run.Header.{Header}
use Rattle.vf_book.specs.Book.{image_at}
use Rattle.vf_book.specs.Forks.{HasBaseIn, StandsAt}
use Rattle.vf_book.proofs.HolderLemmas.{keeps-refused}
use Rattle.vf_book.specs.Book.{holders}
use Rattle.vf_book.proofs.ForkLemmas.{base_there, has_base, keeps-source, lent_forked, ok_weaker, ok_both, either_weaker}
use Rattle.vf_book.proofs.fork.fork.Goals as goal

pub base_image-base-requires : goal.base_image-base-requires
base_image-base-requires g c =
    let images = c.args.images.now.items in
    let i = c.image_of-image.result.now in
    let source = c.requires.source.2 i c.image_of-image.ensures.image c.image_of-image.ensures.kept in
    subst (λ (b : Option NodeNo). IfSome b (λ m. (m.0 < length images) × (is_some (image_at images m.0) ≡ true))) (sym c.base.ensures) (base_there images i i.base source.base)

pub from_image-requires-clause-job : goal.from_image-requires-clause-job
from_image-requires-clause-job g c = (c.requires.source.2 c.image_of-image.result.now c.image_of-image.ensures.image c.image_of-image.ensures.kept).job

pub from_image-requires-clause-serves : goal.from_image-requires-clause-serves
from_image-requires-clause-serves g c = (c.requires.source.2 c.image_of-image.result.now c.image_of-image.ensures.image c.image_of-image.ensures.kept).serves

pub from_image-requires-clause-base : goal.from_image-requires-clause-base
from_image-requires-clause-base g c =
    let images = c.args.images.now.items in
    let i = c.image_of-image.result.now in
    let source = c.requires.source.2 i c.image_of-image.ensures.image c.image_of-image.ensures.kept in
    has_base images i c.base.result _ (sym c.base.ensures) (subst (HasBaseIn images i) (sym c.base.ensures) source.base) c.base_image-base.ensures.image

pub returns-clause-ok : goal.returns-clause-ok
returns-clause-ok g c = λ j there.
    let i = c.image_of-image.result.now in
    let is : i ≡ j = let here = c.image_of-image.ensures.image in cc in
    subst (λ (x : Checkpoint). IfOk c.from_image.result (λ (sim : Simulator). StandsAt x.setup c.args.job x.header.turns sim)) is
    (ok_both c.from_image.result (λ (sim : Simulator) made at. record { setup = made.0; job = made.1; turns = ap (λ (h : Header). h.turns) at.0; settled = at.2 }) c.from_image.ensures.setup c.from_image.ensures.header)

pub returns-clause-lent : goal.returns-clause-lent
returns-clause-lent g c =
    let i = c.image_of-image.result.now in
    let name = (c.requires.images c.args.node.0 i c.image_of-image.ensures.image).name ∙ sym c.from_image.ensures.pool.name in
    ok_weaker c.from_image.result (λ (sim : Simulator) forked. lent_forked (g.F.Frames.name c.from_image.new.pool) i _ (g.F.Frames.seen c.args.hand.now) (g.F.Frames.seen c.from_image.new.from) sim.pages name forked)
    c.from_image.ensures.forked

pub returns-clause-kept : goal.returns-clause-kept
returns-clause-kept g c =
    let images = c.args.images.now.items in
    let i = c.image_of-image.result.now in
    let source = c.requires.source.2 i c.image_of-image.ensures.image c.image_of-image.ensures.kept in
    let before = g.F.Frames.numbers c.args.pool.now in
    let after = g.F.Frames.numbers c.from_image.new.pool in
    let hand = g.F.Frames.seen c.args.hand.now in
    let hand' = g.F.Frames.seen c.from_image.new.from in
    either_weaker c.from_image.result
    (λ (sim : Simulator) k. keeps-source images i before after c.args.node c.args.job _ hand hand' sim.pages.holder c.base.result (sym c.base.ensures) source c.base_image-base.ensures.image k)
    (λ e k. keeps-refused before after hand hand' (holders images) k) c.from_image.ensures.kept
