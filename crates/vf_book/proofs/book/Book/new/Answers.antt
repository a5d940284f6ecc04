use Rattle.std.proofs.Common.{◌≡◌, ◌∙◌, Option, None, List, length, replicate, ap, arith}
use Rattle.std.specs.Arc.{arc_value}
use Rattle.vf_jobs.specs.Setup.{Conditions}
use Rattle.vf_image.specs.Images.{Checkpoint}
use Rattle.vf_book.specs.Book.{holders}
use Rattle.vf_book.proofs.HolderLemmas.{holders-none}
use Rattle.vf_book.proofs.CallLemmas.{new_book}
use Rattle.vf_book.proofs.book.Book.new.Goals as goal

pub invariant_of-result : goal.invariant_of-result
invariant_of-result g c =
    let whole = c.plan.view_is ∙ ap (λ (s : Conditions). s.plan) (c.behind-setup.view_is ∙ c.deref.ensures) in
    let long = ap length whole in
    let count : c.len.result ≡ length (arc_value c.args.setup.now).plan = omega (arith, long, c.len.ensures, c.plan.inside.nodes.ok.0) in
    new_book (arc_value c.args.setup.now) c.in_ok-records.records c.in_ok-images.images.items c.in_ok-records.ensures (c.in_ok-images.ensures ∙ ap (λ n. replicate n None) count)

pub returns-clause-images : goal.returns-clause-images
returns-clause-images g c = ap (λ (is : List (Option Checkpoint)). holders is) c.in_ok-images.ensures ∙ holders-none c.len.result
