use Rattle.std.proofs.Common.{Option, sym, subst, IfOk}
use Rattle.std.specs.Arc.{arc_value}
use Rattle.vf_base.specs.declared.names.NodeNo.{NodeNo}
use Rattle.vf_image.specs.Images.{Checkpoint}
use Rattle.vf_image.specs.Simulators.{Simulator}
use Rattle.vf_book.specs.Forks.{StandsAt, StandsAtOrigin}
use Rattle.vf_book.proofs.ForkLemmas.{ok_for_all}
use Rattle.vf_book.proofs.fork.start_from.Goals as goal

pub returns-clause-ok : goal.returns-clause-ok
returns-clause-ok g c =
    subst (λ (o : Option NodeNo). IfOk c.fork.result (λ (sim : Simulator). StandsAtOrigin (arc_value c.args.setup.now) c.args.images.now.items o c.args.job sim)) (sym c.in-Some.is)
    (ok_for_all (λ (i : Checkpoint) (sim : Simulator). StandsAt i.setup c.args.job i.header.turns sim) c.fork.result c.fork.ensures.ok)
