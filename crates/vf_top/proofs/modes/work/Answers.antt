use Rattle.std.proofs.Common.{sym, subst}
use Rattle.vf_ports.specs.Shelf.{ShelfState}
use Rattle.vf_top.specs.Steps.{Worked}
use Rattle.vf_top.proofs.modes.work.Goals as goal

pub returns-in-Check-clause-worked : goal.returns-in-Check-clause-worked
returns-in-Check-clause-worked g c = λ words asked.
    let before = g.S.Shelf.seen c.args.shelf.now in
    let steps = c.args.steps.now in
    let read = c.in_ok-design.ensures words asked in
    subst (λ (s : ShelfState). Worked words before s steps steps c.check.result) (sym read.1) (c.check.ensures words before steps read.0)
