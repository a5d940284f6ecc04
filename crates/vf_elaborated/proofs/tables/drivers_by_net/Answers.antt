use Rattle.std.proofs.Common.{sym, ◌∙◌, ap}
use Rattle.std.proofs.lemmas.List.{drop_all}
use Rattle.vf_elaborated.specs.Tables.{drives}
use Rattle.vf_elaborated.specs.Noting.{noted_all}
use Rattle.vf_elaborated.proofs.NoteLemmas.{all_noted}
use Rattle.vf_elaborated.proofs.tables.drivers_by_net.Goals as goal

pub returns : goal.returns
returns c =
    let none = drop_all c.loop-process.process-index c.args.processes.now c.loop-process-test.false in
    sym (ap (λ rest. noted_all drives c.loop-process.number rest c.loop-process.lists) none) ∙ c.loop-process.invariant.1
    ∙ all_noted drives c.args.processes.now c.args.signals
