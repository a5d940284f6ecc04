use Rattle.std.proofs.Common.{sym, ◌∙◌, ap}
use Rattle.std.proofs.lemmas.List.{drop_all}
use Rattle.vf_elaborated.specs.Tables.{may_wait}
use Rattle.vf_elaborated.specs.Noting.{noted_all}
use Rattle.vf_elaborated.proofs.NoteLemmas.{all_noted}
use Rattle.vf_elaborated.proofs.tables.watchers.Goals as goal

pub returns : goal.returns
returns c =
    let none = drop_all c.loop-process.process-index c.args.processes.now c.loop-process-test.false in
    sym (ap (λ rest. noted_all may_wait c.loop-process.number rest c.loop-process.lists) none) ∙ c.loop-process.invariant.1
    ∙ all_noted may_wait c.args.processes.now c.args.signals
