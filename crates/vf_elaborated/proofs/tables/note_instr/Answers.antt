use Rattle.vf_elaborated.specs.Tables.{may_wake}
use Rattle.vf_elaborated.proofs.NoteLemmas.{noted_nowhere}
use Rattle.vf_elaborated.proofs.WakeLemmas.{wakes_never}
use Rattle.vf_elaborated.proofs.tables.note_instr.Goals as goal

pub returns-in_default : goal.returns-in_default
returns-in_default c =
    noted_nowhere c.args.number (λ sig. may_wake sig c.args.instr.now) c.args.lists.now
    (λ sig. wakes_never sig c.args.instr.now c.in_default.not-Await c.in_default.not-Until c.in_default.not-Drive)
