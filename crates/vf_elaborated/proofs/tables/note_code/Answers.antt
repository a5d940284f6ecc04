use Rattle.std.proofs.Common.{rules, sym, ◌∙◌}
use Rattle.vf_elaborated.specs.Tables.{may_wake}
use Rattle.vf_elaborated.proofs.NoteLemmas.{next_noted, all_are_noted}
use Rattle.vf_elaborated.proofs.tables.note_code.Goals as goal

pub loop-instr-preserved : goal.loop-instr-preserved
loop-instr-preserved c =
    next_noted c.args.number may_wake c.args.code.now c.loop-instr.instr-index c.loop-instr.lists _ c.note_instr.new.lists c.loop-instr-test.true (search rules)
    c.in_ok-note_instr.ensures
    ∙ c.loop-instr.invariant

pub returns : goal.returns
returns c =
    sym (all_are_noted c.args.number may_wake c.args.code.now c.loop-instr.instr-index c.loop-instr.lists c.loop-instr-test.false) ∙ c.loop-instr.invariant
