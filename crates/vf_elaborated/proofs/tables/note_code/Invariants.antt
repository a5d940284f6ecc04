use Rattle.std.proofs.Common.{◌≡◌, drop}
use Rattle.std.specs.List.{list_any}
use Rattle.vf_elaborated.specs.Tables.{may_wake}
use Rattle.vf_elaborated.specs.Noting.{noted}
use Rattle.vf_elaborated.proofs.tables.note_code.Given as goal

-- the instructions that are left are noted in the lists so far
abbrev pub invariant-loop-instr : goal.invariant-loop-instr
invariant-loop-instr l =
    noted l.number (λ n. list_any (may_wake n) (drop l.instr-index l.code)) l.lists ≡ noted l.number (λ n. list_any (may_wake n) l.code) l.fn.lists
