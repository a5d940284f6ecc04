use Rattle.std.proofs.Common.{◌≡◌, drop}
use Rattle.std.specs.List.{list_any}
use Rattle.vf_elaborated.specs.Values.{reads_signal}
use Rattle.vf_elaborated.specs.Noting.{noted}
use Rattle.vf_elaborated.proofs.tables.+note_reads.Given as goal

-- the parts that are left are noted in the lists so far
abbrev pub invariant-loop-part : goal.invariant-loop-part
invariant-loop-part l =
    noted l.number (λ sig. list_any (reads_signal sig) (drop l.part-index l.part-items)) l.lists
    ≡ noted l.number (λ sig. list_any (reads_signal sig) l.part-items) l.fn.lists
