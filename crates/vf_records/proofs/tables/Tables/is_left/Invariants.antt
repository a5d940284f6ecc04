use Rattle.std.proofs.Common.{◌≡◌, not, drop}
use Rattle.std.specs.List.{list_any}
use Rattle.vf_journal.specs.Records.{is_over}
use Rattle.vf_records.specs.Tables.{records_of}
use Rattle.vf_records.proofs.tables.Tables.is_left.Given as goal

-- the jobs before are over
abbrev pub invariant-loop-at : goal.invariant-loop-at
invariant-loop-at l =
    list_any (λ job. not (is_over ((records_of l.self).stages job))) l.self.layout.jobs.items
    ≡ list_any (λ job. not (is_over ((records_of l.self).stages job))) (drop l.at l.self.layout.jobs.items)
