use Rattle.std.proofs.Common.{◌≡◌, drop}
use Rattle.std.specs.List.{find}
use Rattle.vf_journal.specs.Records.{is_ready}
use Rattle.vf_records.specs.Account.{farm_of}
use Rattle.vf_records.specs.Tables.{records_of}
use Rattle.vf_records.proofs.tables.Tables.first_ready.Given as goal

-- the first ready job is among those from here on
abbrev pub invariant-loop-at : goal.invariant-loop-at
invariant-loop-at l =
    find (is_ready (farm_of l.setup) (records_of l.self)) l.self.layout.jobs.items
    ≡ find (is_ready (farm_of l.setup) (records_of l.self)) (drop l.at l.self.layout.jobs.items)
