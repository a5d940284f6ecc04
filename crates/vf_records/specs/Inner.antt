-- How `Records` shows itself.
use Rattle.std.specs.Arc.{arc_value}
use Rattle.vf_journal.specs.Journal.{IsJournal, ordered}
use Rattle.vf_records.specs.declared.records.Records.TheInside.{Inside}
use Rattle.vf_records.specs.Account.{Account, farm_of, solo_of}
use Rattle.vf_records.specs.Tables.{records_of, AreTables}

abbrev pub account_of : Inside → Account
account_of r = record { setup = arc_value r.setup; journal = r.tables.journal.items }

-- the journal is lawful and comes to what the tables say
pub record IsKept (r : Inside) : Type 0 where
  pub lawful : IsJournal (farm_of (arc_value r.setup)) ordered r.tables.journal.items (records_of r.tables)
  pub tables : AreTables (arc_value r.setup).plan (solo_of (arc_value r.setup)).counts r.tables
