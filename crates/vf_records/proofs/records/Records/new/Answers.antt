use Rattle.std.proofs.Common.{List, [], sym, subst}
use Rattle.std.specs.Arc.{arc_value}
use Rattle.vf_jobs.specs.Setup.{Conditions}
use Rattle.vf_journal.specs.declared.entry.Entry.{Entry}
use Rattle.vf_journal.specs.Journal.{IsJournal, ordered, begun}
use Rattle.vf_records.specs.Account.{farm_of, solo_of}
use Rattle.vf_records.specs.Tables.{records_of, AreTables}
use Rattle.vf_records.proofs.records.Records.new.Goals as goal

pub invariant_of-result : goal.invariant_of-result
invariant_of-result c =
    let t = c.in_ok-tables.tables in
    let f = farm_of (arc_value c.in_ok-setup.setup) in
    record {
      lawful = subst (λ (js : List Entry). IsJournal f ordered js (records_of t)) (sym c.in_ok-tables.ensures.journal)
          (subst (IsJournal f ordered []) (sym c.in_ok-tables.ensures.records) begun);
      tables = subst (λ (s : Conditions). AreTables s.plan (solo_of s).counts t) c.deref.ensures c.in_ok-tables.ensures.kept;
    }
