use Rattle.std.proofs.Common.{◌∙◌, ap}
use Rattle.vf_journal.specs.Records.{Records, outcome_told}
use Rattle.vf_records.proofs.RecordLemmas.{records_is, tables_at}
use Rattle.vf_records.proofs.records.Records.outcome.Goals as goal

pub outcome-requires : goal.outcome-requires
outcome-requires c = tables_at c.self.inside c.self.invariant c.deref.result.now c.deref.ensures

pub returns : goal.returns
returns c = c.outcome.ensures ∙ ap (λ (r : Records). outcome_told r c.args.job) (records_is c.self.inside c.args.self.now c.self.view_is c.self.invariant)
