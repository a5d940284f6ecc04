use Rattle.std.proofs.Common.{◌∙◌, ap₂}
use Rattle.vf_jobs.specs.Setup.{Conditions}
use Rattle.vf_journal.specs.Records.{Records}
use Rattle.vf_journal.specs.Journal.{first_ready}
use Rattle.vf_records.specs.Account.{farm_of, next_of, is_left}
use Rattle.vf_records.proofs.RecordLemmas.{setup_is, records_is}
use Rattle.vf_records.proofs.records.Records.next_job.Goals as goal

pub returns : goal.returns
returns c =
    c.next_job.ensures
    ∙ ap₂ (λ (s : Conditions) (r : Records). next_of (first_ready (farm_of s) r) (is_left s r)) (setup_is c.self.inside c.args.self.now c.self.view_is c.deref.result.now c.deref.ensures)
    (records_is c.self.inside c.args.self.now c.self.view_is c.self.invariant)
