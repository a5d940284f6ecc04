use Rattle.std.proofs.Common.{◌∙◌, ap₂}
use Rattle.vf_jobs.specs.Setup.{Conditions}
use Rattle.vf_journal.specs.Records.{Records}
use Rattle.vf_journal.specs.Effects.{origin_of}
use Rattle.vf_records.specs.Account.{farm_of, solo_of}
use Rattle.vf_records.proofs.RecordLemmas.{setup_is, records_is}
use Rattle.vf_records.proofs.records.Records.origin.Goals as goal

pub returns : goal.returns
returns c =
    c.origin.ensures
    ∙ ap₂ (λ (s : Conditions) (r : Records). origin_of (farm_of s) (solo_of s) r c.args.job) (setup_is c.self.inside c.args.self.now c.self.view_is c.deref.result.now c.deref.ensures)
    (records_is c.self.inside c.args.self.now c.self.view_is c.self.invariant)
