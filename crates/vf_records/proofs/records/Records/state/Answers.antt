use Rattle.std.proofs.Common.{◌∙◌, ap, ap₂}
use Rattle.vf_journal.specs.Records.{Records}
use Rattle.vf_jobs.specs.Setup.{Conditions}
use Rattle.vf_journal.specs.Records.{is_job, state_of}
use Rattle.vf_records.specs.Account.{farm_of}
use Rattle.vf_records.proofs.RecordLemmas.{setup_is, records_is}
use Rattle.vf_records.proofs.records.Records.state.Goals as goal

pub state-requires-clause-job : goal.state-requires-clause-job
state-requires-clause-job c = ap (λ (s : Conditions). is_job s.plan c.args.job) (setup_is c.self.inside c.args.self.now c.self.view_is c.deref.result.now c.deref.ensures) ∙ c.requires

pub returns : goal.returns
returns c =
    c.state.ensures
    ∙ ap₂ (λ (s : Conditions) (r : Records). state_of (farm_of s) r c.args.job) (setup_is c.self.inside c.args.self.now c.self.view_is c.deref.result.now c.deref.ensures) (records_is c.self.inside c.args.self.now c.self.view_is c.self.invariant)
