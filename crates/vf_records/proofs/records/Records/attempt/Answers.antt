use Rattle.std.proofs.Common.{◌∙◌, ap}
use Rattle.vf_jobs.specs.Setup.{Conditions}
use Rattle.vf_journal.specs.Records.{Records, is_job}
use Rattle.vf_records.specs.Account.{attempt_at}
use Rattle.vf_records.proofs.RecordLemmas.{setup_is, records_is}
use Rattle.vf_records.proofs.records.Records.attempt.Goals as goal

pub attempt-requires-clause-job : goal.attempt-requires-clause-job
attempt-requires-clause-job c = ap (λ (s : Conditions). is_job s.plan c.args.job) (setup_is c.self.inside c.args.self.now c.self.view_is c.deref.result.now c.deref.ensures) ∙ c.requires

pub returns : goal.returns
returns c = c.attempt.ensures ∙ ap (λ (r : Records). attempt_at (r.stages c.args.job)) (records_is c.self.inside c.args.self.now c.self.view_is c.self.invariant)
