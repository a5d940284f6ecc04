use Rattle.std.proofs.Common.{◌∙◌, ap, option_map}
use Rattle.vf_base.specs.declared.names.Job.TheVariants.{Reach}
use Rattle.vf_jobs.specs.Setup.{Conditions}
use Rattle.vf_journal.specs.Records.{Held, Records, is_job}
use Rattle.vf_journal.specs.Journal.{base_for}
use Rattle.vf_records.proofs.RecordLemmas.{setup_is, records_is}
use Rattle.vf_records.proofs.records.Records.base_for.Goals as goal

pub base_for-requires-clause-job : goal.base_for-requires-clause-job
base_for-requires-clause-job c = ap (λ (s : Conditions). is_job s.plan (Reach c.args.node)) (setup_is c.self.inside c.args.self.now c.self.view_is c.deref.result.now c.deref.ensures) ∙ c.requires

pub returns : goal.returns
returns c =
    c.base_for.ensures
    ∙ ap (λ (r : Records). option_map (λ (h : Held). h.node) (base_for r c.args.node c.args.kind)) (records_is c.self.inside c.args.self.now c.self.view_is c.self.invariant)
