use Rattle.std.proofs.Common.{◌∙◌, List, map, ap, ap₂}
use Rattle.std.specs.Arc.{arc_value}
use Rattle.vf_journal.specs.Records.{Records}
use Rattle.vf_plan.specs.declared.plan.Node.{Node}
use Rattle.vf_jobs.specs.Jobs as jobs
use Rattle.vf_journal.specs.Records.{told_by}
use Rattle.vf_records.specs.Account.{Account, solo_of}
use Rattle.vf_records.proofs.EventLemmas.{told_all}
use Rattle.vf_records.proofs.RecordLemmas.{records_is}
use Rattle.vf_records.proofs.records.Records.told.Goals as goal

pub returns : goal.returns
returns c =
    let s = arc_value c.self.inside.setup in
    c.deref.ensures.value ∙ told_all s.plan (solo_of s).counts c.self.inside.tables c.self.invariant.tables
    ∙ ap₂ (λ (nodes : List Node) (r : Records). map (λ job. told_by (r.stages job)) (jobs.jobs nodes)) (ap (λ (a : Account). a.setup.plan) c.self.view_is)
    (records_is c.self.inside c.args.self.now c.self.view_is c.self.invariant)
