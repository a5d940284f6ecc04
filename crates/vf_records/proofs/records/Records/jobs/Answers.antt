use Rattle.std.proofs.Common.{◌∙◌, ap}
use Rattle.std.specs.Arc.{arc_value}
use Rattle.vf_jobs.specs.Jobs as jobs
use Rattle.vf_records.specs.Account.{Account}
use Rattle.vf_records.proofs.TableLemmas.{listed_all}
use Rattle.vf_records.proofs.records.Records.jobs.Goals as goal

pub returns : goal.returns
returns c =
    let t = c.self.inside.tables in
    c.deref.ensures.value ∙ listed_all (arc_value c.self.inside.setup).plan t.layout.jobs.items t.layout.places.items c.self.invariant.tables.layout ∙ ap (λ (a : Account). jobs.jobs a.setup.plan) c.self.view_is
