use Rattle.std.proofs.Common.{◌∙◌, List, length, get_or, ap}
use Rattle.vf_journal.specs.declared.entry.Kind.{Kind}
use Rattle.vf_journal.specs.declared.entry.Kind.TheVariants.{Unknown}
use Rattle.vf_journal.specs.Records.{Records}
use Rattle.vf_records.specs.Account.{Account}
use Rattle.vf_records.proofs.RecordLemmas.{records_is}
use Rattle.vf_records.proofs.records.Records.kinds.Goals as goal

pub returns-clause-length : goal.returns-clause-length
returns-clause-length c = ap length c.deref.ensures.value ∙ c.self.invariant.tables.kinds ∙ ap (λ (a : Account). length a.setup.plan) c.self.view_is

pub returns-clause-kinds : goal.returns-clause-kinds
returns-clause-kinds c = λ n. ap (λ (ks : List Kind). get_or ks n Unknown) c.deref.ensures.value ∙ ap (λ (r : Records). r.kinds n) (records_is c.self.inside c.args.self.now c.self.view_is c.self.invariant)
