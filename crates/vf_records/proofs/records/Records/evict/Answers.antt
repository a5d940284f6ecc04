use Rattle.std.proofs.Common.{◌∙◌, is_some, ap}
use Rattle.vf_journal.specs.declared.entry.Entry.TheVariants.{Evict}
use Rattle.vf_journal.specs.Records.{Records, image_of}
use Rattle.vf_records.proofs.RecordLemmas.{records_is, made}
use Rattle.vf_records.proofs.records.Records.evict.Goals as goal

pub give_back-requires-clause-image : goal.give_back-requires-clause-image
give_back-requires-clause-image c = ap (λ (r : Records). is_some (image_of r c.args.node)) (records_is c.self.inside c.args.self.now c.self.view_is c.self.invariant) ∙ c.requires.guard.0

pub invariant_of-self : goal.invariant_of-self
invariant_of-self c =
    (made c.self.inside c.args.self.now c.self.view_is c.self.invariant (Evict c.args.node) c.deref.result.now c.deref.ensures c.give_back.new.self (c.give_back.ensures.records) (c.give_back.ensures.journal) c.give_back.ensures.tables c.requires).kept

pub returns-clause-records : goal.returns-clause-records
returns-clause-records c =
    (made c.self.inside c.args.self.now c.self.view_is c.self.invariant (Evict c.args.node) c.deref.result.now c.deref.ensures c.give_back.new.self (c.give_back.ensures.records) (c.give_back.ensures.journal) c.give_back.ensures.tables c.requires).records
