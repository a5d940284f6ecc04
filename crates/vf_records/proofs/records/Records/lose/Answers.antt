use Rattle.vf_journal.specs.declared.entry.Entry.TheVariants.{Lost}
use Rattle.vf_records.proofs.RecordLemmas.{ended_lost, serve_at, made}
use Rattle.vf_records.proofs.records.Records.lose.Goals as goal

pub settle-requires-clause-job : goal.settle-requires-clause-job
settle-requires-clause-job c = (ended_lost c.self.inside c.args.self.now c.self.view_is c.self.invariant c.deref.result.now c.deref.ensures c.args.job c.args.turn c.requires).is

pub settle-requires-clause-left : goal.settle-requires-clause-left
settle-requires-clause-left c = (ended_lost c.self.inside c.args.self.now c.self.view_is c.self.invariant c.deref.result.now c.deref.ensures c.args.job c.args.turn c.requires).left

pub settle-requires-clause-serve : goal.settle-requires-clause-serve
settle-requires-clause-serve c = serve_at c.self.inside c.self.invariant c.deref.result.now c.deref.ensures

pub invariant_of-self : goal.invariant_of-self
invariant_of-self c =
    (made c.self.inside c.args.self.now c.self.view_is c.self.invariant (Lost c.args.job c.args.turn) c.deref.result.now c.deref.ensures c.settle.new.self (c.settle.ensures.records) (c.settle.ensures.journal) c.settle.ensures.tables c.requires).kept

pub returns-clause-journal : goal.returns-clause-journal
returns-clause-journal c =
    (made c.self.inside c.args.self.now c.self.view_is c.self.invariant (Lost c.args.job c.args.turn) c.deref.result.now c.deref.ensures c.settle.new.self (c.settle.ensures.records) (c.settle.ensures.journal) c.settle.ensures.tables c.requires).journal

pub returns-clause-records : goal.returns-clause-records
returns-clause-records c =
    (made c.self.inside c.args.self.now c.self.view_is c.self.invariant (Lost c.args.job c.args.turn) c.deref.result.now c.deref.ensures c.settle.new.self (c.settle.ensures.records) (c.settle.ensures.journal) c.settle.ensures.tables c.requires).records
