use Rattle.std.proofs.Common.{◌∙◌, subst, ap}
use Rattle.vf_journal.specs.declared.entry.Entry.TheVariants.{Saved}
use Rattle.vf_base.specs.declared.names.Job.TheVariants.{Reach}
use Rattle.vf_jobs.specs.Setup.{IsSetup}
use Rattle.vf_journal.specs.Records.{Records, image_of}
use Rattle.vf_journal.proofs.CallerLemmas.{running_free}
use Rattle.vf_records.specs.Account.{farm_of, records_in}
use Rattle.vf_records.proofs.RecordLemmas.{setup_is, records_is, account_kept, ended_running, serve_at, made}
use Rattle.vf_records.proofs.records.Records.save.Goals as goal

pub keep-requires-clause-job : goal.keep-requires-clause-job
keep-requires-clause-job c = (ended_running c.self.inside c.args.self.now c.self.view_is c.self.invariant c.deref-2.result.now c.deref-2.ensures (Reach c.args.image.node) c.requires.lawful.guard.0 c.requires.lawful.guard.1).is

pub keep-requires-clause-left : goal.keep-requires-clause-left
keep-requires-clause-left c = (ended_running c.self.inside c.args.self.now c.self.view_is c.self.invariant c.deref-2.result.now c.deref-2.ensures (Reach c.args.image.node) c.requires.lawful.guard.0 c.requires.lawful.guard.1).left

pub keep-requires-clause-free : goal.keep-requires-clause-free
keep-requires-clause-free c =
    let a = c.args.self.now in
    let kept = account_kept c.self.inside a c.self.view_is c.self.invariant
    (subst IsSetup (setup_is c.self.inside a c.self.view_is c.deref.result.now c.deref.ensures) c.budget-budget.ensures) in
    ap (λ (r : Records). image_of r c.args.image.node) (records_is c.self.inside a c.self.view_is c.self.invariant)
    ∙ running_free (farm_of a.setup) (records_in a) c.args.image.node c.requires.lawful.guard.0 kept.images c.requires.lawful.guard.1

pub keep-requires-clause-serve : goal.keep-requires-clause-serve
keep-requires-clause-serve c = serve_at c.self.inside c.self.invariant c.deref-2.result.now c.deref-2.ensures

pub invariant_of-self : goal.invariant_of-self
invariant_of-self c =
    (made c.self.inside c.args.self.now c.self.view_is c.self.invariant (Saved c.args.image.node c.args.image.counts.turns c.args.image.pages c.args.image.base) c.deref-2.result.now c.deref-2.ensures c.keep.new.self (c.keep.ensures.records) (c.keep.ensures.journal) c.keep.ensures.tables c.requires.lawful).kept

pub returns-clause-journal : goal.returns-clause-journal
returns-clause-journal c =
    (made c.self.inside c.args.self.now c.self.view_is c.self.invariant (Saved c.args.image.node c.args.image.counts.turns c.args.image.pages c.args.image.base) c.deref-2.result.now c.deref-2.ensures c.keep.new.self (c.keep.ensures.records) (c.keep.ensures.journal) c.keep.ensures.tables c.requires.lawful).journal

pub returns-clause-records : goal.returns-clause-records
returns-clause-records c =
    (made c.self.inside c.args.self.now c.self.view_is c.self.invariant (Saved c.args.image.node c.args.image.counts.turns c.args.image.pages c.args.image.base) c.deref-2.result.now c.deref-2.ensures c.keep.new.self (c.keep.ensures.records) (c.keep.ensures.journal) c.keep.ensures.tables c.requires.lawful).records
