use Rattle.std.proofs.Common.{subst}
use Rattle.vf_jobs.specs.Setup.{IsSetup}
use Rattle.vf_records.proofs.RecordLemmas.{setup_is, account_kept}
use Rattle.vf_records.proofs.records.Records.journal.Goals as goal

pub returns-clause-kept : goal.returns-clause-kept
returns-clause-kept c =
    account_kept c.self.inside c.args.self.now c.self.view_is c.self.invariant
    (subst IsSetup (setup_is c.self.inside c.args.self.now c.self.view_is c.deref.result.now c.deref.ensures) c.budget-budget.ensures)
