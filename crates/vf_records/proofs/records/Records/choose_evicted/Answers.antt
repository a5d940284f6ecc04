use Rattle.std.proofs.Common.{◌∙◌, option_map, ap₂, subst}
use Rattle.vf_jobs.specs.Setup.{Conditions, IsSetup}
use Rattle.vf_journal.specs.Records.{Held, Records}
use Rattle.vf_journal.specs.Journal.{next_evicted}
use Rattle.vf_records.specs.Account.{farm_of}
use Rattle.vf_records.proofs.RecordLemmas.{setup_is, records_is, account_kept, none_held}
use Rattle.vf_records.proofs.records.Records.choose_evicted.Goals as goal

pub returns : goal.returns
returns c =
    let a = c.args.self.now in
    let same = setup_is c.self.inside a c.self.view_is c.deref.result.now c.deref.ensures in
    let same_2 = setup_is c.self.inside a c.self.view_is c.deref-2.result.now c.deref-2.ensures in
    let kept = account_kept c.self.inside a c.self.view_is c.self.invariant (subst IsSetup same c.budget-budget.ensures) in
    let chosen =
    c.chosen.ensures
    ∙ ap₂ (λ (s : Conditions) (r : Records). option_map (λ (h : Held). h.node) (next_evicted (farm_of s) r)) same_2
    (records_is c.self.inside a c.self.view_is c.self.invariant) in
    record { chosen = chosen; none = λ none. none_held a c.chosen.result kept chosen none }
