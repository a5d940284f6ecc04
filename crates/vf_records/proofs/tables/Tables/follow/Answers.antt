use Rattle.std.proofs.Common.{◌≡◌, ◌∙◌, IfSome, sym, ap, subst}
use Rattle.vf_plan.specs.Rules.{IsPlan}
use Rattle.vf_jobs.specs.Jobs.{node_no}
use Rattle.vf_journal.specs.Records.{Records}
use Rattle.vf_journal.specs.Effects.{is_retired}
use Rattle.vf_records.specs.Account.{farm_of}
use Rattle.vf_records.specs.declared.spread.Spread.{Spread}
use Rattle.vf_records.specs.Spreads.{spread_seen}
use Rattle.vf_records.specs.Tables.{records_of}
use Rattle.vf_records.proofs.ServeLemmas.{copied_from}
use Rattle.vf_records.proofs.tables.Tables.follow.Goals as goal

pub retire-requires-clause-way : goal.retire-requires-clause-way
retire-requires-clause-way c = λ n gone other.
    let s = c.args.setup.now in
    let plan : IsPlan s.plan = c.nodes-nodes.ensures.kept.plan in
    let spread = spread_seen s c.in-Some.spread in
    let spread_is : spread.node.0 ≡ c.args.node.0 = subst (λ o. IfSome o (λ (x : Spread). x.node.0 ≡ c.args.node.0)) c.in-Some.is c.requires.spread in
    copied_from s plan (records_of c.args.self.now) spread c.args.node.0 c.copy-last.result.0 spread_is c.copy-last.ensures.last c.requires.way
    n (ap (λ (r : Records). is_retired (farm_of s) r (node_no n)) (sym c.copy-last.ensures.records) ∙ gone) other
