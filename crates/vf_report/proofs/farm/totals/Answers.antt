use Rattle.std.proofs.Common.{◌≡◌, ◌<◌, ◌≤◌, ◌∙◌, ◌++◌, [], ◌∷◌, if◌then◌else◌, Option, List, length, get_or, ap, arith}
use Rattle.vf_base.specs.declared.run.Outcome.{Outcome}
use Rattle.vf_plan.specs.declared.plan.Node.{Node}
use Rattle.vf_report.specs.Tested.{turns_of}
use Rattle.vf_report.specs.Totals.{summary_of}
use Rattle.vf_report.specs.Report.{outcomes_in}
use Rattle.vf_report.proofs.FarmLemmas.{told_small, counts_next, counts_end}
use Rattle.vf_report.proofs.farm.totals.Goals as goal

pub count-requires-clause-turns : goal.count-requires-clause-turns
count-requires-clause-turns c =
    let a = c.args.records.now in
    let small = told_small a c.nodes-nodes.ensures.kept c.loop-at.at in
    let is = ap turns_of c.outcome-outcome.ensures in
    let most = c.nodes-nodes.ensures.kept.setup.plan.most in
    let long = ap length c.nodes-nodes.ensures.nodes in
    omega (arith, small, is, most, long, c.loop-at.invariant.2)

pub loop-at-preserved : goal.loop-at-preserved
loop-at-preserved c =
    let a = c.args.records.now in
    let nodes = a.setup.plan in
    let node = c.index-nodes-at.result in
    let at = c.loop-at.at in
    let long = ap length c.nodes-nodes.ensures.nodes in
    let within : at < length nodes = omega (arith, long) in
    let here : node ≡ get_or nodes at node = c.index-nodes-at.is ∙ ap (λ (ns : List Node). get_or ns at node) c.nodes-nodes.ensures.nodes in
    let small = told_small a c.nodes-nodes.ensures.kept at in
    let is = ap turns_of c.outcome-outcome.ensures in (
      counts_next (outcomes_in a) nodes at c.loop-at.summary c.count.new.summary node within here c.loop-at.invariant.0
          (λ tests counted. c.count.ensures.summary tests counted
          ∙ ap (λ (o : Option Outcome). summary_of (tests ++ (if node.test then record { expectation = node.expect; outcome = o } ∷ [] else []))) c.outcome-outcome.ensures),
      omega (arith, c.count.ensures.tests, c.loop-at.invariant.1),
      omega (arith, c.count.ensures.turns, c.loop-at.invariant.2, small, is),
    )

pub returns : goal.returns
returns c =
    let a = c.args.records.now in
    let long = ap length c.nodes-nodes.ensures.nodes in
    let past : length a.setup.plan ≤ c.loop-at.at = omega (arith, long) in
    counts_end (outcomes_in a) a.setup.plan c.loop-at.at c.loop-at.summary past c.loop-at.invariant.0
