use Rattle.std.proofs.Common.{◌≡◌, ◌<◌, ◌≤◌, ◌∙◌, ◌++◌, [], if◌then◌else◌, Option, List, length, get_or, ap, arith}
use Rattle.vf_base.specs.declared.run.Outcome.{Outcome}
use Rattle.vf_plan.specs.declared.plan.Node.{Node}
use Rattle.vf_report.specs.Texts.{test_text}
use Rattle.vf_report.specs.Report.{lines_from, outcomes_in}
use Rattle.vf_report.proofs.FarmLemmas.{lines_on, lines_end}
use Rattle.vf_report.proofs.farm.test_lines.Goals as goal

pub loop-at-preserved : goal.loop-at-preserved
loop-at-preserved c =
    let a = c.args.records.now in
    let nodes = a.setup.plan in
    let node = c.index-nodes-at.result in
    let at = c.loop-at.at in
    let long = ap length c.nodes-nodes.ensures.nodes in
    let within : at < length nodes = omega (arith, long) in
    let here : node ≡ get_or nodes at node = c.index-nodes-at.is ∙ ap (λ (ns : List Node). get_or ns at node) c.nodes-nodes.ensures.nodes in
    lines_on (outcomes_in a) at nodes node c.loop-at.lines.items (lines_from (outcomes_in a) 0 nodes) c.write_test.new.into.items within here c.loop-at.invariant
    (c.in_ok-write_test.ensures
    ∙ ap (λ (o : Option Outcome). c.loop-at.lines.items ++ (if node.test then test_text node.name node.expect o else [])) c.outcome-outcome.ensures)

pub returns : goal.returns
returns c =
    let a = c.args.records.now in
    let long = ap length c.nodes-nodes.ensures.nodes in
    let past : length a.setup.plan ≤ c.loop-at.at = omega (arith, long) in
    lines_end (outcomes_in a) c.loop-at.at a.setup.plan c.loop-at.lines.items (lines_from (outcomes_in a) 0 a.setup.plan) past c.loop-at.invariant
