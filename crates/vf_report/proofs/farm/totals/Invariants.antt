use Rattle.std.proofs.Common.{◌*◌, ◌≤◌}
use Rattle.vf_report.specs.Report.{outcomes_in}
use Rattle.vf_report.proofs.FarmLemmas.{Counts}
use Rattle.vf_report.proofs.farm.totals.Given as goal

-- the tests of the nodes so far are counted; they are at most as many as the nodes, with at most 2^32 + 1 turns each
abbrev pub invariant-loop-at : goal.invariant-loop-at
invariant-loop-at l =
    Counts (outcomes_in l.records) l.records.setup.plan l.at l.summary × (l.summary.tests ≤ l.at) × (l.summary.turns ≤ 4294967297 * l.at)
