use Rattle.std.proofs.Common.{◌≡◌, ◌++◌, drop}
use Rattle.vf_report.specs.Report.{outcomes_in, lines_from}
use Rattle.vf_report.proofs.farm.test_lines.Given as goal

-- the lines so far, with those of the nodes to come, are all lines
abbrev pub invariant-loop-at : goal.invariant-loop-at
invariant-loop-at l =
    l.lines.items ++ lines_from (outcomes_in l.records) l.at (drop l.at l.records.setup.plan) ≡ lines_from (outcomes_in l.records) 0 l.records.setup.plan
