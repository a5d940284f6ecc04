use Rattle.vf_report.proofs.LineLemmas.{test_is_line, summary_is_line}
use Rattle.vf_report.proofs.laws.lines_are_lines.Goals as goal

pub returns-clause-tests : goal.returns-clause-tests
returns-clause-tests c = test_is_line

pub returns-clause-summary : goal.returns-clause-summary
returns-clause-summary c = summary_is_line
