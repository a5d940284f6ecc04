use Rattle.std.proofs.Common.{◌∙◌, [], ◌∷◌, Some, ap}
use Rattle.vf_report.specs.Totals.{summary_of}
use Rattle.vf_report.proofs.farm.solo_report.Goals as goal

pub returns-clause-summary : goal.returns-clause-summary
returns-clause-summary c =
    c.add.ensures.summary [] c.new-summary.ensures
    ∙ ap (λ expect. summary_of (record { expectation = expect; outcome = Some c.args.outcome.now } ∷ [])) c.expected.ensures
