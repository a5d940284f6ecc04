-- What the report of a farm that has run tells of its command.
use Rattle.std.proofs.Common.{◌≡◌, ◌∙◌, ◌++◌, List, ap, inr}
use Rattle.std.specs.Prelude.{IfOk, Result, Ok, Err}
use Rattle.vf_base.specs.Count.{Count}
use Rattle.vf_base.specs.declared.memory.Memory.{Memory as Wanting}
use Rattle.vf_design.specs.Program.{Program}
use Rattle.vf_plan.specs.declared.plan.Node.{Node}
use Rattle.vf_jobs.specs.Setup.{Conditions}
use Rattle.vf_records.specs.Account.{Account}
use Rattle.vf_here.specs.Finished.{HasRun}
use Rattle.vf_report.specs.Report.{outcomes_in, report_text, totals_of}
use Rattle.vf_words.specs.declared.command.Command.{Command}
use Rattle.vf_top.specs.declared.lines.Lines.{Lines}
use Rattle.vf_top.specs.Report.{conditions_of, status_of_totals}
use Rattle.vf_top.specs.Work.{journal_asked}
use Rattle.vf_top.specs.Steps.{FarmGives}

pub farm_gives : (command : Command) (p : Program) (nodes : List Node) (before after : Count) (a : Account) (result : Result Lines Wanting)
    → HasRun (conditions_of command p nodes) a before after
    → IfOk result (λ lines. lines.text.items ≡ report_text (outcomes_in a) a.setup.plan ++ journal_asked command.journal a.setup.plan a.journal)
    → IfOk result (λ lines. lines.status ≡ status_of_totals (totals_of (outcomes_in a) a.setup.plan))
    → FarmGives command p nodes before after result
farm_gives command p nodes before after a (Ok lines) ran text status =
    let plan = ap (λ (c : Conditions). c.plan) ran.setup in (
      a,
      ran,
      text ∙ ap (λ (ns : List Node). report_text (outcomes_in a) ns ++ journal_asked command.journal ns a.journal) plan,
      status ∙ ap (λ (ns : List Node). status_of_totals (totals_of (outcomes_in a) ns)) plan,
    )
farm_gives command p nodes before after a (Err _) ran text status = inr (a, ran)
