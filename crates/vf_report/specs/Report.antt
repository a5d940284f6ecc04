-- The report of a plan (docs/FORMATS.md, "Report"), and what else stands on lines of their own.
use Rattle.std.specs.Prelude.{ℕ, ◌+◌, if◌then◌else◌, List, [], ◌∷◌, ◌++◌, codes, decimal, Option, Some}
use Rattle.vf_base.specs.declared.names.Job.TheVariants.{Finish}
use Rattle.vf_base.specs.declared.run.Outcome.{Outcome}
use Rattle.vf_plan.specs.declared.plan.Node.{Node}
use Rattle.vf_journal.specs.Records.{outcome_told}
use Rattle.vf_records.specs.Account.{Account, records_in}
use Rattle.vf_report.specs.declared.check.Sizes.{Sizes}
use Rattle.vf_report.specs.Tested.{Tested}
use Rattle.vf_report.specs.Totals.{Totals, summary_of}
use Rattle.vf_report.specs.Texts.{test_text, summary_text}

-- ---- A report of a plan, where it is told by node number which outcome a test has, unless it was out of memory

-- the lines of the tests, among nodes numbered from n
unfoldable pub lines_from : (ℕ → Option Outcome) → ℕ → List Node → List ℕ
lines_from outcomes n [] = []
lines_from outcomes n (node ∷ more) = (if node.test then test_text node.name node.expect (outcomes n) else []) ++ lines_from outcomes (n + 1) more

-- the tests, as the last line counts them
unfoldable pub tested_from : (ℕ → Option Outcome) → ℕ → List Node → List Tested
tested_from outcomes n [] = []
tested_from outcomes n (node ∷ more) =
    (if node.test then record { expectation = node.expect; outcome = outcomes n } ∷ [] else []) ++ tested_from outcomes (n + 1) more

abbrev pub totals_of : (ℕ → Option Outcome) → List Node → Totals
totals_of outcomes plan = summary_of (tested_from outcomes 0 plan)

-- a line for each test in the order of the plan, and the line of counts
abbrev pub report_text : (ℕ → Option Outcome) → List Node → List ℕ
report_text outcomes plan = lines_from outcomes 0 plan ++ summary_text (totals_of outcomes plan)

-- the outcomes that the records of a farm tell of the tests
abbrev pub outcomes_in : Account → ℕ → Option Outcome
outcomes_in a n = outcome_told (records_in a) (Finish (record { 0 = n }))

-- ---- The line of one test that ran alone

abbrev pub solo_text : Node → Outcome → List ℕ
solo_text node outcome = test_text node.name node.expect (Some outcome)

abbrev pub solo_totals : Node → Outcome → Totals
solo_totals node outcome = summary_of (record { expectation = node.expect; outcome = Some outcome } ∷ [])

-- ---- The line of a design and a plan that are accepted

abbrev pub check_text : Sizes → List ℕ
check_text sizes =
    codes "ok processes " ++ decimal sizes.processes
    ++ codes " signals " ++ decimal sizes.signals
    ++ codes " words " ++ decimal sizes.words
    ++ codes " pages " ++ decimal sizes.pages
    ++ codes " nodes " ++ decimal sizes.nodes
    ++ codes " tests " ++ decimal sizes.tests
    ++ codes "\n"
