-- What the work of a command gives: what it writes to the output, and the status after that (docs/FARM.md, "The top call").
use Rattle.std.specs.Prelude.{◌≡◌, ℕ, ◌+◌, ◌≤◌, ◌⊎◌, Bool, if◌then◌else◌, List, [], ◌++◌, Some, Ok, slice_get}
use Rattle.vf_base.specs.Count.{Count}
use Rattle.vf_design.specs.Program.{Program}
use Rattle.vf_plan.specs.declared.plan.Node.{Node}
use Rattle.vf_journal.specs.declared.entry.Entry.{Entry}
use Rattle.vf_ports.specs.Shelf.{ShelfState}
use Rattle.vf_records.specs.Account.{Account}
use Rattle.vf_here.specs.Finished.{HasRun}
use Rattle.vf_report.specs.Journal.{journal_text}
use Rattle.vf_report.specs.Report.{outcomes_in, report_text, totals_of, solo_text, solo_totals, check_text}
use Rattle.vf_words.specs.declared.command.Asked.TheVariants.{Help, Version}
use Rattle.vf_words.specs.declared.command.Command.{Command}
use Rattle.vf_words.specs.declared.command.Mode.TheVariants.{Run, Check, Solo}
use Rattle.vf_words.specs.Pages.{help_text, version_text}
use Rattle.vf_words.specs.Words.{command_of}
use Rattle.vf_top.specs.Inputs.{IsAccepted}
use Rattle.vf_top.specs.Report.{conditions_of, limits_for, alone, turns_alone, AreAlone, test_of, sizes_of, status_of_totals}

-- the journal, where it is asked for
abbrev pub journal_asked : Bool → List Node → List Entry → List ℕ
journal_asked asked nodes journal = if asked then journal_text nodes journal else []

-- Mode run: a line for each test in the order of the plan, the line of counts, and the journal where it is asked for. The farm has run: its
-- journal is lawful and tight, each job is over in it, and the counter moved by its turns. Each outcome reported is that of the test run alone.
pub record RunsFarm (words : List (List ℕ)) (shelf : ShelfState) (before after : Count) (written : List ℕ) (ends : ℕ) : Type 0 where
  pub command : Command
  pub p : Program
  pub nodes : List Node
  pub accepted : IsAccepted words shelf command p nodes
  pub mode : command.mode ≡ Run
  pub account : Account
  pub ran : HasRun (conditions_of command p nodes) account before after
  pub alone : AreAlone command p nodes (outcomes_in account)
  pub text : written ≡ report_text (outcomes_in account) nodes ++ journal_asked command.journal nodes account.journal
  pub status : ends ≡ status_of_totals (totals_of (outcomes_in account) nodes)

-- Mode check: the line of sizes. No turn is made.
pub record Checks (words : List (List ℕ)) (shelf : ShelfState) (before after : Count) (written : List ℕ) (ends : ℕ) : Type 0 where
  pub command : Command
  pub p : Program
  pub nodes : List Node
  pub accepted : IsAccepted words shelf command p nodes
  pub mode : command.mode ≡ Check
  pub turns : after.count ≡ before.count
  pub text : written ≡ check_text (sizes_of p nodes)
  pub status : ends ≡ 0

-- Mode solo: the line of the test that the words name, run alone. The counter moved by the turns of that run.
pub record RunsAlone (words : List (List ℕ)) (shelf : ShelfState) (before after : Count) (written : List ℕ) (ends : ℕ) : Type 0 where
  pub command : Command
  pub p : Program
  pub nodes : List Node
  pub accepted : IsAccepted words shelf command p nodes
  pub mode : command.mode ≡ Solo
  pub n : ℕ
  pub test : Node
  pub named : test_of command nodes ≡ Some n
  pub node : slice_get nodes n ≡ Some test
  pub turns : after.count ≡ before.count + turns_alone command p nodes n
  pub text : written ≡ solo_text test (alone command p nodes n)
  pub status : ends ≡ status_of_totals (solo_totals test (alone command p nodes n))

-- what is asked for, and what it gives
pub data Works (words : List (List ℕ)) (shelf : ShelfState) (before after : Count) (text : List ℕ) (status : ℕ) : Type 0 where
  help : command_of words ≡ Ok Help → text ≡ help_text → status ≡ 0 → after.count ≡ before.count → Works words shelf before after text status
  version : command_of words ≡ Ok Version → text ≡ version_text → status ≡ 0 → after.count ≡ before.count → Works words shelf before after text status
  run : RunsFarm words shelf before after text status → Works words shelf before after text status
  check : Checks words shelf before after text status → Works words shelf before after text status
  solo : RunsAlone words shelf before after text status → Works words shelf before after text status

-- ---- turns before memory ran out

-- the farm has run
pub record RanFarm (words : List (List ℕ)) (shelf : ShelfState) (before after : Count) : Type 0 where
  pub command : Command
  pub p : Program
  pub nodes : List Node
  pub accepted : IsAccepted words shelf command p nodes
  pub mode : command.mode ≡ Run
  pub account : Account
  pub ran : HasRun (conditions_of command p nodes) account before after

-- the run of the test of mode solo made at most as many turns as the test may make
pub record BeganAlone (words : List (List ℕ)) (shelf : ShelfState) (before after : Count) : Type 0 where
  pub command : Command
  pub p : Program
  pub nodes : List Node
  pub accepted : IsAccepted words shelf command p nodes
  pub mode : command.mode ≡ Solo
  pub n : ℕ
  pub named : test_of command nodes ≡ Some n
  pub least : before.count ≤ after.count
  pub most : after.count ≤ before.count + (limits_for command nodes n).turns

-- no turn was counted, or those of the farm, or some of the test's
abbrev pub TurnsAtMost : List (List ℕ) → ShelfState → Count → Count → Type 0
TurnsAtMost words shelf before after = (after.count ≡ before.count) ⊎ (RanFarm words shelf before after ⊎ BeganAlone words shelf before after)
