-- What the parts of a command answer.
use Rattle.std.specs.Prelude.{◌≡◌, ℕ, ◌+◌, ◌≤◌, ◌⊎◌, ⊤, true, false, List, [], ◌++◌, Option, Some, unwrap_or, Result, Ok, Err, slice_get}
use Rattle.vf_base.specs.Count.{Count}
use Rattle.vf_base.specs.declared.memory.Memory.{Memory as Wanting}
use Rattle.vf_ports.specs.Shelf.{ShelfState}
use Rattle.vf_ports.specs.Sink.{SinkState}
use Rattle.vf_design.specs.Program.{Program}
use Rattle.vf_early.specs.Early.{IsEarly}
use Rattle.vf_plan.specs.declared.fault.PlanFault.{PlanFault}
use Rattle.vf_plan.specs.declared.plan.Node.{Node}
use Rattle.vf_records.specs.Account.{Account}
use Rattle.vf_here.specs.Finished.{HasRun}
use Rattle.vf_report.specs.Report.{outcomes_in, report_text, totals_of, solo_text, solo_totals}
use Rattle.vf_words.specs.declared.command.Asked.{Asked}
use Rattle.vf_words.specs.declared.command.Command.{Command}
use Rattle.vf_words.specs.declared.fault.WordFault.{WordFault}
use Rattle.vf_words.specs.Ranges.{IsAsked}
use Rattle.vf_top.specs.declared.refusal.What.{What}
use Rattle.vf_top.specs.declared.refusal.Refusal.{Refusal}
use Rattle.vf_top.specs.declared.refusal.Refusal.TheVariants.{WrongWords, Failed, TooLong, DesignNotBuilt, NoTop, WrongPlan, NoTest, Write, Memory}
use Rattle.vf_top.specs.declared.lines.Lines.{Lines}
use Rattle.vf_top.specs.Fault.{limit_of, status_of, fault_text}
use Rattle.vf_top.specs.Report.{conditions_of, limits_for, alone, turns_alone, is_top, status_of_totals}
use Rattle.vf_top.specs.Inputs.{IsInput, IsLong, IsAccepted}
use Rattle.vf_top.specs.Work.{Works, journal_asked}
use Rattle.vf_top.specs.Answer.{World, Wrote, WrotePart, Says, ShelfFailed, ShelfAfter, TurnsAfter, OutAfter, ReadCause, Cause}

-- what the words ask for, or their first fault
abbrev pub Asks : Result Asked WordFault → Result Asked Refusal → Type 0
Asks read (Ok asked) = (read ≡ Ok asked) × IsAsked asked
Asks read (Err (WrongWords fault)) = read ≡ Err fault
Asks read (Err Memory) = ⊤
Asks read (Err _) = ⊥

-- what fetching one of the two files gives, seen by view
abbrev pub Fetched : {X : Type 0} → (X → List ℕ) → ShelfState → ShelfState → List ℕ → What → Result X Refusal → Type 0
Fetched view before after name what (Ok bytes) = IsInput before name (limit_of what) (view bytes) × (after ≡ before)
Fetched view before after name what (Err (Failed other)) = (other ≡ what) × ShelfFailed before after name
Fetched view before after name what (Err (TooLong other)) = (other ≡ what) × IsLong (before.holds name) (limit_of what) × (after ≡ before)
Fetched view before after name what (Err Memory) = after ≡ before
Fetched view before after name what (Err _) = ⊥

-- the design that the bytes spell, or that they spell none
abbrev pub BuildsDesign : ℕ → List ℕ → Result Program Refusal → Type 0
BuildsDesign slots bytes (Ok p) = IsEarly bytes slots p
BuildsDesign slots bytes (Err DesignNotBuilt) = (p : Program) → IsEarly bytes slots p → ⊥
BuildsDesign slots bytes (Err Memory) = ⊤
BuildsDesign slots bytes (Err _) = ⊥

-- whether the words name the design's top module, or none
abbrev pub NamesTop : {X : Type 0} → Option (List ℕ) → Program → Result X Refusal → Type 0
NamesTop top p (Ok _) = is_top top p ≡ true
NamesTop top p (Err NoTop) = is_top top p ≡ false
NamesTop top p (Err _) = ⊥

-- the plan that the bytes are, or its fault
abbrev pub ReadsPlan : Result (List Node) PlanFault → Result (List Node) Refusal → Type 0
ReadsPlan read (Ok nodes) = read ≡ Ok nodes
ReadsPlan read (Err (WrongPlan fault)) = read ≡ Err fault
ReadsPlan read (Err Memory) = ⊤
ReadsPlan read (Err _) = ⊥

-- what reading the design and the plan gives, seen by design and nodes
abbrev pub Accepts : {X : Type 0} → (X → Program) → (X → List Node) → List (List ℕ) → Command → ShelfState → ShelfState → Result X Refusal → Type 0
Accepts design nodes words command before after (Ok x) = IsAccepted words before command (design x) (nodes x) × (after ≡ before)
Accepts design nodes words command before after (Err refusal) = ReadCause words before after refusal × ShelfAfter before after refusal

-- what running the farm gives
abbrev pub FarmGives : Command → Program → List Node → Count → Count → Result Lines Wanting → Type 0
FarmGives command p nodes before after (Ok lines) =
    (a : Account) × HasRun (conditions_of command p nodes) a before after
    × (lines.text.items ≡ report_text (outcomes_in a) nodes ++ journal_asked command.journal nodes a.journal)
    × (lines.status ≡ status_of_totals (totals_of (outcomes_in a) nodes))
FarmGives command p nodes before after (Err _) =
    (after.count ≡ before.count) ⊎ ((a : Account) × HasRun (conditions_of command p nodes) a before after)

-- what running a test alone gives
abbrev pub AloneGives : Command → Program → List Node → ℕ → Count → Count → Result Lines Wanting → Type 0
AloneGives command p nodes n before after (Ok lines) =
    (test : Node) × (slice_get nodes n ≡ Some test)
    × (after.count ≡ before.count + turns_alone command p nodes n)
    × (lines.text.items ≡ solo_text test (alone command p nodes n))
    × (lines.status ≡ status_of_totals (solo_totals test (alone command p nodes n)))
AloneGives command p nodes n before after (Err _) = (before.count ≤ after.count) × (after.count ≤ before.count + (limits_for command nodes n).turns)

-- no test is named
abbrev pub NamesNone : Command → Refusal → Type 0
NamesNone command (NoTest name) = name ≡ unwrap_or command.test []
NamesNone command Memory = ⊤
NamesNone command _ = ⊥

-- what the work of a command gives
abbrev pub Worked : List (List ℕ) → ShelfState → ShelfState → Count → Count → Result Lines Refusal → Type 0
Worked words before after from to (Ok lines) = Works words before from to lines.text.items lines.status × (after ≡ before)
Worked words before after from to (Err refusal) = ReadCause words before after refusal × ShelfAfter before after refusal × TurnsAfter words before from to refusal

-- what writing a text gives
abbrev pub Writes : {X : Type 0} → SinkState → SinkState → List ℕ → Result X Refusal → Type 0
Writes before after text (Ok _) = Wrote before after text
Writes before after text (Err Write) = WrotePart before after text
Writes before after text (Err _) = ⊥

-- what ending with a text and a status gives
abbrev pub Ends : SinkState → SinkState → List ℕ → ℕ → Result ℕ Refusal → Type 0
Ends before after text status (Ok answer) = Wrote before after text × (answer ≡ status)
Ends before after text status (Err Write) = WrotePart before after text
Ends before after text status (Err _) = ⊥

-- what a command does, but for the error output
abbrev pub Ran : List (List ℕ) → World → World → Result ℕ Refusal → Type 0
Ran words before after (Ok status) =
    (text : List ℕ) × Works words before.shelf before.steps after.steps text status × Wrote before.out after.out text × (after.shelf ≡ before.shelf)
Ran words before after (Err refusal) =
    Cause words before after refusal × ShelfAfter before.shelf after.shelf refusal × TurnsAfter words before.shelf before.steps after.steps refusal
    × OutAfter before.out after.out refusal

-- whether a refusal's line has to be made
abbrev pub HasMadeLine : Refusal → Type 0
HasMadeLine (WrongWords fault) = ⊤
HasMadeLine (WrongPlan fault) = ⊤
HasMadeLine (NoTest name) = ⊤
HasMadeLine _ = ⊥

-- telling a refusal: its status and its line, or out of memory where that is so for a line that has to be made
abbrev pub Tells : SinkState → SinkState → Refusal → ℕ → Type 0
Tells before after refusal status =
    ((status ≡ status_of refusal) × Says before after (fault_text refusal))
    ⊎ (HasMadeLine refusal × (status ≡ status_of Memory) × Says before after (fault_text Memory))
