-- What a command does, and why (docs/FARM.md, "The top call").
use Rattle.std.specs.Prelude.{◌≡◌, ℕ, ◌⊎◌, ⊤, false, List, None, unwrap_or, Err, []}
use Rattle.vf_base.specs.Count.{Count}
use Rattle.vf_ports.specs.Counts.{Rose}
use Rattle.vf_ports.specs.Shelf.{ShelfState, GainsName}
use Rattle.vf_ports.specs.Sink.{SinkState, Appends, AppendsPart}
use Rattle.vf_design.specs.Program.{Program}
use Rattle.vf_early.specs.Early.{IsEarly}
use Rattle.vf_plan.specs.declared.plan.Node.{Node}
use Rattle.vf_plan.specs.Reading.{plan_of}
use Rattle.vf_words.specs.declared.command.Command.{Command}
use Rattle.vf_words.specs.declared.command.Mode.TheVariants.{Solo}
use Rattle.vf_words.specs.Words.{command_of}
use Rattle.vf_top.specs.declared.refusal.What.TheVariants.{Design, Plan}
use Rattle.vf_top.specs.declared.refusal.Refusal.{Refusal}
use Rattle.vf_top.specs.declared.refusal.Refusal.TheVariants.{WrongWords, Failed, TooLong, DesignNotBuilt, NoTop, WrongPlan, NoTest, Write, Memory}
use Rattle.vf_top.specs.Fault.{status_of, fault_text, limit_of}
use Rattle.vf_top.specs.Report.{is_top, test_of}
use Rattle.vf_top.specs.Inputs.{IsInput, IsLong, HasFiles, HasDesign, HasPlanFile, IsAccepted}
use Rattle.vf_top.specs.Work.{Works, TurnsAtMost}

-- what stands outside a command at one moment: the shelf of files, the output, the error output and the counter of turns
pub record World : Type 0 where
  pub shelf : ShelfState
  pub out : SinkState
  pub err : SinkState
  pub steps : Count

-- ---- What a command leaves

-- the shelf failed in this call, and once, in fetching this name; what its files hold is as before
pub record ShelfFailed (before after : ShelfState) (name : List ℕ) : Type 0 where
  pub holds : after.holds ≡ before.holds
  pub rose : Rose before.faults after.faults
  pub listed : GainsName before.failed after.failed name

-- the bytes were written whole
pub record Wrote (before after : SinkState) (bytes : List ℕ) : Type 0 where
  pub whole : Appends before.written after.written bytes
  pub faults : after.faults ≡ before.faults

-- the output failed in this call: it took the first of the bytes, and not all of them
pub record WrotePart (before after : SinkState) (bytes : List ℕ) : Type 0 where
  pub part : AppendsPart before.written after.written bytes
  pub rose : Rose before.faults after.faults

-- ---- Refusals

-- why reading the words and the two files is refused
abbrev pub ReadCause : List (List ℕ) → ShelfState → ShelfState → Refusal → Type 0
ReadCause words before after (WrongWords fault) = command_of words ≡ Err fault
ReadCause words before after (Failed Design) = (command : Command) × (names : List ℕ × List ℕ) × HasFiles words command names × ShelfFailed before after names.0
ReadCause words before after (Failed Plan) =
    (command : Command) × (names : List ℕ × List ℕ) × (p : Program) × HasDesign words before command names p × ShelfFailed before after names.1
ReadCause words before after (TooLong Design) = (command : Command) × (names : List ℕ × List ℕ) × HasFiles words command names × IsLong (before.holds names.0) (limit_of Design)
ReadCause words before after (TooLong Plan) =
    (command : Command) × (names : List ℕ × List ℕ) × (p : Program) × HasDesign words before command names p × IsLong (before.holds names.1) (limit_of Plan)
ReadCause words before after DesignNotBuilt =
    (command : Command) × (names : List ℕ × List ℕ) × (bytes : List ℕ) × HasFiles words command names × IsInput before names.0 (limit_of Design) bytes
    × ((p : Program) → IsEarly bytes command.slots p → ⊥)
ReadCause words before after NoTop =
    (command : Command) × (names : List ℕ × List ℕ) × (bytes : List ℕ) × (p : Program) × HasFiles words command names × IsInput before names.0 (limit_of Design) bytes
    × IsEarly bytes command.slots p × (is_top command.top p ≡ false)
ReadCause words before after (WrongPlan fault) = (command : Command) × (p : Program) × (bytes : List ℕ) × HasPlanFile words before command p bytes × (plan_of bytes ≡ Err fault)
ReadCause words before after (NoTest name) =
    (command : Command) × (p : Program) × (nodes : List Node) × IsAccepted words before command p nodes × (command.mode ≡ Solo) × (test_of command nodes ≡ None)
    × (name ≡ unwrap_or command.test [])
ReadCause words before after Write = ⊥
-- out of memory is the one free answer
ReadCause words before after Memory = ⊤

-- why a command is refused; where the output fails, the work is done, and a part of what it gives was written
abbrev pub Cause : List (List ℕ) → World → World → Refusal → Type 0
Cause words before after Write = (text : List ℕ) × (status : ℕ) × Works words before.shelf before.steps after.steps text status × WrotePart before.out after.out text
Cause words before after refusal = ReadCause words before.shelf after.shelf refusal

-- the shelf is as before, but where it failed, of which the cause tells
abbrev pub ShelfAfter : ShelfState → ShelfState → Refusal → Type 0
ShelfAfter before after (Failed what) = ⊤
ShelfAfter before after _ = after ≡ before

-- no turn is made, but by the work before a failed write, of which the cause tells, and before out of memory
abbrev pub TurnsAfter : List (List ℕ) → ShelfState → Count → Count → Refusal → Type 0
TurnsAfter words shelf before after Write = ⊤
TurnsAfter words shelf before after Memory = TurnsAtMost words shelf before after
TurnsAfter words shelf before after _ = after.count ≡ before.count

-- nothing is written, but before a failed write, of which the cause tells
abbrev pub OutAfter : SinkState → SinkState → Refusal → Type 0
OutAfter before after Write = ⊤
OutAfter before after _ = after ≡ before

-- the line was written, or the error output failed in this call and took a part of it
abbrev pub Says : SinkState → SinkState → List ℕ → Type 0
Says before after line = Wrote before after line ⊎ WrotePart before after line

-- ---- The answer

-- the work is done, and all that it gives is written: files and error output are as before
pub record Finishes (words : List (List ℕ)) (before after : World) (status : ℕ) : Type 0 where
  pub text : List ℕ
  pub works : Works words before.shelf before.steps after.steps text status
  pub out : Wrote before.out after.out text
  pub shelf : after.shelf ≡ before.shelf
  pub err : after.err ≡ before.err

-- a refusal with its cause, its status and its line
pub record Refuses (words : List (List ℕ)) (before after : World) (status : ℕ) : Type 0 where
  pub refusal : Refusal
  pub is : status ≡ status_of refusal
  pub cause : Cause words before after refusal
  pub shelf : ShelfAfter before.shelf after.shelf refusal
  pub turns : TurnsAfter words before.shelf before.steps after.steps refusal
  pub out : OutAfter before.out after.out refusal
  pub says : Says before.err after.err (fault_text refusal)

-- how a command ends
abbrev pub Answers : List (List ℕ) → World → World → ℕ → Type 0
Answers words before after status = Finishes words before after status ⊎ Refuses words before after status
