-- All that a command promises (docs/FARM.md, "The top call").
use Rattle.std.specs.Prelude.{◌≡◌, ℕ, ◌≤◌, ◌⊎◌, not, nat_lt, if◌then◌else◌, List, length, Option, Some, None, Result, Ok, Err, slice_get}
use Rattle.vf_ports.specs.Counts.{Rose}
use Rattle.vf_ports.specs.Shelf.{ShelfState, file}
use Rattle.vf_design.specs.Program.{Program}
use Rattle.vf_early.specs.Early.{IsEarly}
use Rattle.vf_plan.specs.declared.fault.PlanFault.{PlanFault}
use Rattle.vf_plan.specs.declared.plan.Node.{Node}
use Rattle.vf_plan.specs.Reading.{plan_of}
use Rattle.vf_report.specs.Report.{totals_of, solo_totals}
use Rattle.vf_words.specs.declared.command.Asked.TheVariants.{Help, Version}
use Rattle.vf_words.specs.declared.command.Command.{Command}
use Rattle.vf_words.specs.declared.command.Mode.{Mode}
use Rattle.vf_words.specs.declared.command.Mode.TheVariants.{Run, Check, Solo, Make}
use Rattle.vf_words.specs.declared.fault.WordFault.{WordFault}
use Rattle.vf_words.specs.Words.{command_of}
use Rattle.vf_top.specs.declared.refusal.What.TheVariants.{Design, Plan}
use Rattle.vf_top.specs.Fault.{limit_of}
use Rattle.vf_top.specs.Inputs.{HasFiles}
use Rattle.vf_top.specs.Report.{is_top, alone, test_of, status_of_totals}
use Rattle.vf_top.specs.Answer.{World, Answers}

-- ---- The statuses, the other way round: what is answered for what is given, where nothing fails

-- the status of mode solo: no test is named, or the test ran alone
abbrev pub solo_status : Command → Program → List Node → Option ℕ → ℕ
solo_status command p nodes None = 4
solo_status command p nodes (Some n) =
    elim (slice_get nodes n) [ None ↦ 4 | Some test ↦ status_of_totals (solo_totals test (alone command p nodes n)) ]

-- the status of a mode whose design and plan are accepted: in mode run that of a report of the solo runs of all tests
abbrev pub mode_status : Command → Program → List Node → Mode → ℕ
mode_status command p nodes Run = status_of_totals (totals_of (λ n. Some (alone command p nodes n)) nodes)
mode_status command p nodes Check = 0
mode_status command p nodes Solo = solo_status command p nodes (test_of command nodes)
-- no words ask for this mode
mode_status command p nodes Make = 0

-- a plan is refused, or accepted
abbrev pub plan_status : Command → Program → Result (List Node) PlanFault → ℕ
plan_status command p (Err fault) = 4
plan_status command p (Ok nodes) = mode_status command p nodes command.mode

-- a design that is accepted: the words may name another top module, and the plan may be too long
abbrev pub design_status : Command → Program → List ℕ → ℕ
design_status command p plan =
    if not (is_top command.top p) then 3
    else (if nat_lt (limit_of Plan) (length plan) then 6
    else plan_status command p (plan_of plan))

-- the design may be too long, or be none
abbrev pub status_for : Command → List ℕ → List ℕ → Option Program → ℕ
status_for command design plan program =
    if nat_lt (limit_of Design) (length design) then 6
    else (elim program [ None ↦ 3 | Some p ↦ design_status command p plan ])

-- the program that the bytes spell, if they spell one
abbrev pub Spells : ℕ → List ℕ → Option Program → Type 0
Spells slots bytes None = (p : Program) → IsEarly bytes slots p → ⊥
Spells slots bytes (Some p) = IsEarly bytes slots p

-- the words ask for work on two files, and the shelf tells both
pub record IsGiven (words : List (List ℕ)) (shelf : ShelfState) (command : Command) (design plan : List ℕ) : Type 0 where
  pub names : List ℕ × List ℕ
  pub files : HasFiles words command names
  pub design_told : shelf.holds names.0 ≡ file design
  pub plan_told : shelf.holds names.1 ≡ file plan

-- neither the shelf nor the output failed in this call
pub record NoFault (before after : World) : Type 0 where
  pub shelf : Rose before.shelf.faults after.shelf.faults → ⊥
  pub out : Rose before.out.faults after.out.faults → ⊥

-- the status is this one, or it was out of memory
abbrev pub IsUnlessMemory : ℕ → ℕ → Type 0
IsUnlessMemory expected status = (status ≡ expected) ⊎ (status ≡ 8)

-- words that are refused have status 2, and no others
pub record WordsExact (words : List (List ℕ)) (status : ℕ) : Type 0 where
  pub refused : (fault : WordFault) → command_of words ≡ Err fault → IsUnlessMemory 2 status
  pub only : status ≡ 2 → (fault : WordFault) × (command_of words ≡ Err fault)

-- the help page and the version's line
abbrev pub PagesExact : List (List ℕ) → World → World → ℕ → Type 0
PagesExact words before after status =
    ((command_of words ≡ Ok Help) ⊎ (command_of words ≡ Ok Version)) → NoFault before after → IsUnlessMemory 0 status

-- work on files that are told
abbrev pub WorkExact : List (List ℕ) → World → World → ℕ → Type 0
WorkExact words before after status =
    (command : Command) (design plan : List ℕ) (program : Option Program) → IsGiven words before.shelf command design plan → NoFault before after
    → (length design ≤ limit_of Design → Spells command.slots design program) → IsUnlessMemory (status_for command design plan program) status

-- ---- The promise

-- what a command on these words does to the world, and the status that it answers
pub record Promised (words : List (List ℕ)) (before after : World) (status : ℕ) : Type 0 where
  -- the work with its output, or a refusal with its cause
  pub answer : Answers words before after status
  -- what files hold is as before, and the counter has its parts
  pub files : after.shelf.holds ≡ before.shelf.holds
  pub parts : after.steps.parts ≡ before.steps.parts
  -- the statuses, the other way round
  pub words_exact : WordsExact words status
  pub pages_exact : PagesExact words before after status
  pub work_exact : WorkExact words before after status
