-- Refusals of the design and the plan as causes of the command's.
use Rattle.std.proofs.Common.{◌≡◌, ℕ, List, Err, subst}
use Rattle.vf_ports.specs.Shelf.{ShelfState}
use Rattle.vf_design.specs.Program.{Program}
use Rattle.vf_early.specs.Early.{IsEarly}
use Rattle.vf_plan.specs.Reading.{plan_of}
use Rattle.vf_words.specs.declared.command.Command.{Command}
use Rattle.vf_top.specs.declared.refusal.What.TheVariants.{Design, Plan}
use Rattle.vf_top.specs.declared.refusal.Refusal.{Refusal}
use Rattle.vf_top.specs.declared.refusal.Refusal.TheVariants.{WrongWords, Failed, TooLong, DesignNotBuilt, NoTop, WrongPlan, NoTest, Write, Memory}
use Rattle.vf_top.specs.Fault.{limit_of}
use Rattle.vf_top.specs.Inputs.{IsInput, HasFiles, HasDesign, HasPlanFile}
use Rattle.vf_top.specs.Answer.{ReadCause, ShelfAfter}
use Rattle.vf_top.specs.Steps.{Fetched, BuildsDesign, NamesTop, ReadsPlan}

-- what is read is refused for a cause
abbrev pub IsRefused : List (List ℕ) → ShelfState → ShelfState → Refusal → Type 0
IsRefused words before after refusal = ReadCause words before after refusal × ShelfAfter before after refusal

-- the design's file is not given, or is too long
pub design_unread : {X : Type 0} (view : X → List ℕ) (words : List (List ℕ)) (before after : ShelfState) (command : Command) (names : List ℕ × List ℕ) (refusal : Refusal)
    → HasFiles words command names → Fetched view before after names.0 Design (Err refusal) → IsRefused words before after refusal
design_unread view words before after command names (Failed Design) files failed = ((command, names, files, failed.1), tt)
design_unread view words before after command names (Failed Plan) files failed = absurd (let e = failed.0 in cc)
design_unread view words before after command names (TooLong Design) files long = ((command, names, files, long.1), long.2)
design_unread view words before after command names (TooLong Plan) files long = absurd (let e = long.0 in cc)
design_unread view words before after command names Memory files kept = (tt, kept)
design_unread view words before after command names (WrongWords fault) files h = absurd h
design_unread view words before after command names DesignNotBuilt files h = absurd h
design_unread view words before after command names NoTop files h = absurd h
design_unread view words before after command names (WrongPlan fault) files h = absurd h
design_unread view words before after command names (NoTest name) files h = absurd h
design_unread view words before after command names Write files h = absurd h

-- the plan's file is not given, or is too long
plan_unread : {X : Type 0} (view : X → List ℕ) (words : List (List ℕ)) (before after : ShelfState) (command : Command) (names : List ℕ × List ℕ) (p : Program) (refusal : Refusal)
    → HasDesign words before command names p → Fetched view before after names.1 Plan (Err refusal) → IsRefused words before after refusal
plan_unread view words before after command names p (Failed Plan) design failed = ((command, names, p, design, failed.1), tt)
plan_unread view words before after command names p (Failed Design) design failed = absurd (let e = failed.0 in cc)
plan_unread view words before after command names p (TooLong Plan) design long = ((command, names, p, design, long.1), long.2)
plan_unread view words before after command names p (TooLong Design) design long = absurd (let e = long.0 in cc)
plan_unread view words before after command names p Memory design kept = (tt, kept)
plan_unread view words before after command names p (WrongWords fault) design h = absurd h
plan_unread view words before after command names p DesignNotBuilt design h = absurd h
plan_unread view words before after command names p NoTop design h = absurd h
plan_unread view words before after command names p (WrongPlan fault) design h = absurd h
plan_unread view words before after command names p (NoTest name) design h = absurd h
plan_unread view words before after command names p Write design h = absurd h

-- the same where the shelf was left as it was before
pub plan_unread_after : {X : Type 0} (view : X → List ℕ) (words : List (List ℕ)) (before middle after : ShelfState) (command : Command) (names : List ℕ × List ℕ) (p : Program) (refusal : Refusal)
    → middle ≡ before → HasDesign words before command names p → Fetched view middle after names.1 Plan (Err refusal) → IsRefused words before after refusal
plan_unread_after view words before middle after command names p refusal same design fetched =
    plan_unread view words before after command names p refusal design (subst (λ (s : ShelfState). Fetched view s after names.1 Plan (Err refusal)) same fetched)

-- a design that is refused
pub design_refused : (words : List (List ℕ)) (before after : ShelfState) (command : Command) (names : List ℕ × List ℕ) (bytes : List ℕ) (refusal : Refusal)
    → HasFiles words command names → IsInput before names.0 (limit_of Design) bytes → after ≡ before → BuildsDesign command.slots bytes (Err refusal)
    → IsRefused words before after refusal
design_refused words before after command names bytes DesignNotBuilt files input kept refused = ((command, names, bytes, files, input, refused), kept)
design_refused words before after command names bytes Memory files input kept free = (tt, kept)
design_refused words before after command names bytes (WrongWords fault) files input kept h = absurd h
design_refused words before after command names bytes (Failed what) files input kept h = absurd h
design_refused words before after command names bytes (TooLong what) files input kept h = absurd h
design_refused words before after command names bytes NoTop files input kept h = absurd h
design_refused words before after command names bytes (WrongPlan fault) files input kept h = absurd h
design_refused words before after command names bytes (NoTest name) files input kept h = absurd h
design_refused words before after command names bytes Write files input kept h = absurd h

-- another top module
pub top_refused : (words : List (List ℕ)) (before after : ShelfState) (command : Command) (names : List ℕ × List ℕ) (bytes : List ℕ) (p : Program) (refusal : Refusal)
    → HasFiles words command names → IsInput before names.0 (limit_of Design) bytes → IsEarly bytes command.slots p → after ≡ before
    → NamesTop {X = Unit {0}} command.top p (Err refusal) → IsRefused words before after refusal
top_refused words before after command names bytes p NoTop files input early kept other = ((command, names, bytes, p, files, input, early, other), kept)
top_refused words before after command names bytes p Memory files input early kept h = absurd h
top_refused words before after command names bytes p (WrongWords fault) files input early kept h = absurd h
top_refused words before after command names bytes p (Failed what) files input early kept h = absurd h
top_refused words before after command names bytes p (TooLong what) files input early kept h = absurd h
top_refused words before after command names bytes p DesignNotBuilt files input early kept h = absurd h
top_refused words before after command names bytes p (WrongPlan fault) files input early kept h = absurd h
top_refused words before after command names bytes p (NoTest name) files input early kept h = absurd h
top_refused words before after command names bytes p Write files input early kept h = absurd h

-- a plan that is refused
pub plan_refused : (words : List (List ℕ)) (before after : ShelfState) (command : Command) (p : Program) (bytes : List ℕ) (refusal : Refusal)
    → HasPlanFile words before command p bytes → after ≡ before → ReadsPlan (plan_of bytes) (Err refusal) → IsRefused words before after refusal
plan_refused words before after command p bytes (WrongPlan fault) file kept refused = ((command, p, bytes, file, refused), kept)
plan_refused words before after command p bytes Memory file kept free = (tt, kept)
plan_refused words before after command p bytes (WrongWords fault) file kept h = absurd h
plan_refused words before after command p bytes (Failed what) file kept h = absurd h
plan_refused words before after command p bytes (TooLong what) file kept h = absurd h
plan_refused words before after command p bytes DesignNotBuilt file kept h = absurd h
plan_refused words before after command p bytes NoTop file kept h = absurd h
plan_refused words before after command p bytes (NoTest name) file kept h = absurd h
plan_refused words before after command p bytes Write file kept h = absurd h
