-- What holds of every report. Each is the contract of a function of `laws`.
use Rattle.std.specs.Prelude.{◌≡◌, ◌≢◌, ℕ, ◌+◌, ◌<◌, ◌^◌, ◌&&◌, List, [], ◌∷◌, ◌++◌, length, All, count_by, slice_get, codes, is_some, IfSome}
use Rattle.vf_base.specs.declared.names.Job.{Job}
use Rattle.vf_base.specs.declared.names.Job.TheVariants.{Reach, Finish}
use Rattle.vf_base.specs.declared.names.NodeNo.{NodeNo}
use Rattle.vf_plan.specs.declared.plan.Node.{Node}
use Rattle.vf_journal.specs.declared.entry.Entry.{Entry}
use Rattle.vf_journal.specs.declared.entry.Entry.TheVariants.{Start, Saved, Pass, End, Pages, Copy, Lost, Short, Evict, Retire, Rest}
use Rattle.vf_report.specs.Tested.{Tested, completes}
use Rattle.vf_report.specs.Totals.{Totals}
use Rattle.vf_report.specs.Journal.{journal_text}

-- no byte of the text is a newline
abbrev pub HasNoNewline : List ℕ → Type 0
HasNoNewline text = All (λ byte. byte ≢ 10) text

-- a text with one newline, at its end
pub record IsLine (line : List ℕ) : Type 0 where
  pub text : List ℕ
  pub ends : line ≡ text ++ codes "\n"
  pub only : HasNoNewline text

-- The lists have the same bytes before the place and differ at it; one of them may have ended there.
pub record IsFirstDifference (expected bytes : List ℕ) (place : ℕ) : Type 0 where
  pub before : (at : ℕ) → at < place → slice_get expected at ≡ slice_get bytes at
  pub there : slice_get expected place ≢ slice_get bytes place

-- Each test is of one of three kinds; and what is met or failed are just the completed tests that have an expectation.
pub record AddsUp (tests : List Tested) (totals : Totals) : Type 0 where
  pub kinds : totals.completed + totals.pages + totals.memory ≡ totals.tests
  pub judged : totals.met + totals.failed ≡ count_by (λ t. completes t.outcome && is_some t.expectation) tests

-- ---- journals

abbrev pub IsNodeOf : List Node → NodeNo → Type 0
IsNodeOf plan n = n.0 < length plan

abbrev pub IsJobOf : List Node → Job → Type 0
IsJobOf plan (Reach n) = IsNodeOf plan n
IsJobOf plan (Finish n) = IsNodeOf plan n

-- the nodes are the plan's, and the numbers have at most 64 bits
abbrev pub IsEntryOf : List Node → Entry → Type 0
IsEntryOf plan (Start job origin) = IsJobOf plan job × IfSome origin (IsNodeOf plan)
IsEntryOf plan (Saved node turn pages base) = IsNodeOf plan node × (turn < 2 ^ 64) × (pages < 2 ^ 64) × IfSome base (IsNodeOf plan)
IsEntryOf plan (Pass node turn) = IsNodeOf plan node × (turn < 2 ^ 64)
IsEntryOf plan (End job turn) = IsJobOf plan job × (turn < 2 ^ 64)
IsEntryOf plan (Pages job turn pages) = IsJobOf plan job × (turn < 2 ^ 64) × (pages < 2 ^ 64)
IsEntryOf plan (Copy job node) = IsJobOf plan job × IsNodeOf plan node
IsEntryOf plan (Lost job turn) = IsJobOf plan job × (turn < 2 ^ 64)
IsEntryOf plan (Short job turn) = IsJobOf plan job × (turn < 2 ^ 64)
IsEntryOf plan (Evict node) = IsNodeOf plan node
IsEntryOf plan (Retire node) = IsNodeOf plan node
IsEntryOf plan Rest = Unit {0}

abbrev pub AreEntriesOf : List Node → List Entry → Type 0
AreEntriesOf plan [] = Unit {0}
AreEntriesOf plan (e ∷ more) = IsEntryOf plan e × AreEntriesOf plan more

-- different journals have different texts
abbrev pub TellsJournals : List Node → Type 0
TellsJournals plan = (a b : List Entry) → AreEntriesOf plan a → AreEntriesOf plan b → journal_text plan a ≡ journal_text plan b → a ≡ b
