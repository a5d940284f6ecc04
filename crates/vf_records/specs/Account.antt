-- What contracts see of `Records`, and how an entry changes it (docs/FARM.md, "The journal").
use Rattle.std.specs.Prelude.{◌≡◌, ℕ, ◌-◌, nat_lt, Bool, true, false, not, if◌then◌else◌, List, ◌∷◌, ◌++◌, Option, Some, None, option_and_then, slice_get}
use Rattle.vf_base.specs.declared.names.Job.{Job}
use Rattle.vf_base.specs.declared.names.NodeNo.{NodeNo}
use Rattle.vf_design.specs.State.{State}
use Rattle.vf_design.specs.Words.{machine_of}
use Rattle.vf_plan.specs.declared.plan.Node.{Node}
use Rattle.vf_jobs.specs.Jobs.{node_no}
use Rattle.vf_jobs.specs.Setup.{Conditions, IsSetup}
use Rattle.vf_journal.specs.declared.entry.Entry.{Entry}
use Rattle.vf_journal.specs.Farm.{Farm}
use Rattle.vf_journal.specs.Records.{Held, Attempt, Stage, idle, running, deferred, over, Records, at_first, is_deferred, is_over, some_job, image_of}
use Rattle.vf_journal.specs.Effects.{Seen, Guard, after, consequences, is_retired}
use Rattle.vf_journal.specs.Journal.{of_solo, ordered, replay, IsChosen, IsJournal, IsOfSolo, first_ready}
use Rattle.vf_journal.specs.Holding.{AreHeld}
use Rattle.vf_journal.specs.Laws.{IsTold}
use Rattle.vf_records.specs.declared.next.Next.{Next}
use Rattle.vf_records.specs.declared.next.Next.TheVariants as nexts

-- the farm of a setup
abbrev pub farm_of : Conditions → Farm State
farm_of s = record { machine = machine_of s.design; given = s.limits; budget = s.budget; order = s.order; nodes = s.plan }

abbrev pub solo_of : Conditions → Seen
solo_of s = of_solo (farm_of s)

-- a setup, and the journal of a farm that runs it
pub record Account : Type 0 where
  pub setup : Conditions
  pub journal : List Entry

-- the records that the journal comes to
abbrev pub records_in : Account → Records
records_in a = replay (farm_of a.setup) (of_solo (farm_of a.setup)) at_first a.journal

-- with an entry and what follows from it
abbrev pub with_entry : Entry → Account → Account
with_entry e a = record a { journal = a.journal ++ e ∷ consequences (farm_of a.setup) (solo_of a.setup) (records_in a) e }

-- the records after an entry, with what follows from it
abbrev pub records_after : Entry → Account → Records
records_after e a = after (farm_of a.setup) (solo_of a.setup) (records_in a) e

-- an entry that a lawful journal may have next
pub record IsLawful (a : Account) (e : Entry) : Type 0 where
  pub guard : Guard (farm_of a.setup) (solo_of a.setup) (records_in a) e
  pub chosen : IsChosen (farm_of a.setup) ordered (records_in a) e
  pub solo : IsOfSolo (farm_of a.setup) (records_in a) e

-- What is kept by an account: its setup is one, its journal is lawful, the images are held as the farm holds them, and what is told is that
-- of the solo runs. One worker never gives an attempt up, so no job waits for a rest.
pub record IsAccount (a : Account) : Type 0 where
  pub setup : IsSetup a.setup
  pub journal : IsJournal (farm_of a.setup) ordered a.journal (records_in a)
  pub images : AreHeld (farm_of a.setup) (records_in a)
  pub told : IsTold (farm_of a.setup) (records_in a)
  pub undeferred : (job : Job) → is_deferred ((records_in a).stages job) ≡ false

-- ---- attempts

-- the attempt of a job that runs
abbrev pub attempt_at : Stage → Option Attempt
attempt_at idle = None
attempt_at (running attempt) = Some attempt
attempt_at deferred = None
attempt_at (over tells) = None

-- the full image that it goes back to, where that is held
abbrev pub full_held : Records → Option Attempt → Option Held
full_held r None = None
full_held r (Some attempt) = option_and_then (image_of r) attempt.full

-- ---- which job comes next

abbrev pub next_of : Option Job → Bool → Next
next_of (Some job) left = nexts.Job job
next_of None true = nexts.Later
next_of None false = nexts.Done

abbrev pub is_left : Conditions → Records → Bool
is_left s r = some_job (farm_of s) (λ job. not (is_over (r.stages job)))

-- the first ready job; where there is none, whether some job is not over
abbrev pub next_job_of : Account → Next
next_job_of a = next_of (first_ready (farm_of a.setup) (records_in a)) (is_left a.setup (records_in a))

-- ---- which images are held

-- each image that is held serves a job that is left
abbrev pub AllServe : Conditions → Records → Type 0
AllServe s r = (n : ℕ) → is_retired (farm_of s) r (node_no n) ≡ false

abbrev pub parent_of : Option Node → Option NodeNo
parent_of None = None
parent_of (Some node) = node.parent

-- the node before another: by its number, down to a node; and from there its parent
abbrev pub node_before : List Node → ℕ → ℕ → Option NodeNo
node_before nodes node at = if nat_lt node at then Some (node_no (at - 1)) else parent_of (slice_get nodes at)

abbrev pub later : NodeNo → NodeNo → NodeNo
later a b = if nat_lt a.0 b.0 then b else a
