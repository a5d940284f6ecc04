-- What one worker keeps while the farm runs (docs/FARM.md, "One worker").
use Rattle.std.specs.Prelude.{◌≡◌, ℕ, false, if◌then◌else◌, List, ◌∷◌, Option, Some}
use Rattle.vf_base.specs.declared.names.Job.{Job}
use Rattle.vf_frames.specs.declared.holder.Name.{Name}
use Rattle.vf_frames.specs.declared.holder.Holder.{Holder}
use Rattle.vf_frames.specs.Numbers.{has}
use Rattle.vf_frames.specs.Holders.{Accounts}
use Rattle.vf_jobs.specs.Jobs.{node_of}
use Rattle.vf_journal.specs.declared.entry.Entry.{Entry}
use Rattle.vf_journal.specs.Records.{at_first, same_job}
use Rattle.vf_journal.specs.Effects.{Guard, IsAlone}
use Rattle.vf_journal.specs.Holding.{NoneRuns, ended_job, jobs_left}
use Rattle.vf_journal.specs.Journal.{closing_of, turns_from, IsTight}
use Rattle.vf_records.specs.Account.{Account, farm_of, solo_of, records_in}
use Rattle.vf_image.specs.Simulators.{Simulator}
use Rattle.vf_image.specs.Standing.{IsAtSave, IsPassing, IsEnding}
use Rattle.vf_run.specs.declared.stop.Stop.{Stop}
use Rattle.vf_run.specs.declared.stop.Stop.TheVariants.{AtSave, ReadPast, Ended, Short, Memory}
use Rattle.vf_book.specs.Book.{BookView, holders, Serves, IsOf, Appends}
use Rattle.vf_book.specs.Attempts.{IsOpen}

-- no image was given back too early, where the one job has come so far and no other has started
abbrev pub IsTightSoFar : Account → (Job → ℕ) → Type 0
IsTightSoFar a at = IsTight (farm_of a.setup) at at_first a.journal

abbrev pub none_started : Job → ℕ
none_started other = 0

abbrev pub one_at : Job → ℕ → Job → ℕ
one_at job turns other = if same_job other job then turns else 0

-- Between two jobs: the pool accounts for the hand, which has no frame, and for the images. No job runs.
pub record IsIdle (pool : Name) (numbers : Option (List ℕ)) (b : BookView) (h : Holder) : Type 0 where
  pub serves : Serves pool b h
  pub accounts : Accounts numbers (h ∷ holders b.images)
  pub free : (f : ℕ) → has f h.frames ≡ false
  pub none : NoneRuns (records_in b.account)
  pub tight : IsTightSoFar b.account none_started

-- During an attempt: the pool accounts for the simulator too, and its job is the only one that runs.
pub record IsAtWork (pool : Name) (numbers : Option (List ℕ)) (b : BookView) (h : Holder) (s : Simulator) : Type 0 where
  pub serves : Serves pool b h
  pub sim : IsOf pool s.pages.holder
  pub accounts : Accounts numbers (h ∷ s.pages.holder ∷ holders b.images)
  pub free : (f : ℕ) → has f h.frames ≡ false
  pub attempt : IsOpen b.account s
  pub alone : IsAlone (records_in b.account) s.job
  pub tight : IsTightSoFar b.account (one_at s.job s.header.turns)

-- the turns of the attempts in the journal
abbrev pub turns_in : Account → ℕ
turns_in a = turns_from (farm_of a.setup) at_first a.journal

-- how many jobs are left
abbrev pub left_in : Account → ℕ
left_in a = jobs_left (farm_of a.setup) (records_in a)

-- the run has stopped for another reason than that a frame is lacking
abbrev pub IsClosing : Simulator → Stop → Type 0
IsClosing s (AtSave kind) = IsAtSave s (record { 0 = node_of s.job }) × (s.saved ≡ Some kind)
IsClosing s ReadPast = IsPassing s (record { 0 = node_of s.job })
IsClosing s (Ended ending turns) = IsEnding s ending turns
IsClosing s (Short pages) = ⊥
IsClosing s Memory = Unit {0}

-- the journal has the entry more, by which the job is over after so many turns
pub record Ends (e : Entry) (j : Job) (turns : ℕ) (before after : Account) : Type 0 where
  pub guard : Guard (farm_of before.setup) (solo_of before.setup) (records_in before) e
  pub ended : ended_job e ≡ Some j
  pub closing : closing_of e ≡ Some (record { job = j; turn = turns })
  pub appends : Appends e before after

-- and some such entry
abbrev pub Closes : Job → ℕ → Account → Account → Type 0
Closes j turns before after = (e : Entry) × Ends e j turns before after
