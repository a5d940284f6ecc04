-- What a book asks of a simulator (docs/FARM.md, "The book").
use Rattle.std.specs.Prelude.{◌≡◌, ◌≤◌, false, Option}
use Rattle.vf_base.specs.declared.names.Job.{Job}
use Rattle.vf_base.specs.declared.names.NodeNo.{NodeNo}
use Rattle.vf_journal.specs.declared.entry.Entry.TheVariants.{Start}
use Rattle.vf_journal.specs.Records.{Attempt}
use Rattle.vf_journal.specs.Effects.{IsRunning, origin_of}
use Rattle.vf_records.specs.Account.{Account, farm_of, solo_of, records_in}
use Rattle.vf_image.specs.Runs.{touched_in}
use Rattle.vf_image.specs.Simulators.{Simulator}
use Rattle.vf_book.specs.Book.{BookView, Appends}

-- the attempt of the simulator's job is open, and it has come at least as far as its origin
pub record IsOpen (a : Account) (s : Simulator) : Type 0 where
  pub setup : s.setup ≡ a.setup
  pub attempt : Attempt
  pub runs : IsRunning (records_in a) s.job attempt
  pub since : attempt.since ≤ s.header.turns

-- the pages that it has touched are within the budget
abbrev pub IsWithin : Simulator → Type 0
IsWithin s = touched_in s.setup s.job s.header.turns ≤ s.setup.budget

-- a simulator of the job stands at the job's origin, and its attempt is open
pub record Starts (job : Job) (before after : BookView) (s : Simulator) : Type 0 where
  pub origin : Option NodeNo
  pub nearest : origin ≡ origin_of (farm_of before.account.setup) (solo_of before.account.setup) (records_in before.account) job
  pub entry : Appends (Start job origin) before.account after.account
  pub images : after.images ≡ before.images
  pub runs : s.job ≡ job
  pub settled : s.short ≡ false
  pub attempt : IsOpen after.account s
  pub turns : s.header.turns ≡ attempt.attempt.since
