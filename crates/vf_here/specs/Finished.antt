-- What a farm of one worker has come to (docs/FARM.md, "One worker").
use Rattle.std.specs.Prelude.{◌≡◌, ◌+◌, true}
use Rattle.vf_base.specs.Count.{Count}
use Rattle.vf_base.specs.declared.names.Job.{Job}
use Rattle.vf_jobs.specs.Setup.{Conditions}
use Rattle.vf_journal.specs.Records.{at_first, is_job, is_over}
use Rattle.vf_journal.specs.Journal.{turns_from, IsTight}
use Rattle.vf_records.specs.Account.{Account, IsAccount, farm_of, records_in}

-- every job of the plan is over
abbrev pub AreAllOver : Account → Type 0
AreAllOver a = (job : Job) → is_job a.setup.plan job ≡ true → is_over ((records_in a).stages job) ≡ true

-- The farm of a setup has run: its journal is lawful, every job is over, no image was given back too early, and the turns of its attempts
-- were counted.
pub record HasRun (c : Conditions) (a : Account) (before after : Count) : Type 0 where
  pub setup : a.setup ≡ c
  pub account : IsAccount a
  pub over : AreAllOver a
  pub tight : IsTight (farm_of c) (λ job. 0) at_first a.journal
  pub turns : after.count ≡ before.count + turns_from (farm_of c) at_first a.journal
