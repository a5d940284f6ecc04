-- What the end of a run that reaches a node means for the jobs below it.
use Rattle.std.specs.Prelude.{Bool, Option, Some, None}
use Rattle.vf_base.specs.declared.names.Job.{Job}
use Rattle.vf_base.specs.declared.names.Job.TheVariants.{Reach, Finish}
use Rattle.vf_base.specs.declared.run.Limits.{Limits}
use Rattle.vf_jobs.specs.Jobs.{fits, passing_fits}
use Rattle.vf_jobs.specs.Setup.{Conditions}
use Rattle.vf_journal.specs.declared.entry.Kind.{Kind}
use Rattle.vf_journal.specs.Farm.{limits}
use Rattle.vf_journal.specs.Effects as effects
use Rattle.vf_records.specs.declared.spread.Reached.{Reached}
use Rattle.vf_records.specs.declared.spread.Reached.TheVariants.{Ending, Passing}
use Rattle.vf_records.specs.declared.spread.Spread.{Spread}
use Rattle.vf_records.specs.Account.{farm_of}

abbrev pub fits_with : Reached → Limits → Bool
fits_with (Ending counts) limits = fits limits counts
fits_with (Passing turns of_run) limits = passing_fits limits turns of_run

abbrev pub spread_seen : Conditions → Spread → effects.Spread
spread_seen setup s = record { node = s.node; kind = s.kind; fits = λ job. fits_with s.reached (limits (farm_of setup) job) }

abbrev pub spread_from : Job → Kind → Reached → Option Spread
spread_from (Reach n) kind reached = Some (record { node = n; kind = kind; reached = reached })
spread_from (Finish n) kind reached = None
