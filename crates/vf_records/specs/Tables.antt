-- What the tables say, and what they keep.
use Rattle.std.specs.Prelude.{◌≡◌, ℕ, ◌+◌, ◌*◌, ◌<◌, ◌≤◌, ◌==◌, Bool, true, false, if◌then◌else◌, List, length, map, Option, Some, None, get_or, slice_get, slice_set, sum_by, vec_capacity}
use Rattle.std.specs.List.{All, find}
use Rattle.vf_base.specs.declared.names.Job.{Job}
use Rattle.vf_base.specs.declared.names.Job.TheVariants.{Reach, Finish}
use Rattle.vf_base.specs.declared.run.Header.{Header}
use Rattle.vf_plan.specs.declared.plan.Node.{Node}
use Rattle.vf_journal.specs.declared.entry.Kind.{Kind}
use Rattle.vf_journal.specs.declared.entry.Kind.TheVariants.{Unknown}
use Rattle.vf_journal.specs.declared.entry.Told.{Told}
use Rattle.vf_jobs.specs.Jobs.{node_no}
use Rattle.vf_journal.specs.Holding.{AreDistinct}
use Rattle.vf_journal.specs.Records as seen
use Rattle.vf_journal.specs.Records.{Held, Stage, idle, running, deferred, over, Records, same_job, is_base}
use Rattle.vf_records.specs.declared.layout.Place.{Place}
use Rattle.vf_records.specs.declared.row.Attempt.{Attempt}
use Rattle.vf_records.specs.declared.row.HeldImage.{HeldImage}
use Rattle.vf_records.specs.declared.row.Progress.{Progress}
use Rattle.vf_records.specs.declared.row.Progress.TheVariants as rows
use Rattle.vf_records.specs.declared.tables.Tables.{Tables}
use Rattle.vf_records.specs.Layout.{place_in, IsLaidOut}
use Rattle.vf_records.specs.Counts.{AreNumbered, AreEnded, one}
pub use Rattle.vf_records.specs.Counts.{is_over_progress}

-- ---- what the tables say

abbrev pub attempt_of : Attempt → seen.Attempt
attempt_of a = record { origin = a.origin; full = a.full; since = a.since }

abbrev pub held_of : HeldImage → Held
held_of h = record { node = h.node; turn = h.counts.turns; pages = h.pages; base = h.base }

abbrev pub stage_of : Progress → Option Told → Stage
stage_of rows.Idle tells = idle
stage_of (rows.Running attempt) tells = running (attempt_of attempt)
stage_of rows.Over tells = over tells

abbrev pub stands_at : Option Job → Job → Bool
stands_at None job = false
stands_at (Some other) job = same_job other job

-- the stage of a job with that place
abbrev pub stage_at : List Job → List Progress → List (Option Told) → Job → ℕ → Stage
stage_at listed progress told job p =
    if stands_at (slice_get listed p) job then stage_of (get_or progress p rows.Idle) (get_or told p None) else idle

abbrev pub stage_in : List Job → List Place → List Progress → List (Option Told) → Job → Stage
stage_in listed places progress told job = stage_at listed progress told job (place_in places job)

abbrev pub records_of : Tables → Records
records_of t = record {
  kinds = λ n. get_or t.kinds.items n Unknown;
  stages = stage_in t.layout.jobs.items t.layout.places.items t.progress.items t.told.items;
  held = map held_of t.held.items;
  rested = false;
}

-- with the kind of the node that a job reaches
abbrev pub kinds_with : Job → Kind → List Kind → List Kind
kinds_with (Reach n) kind kinds = slice_set kinds n.0 kind
kinds_with (Finish n) kind kinds = kinds

-- ---- how many entries are still to come

-- A job that has not started may have a Start, a Saved and the end of its image; each image has an end.
abbrev pub to_come : Progress → ℕ
to_come rows.Idle = 3
to_come (rows.Running attempt) = 2
to_come rows.Over = 0

-- the entries so far, with all that may still come
abbrev pub entries_ahead : Tables → ℕ
entries_ahead t = length t.journal.items + sum_by to_come t.progress.items + length t.held.items

-- there are at most three entries a job, and there is room for them
pub record HasRoom (t : Tables) : Type 0 where
  pub most : entries_ahead t ≤ 3 * length t.layout.jobs.items
  pub journal : 3 * length t.layout.jobs.items ≤ vec_capacity t.journal
  pub held : 3 * length t.layout.jobs.items ≤ vec_capacity t.held

-- ---- what the tables keep

abbrev pub is_idle_progress : Progress → Bool
is_idle_progress rows.Idle = true
is_idle_progress (rows.Running attempt) = false
is_idle_progress rows.Over = false

-- a job that is not over tells nothing
abbrev pub IsQuiet : List Progress → List (Option Told) → Type 0
IsQuiet progress told = (k : ℕ) → is_over_progress (get_or progress k rows.Idle) ≡ false → get_or told k None ≡ None

-- each image has the counts that are asked for
abbrev pub AreCounted : (Held → Header) → List HeldImage → Type 0
AreCounted counts held = All (λ (h : HeldImage). h.counts ≡ counts (held_of h)) held

-- each node has its image, where one is held
abbrev pub AreImaged : List HeldImage → List (Option HeldImage) → Type 0
AreImaged held images = (n : ℕ) → get_or images n None ≡ find (λ (h : HeldImage). h.node.0 == n) held

-- how many of these images stand on the image of a node
abbrev pub pins_in : List HeldImage → ℕ → ℕ
pins_in held n = sum_by (λ (h : HeldImage). one (is_base (node_no n) h.base)) held

-- each node has the number of the images that stand on its own
abbrev pub ArePinned : List HeldImage → List ℕ → Type 0
ArePinned held pins = (n : ℕ) → n < length pins → get_or pins n 0 ≡ pins_in held n

-- the jobs of the first places are over
abbrev pub AreOver : List Progress → ℕ → Type 0
AreOver progress first = (k : ℕ) → k < first → is_over_progress (get_or progress k rows.Idle) ≡ true

pub record AreTables (nodes : List Node) (counts : Held → Header) (t : Tables) : Type 0 where
  pub layout : IsLaidOut nodes (length nodes) t.layout.jobs.items t.layout.places.items
  pub progress : length t.progress.items ≡ length t.layout.jobs.items
  pub told : length t.told.items ≡ length t.layout.jobs.items
  pub quiet : IsQuiet t.progress.items t.told.items
  pub kinds : length t.kinds.items ≡ length nodes
  pub first : AreOver t.progress.items t.first
  pub counted : AreCounted counts t.held.items
  pub within : All (λ (h : HeldImage). h.node.0 < length nodes) t.held.items
  pub imaged : AreImaged t.held.items t.images.items
  pub images : length t.images.items ≡ length nodes
  pub apart : AreDistinct (map held_of t.held.items)
  pub pinned : ArePinned t.held.items t.pins.items
  pub pins : length t.pins.items ≡ length nodes
  pub numbered : AreNumbered nodes t.layout.jobs.items t.progress.items t.all.items t.done.items
  pub ended : AreEnded nodes t.layout.jobs.items t.ends.items
  pub ends : length t.ends.items ≡ length nodes
  pub room : HasRoom t
