-- When a job starts and ends, and what follows from it (docs/FARM.md, "The farm"). The rules are the same for a farm that runs and for a
-- journal that is replayed; what they ask of the runs is handed in.
use Rattle.std.specs.Prelude.{◌≡◌, ℕ, zero, suc, Bool, true, false, ◌&&◌, ◌||◌, ◌==◌, not, if◌then◌else◌, List, [], ◌∷◌, ◌++◌, length, map, Option, Some, None, option_map, option_and_then, is_some}
use Rattle.std.specs.List.{filter}
use Rattle.vf_base.specs.declared.names.Job.{Job}
use Rattle.vf_base.specs.declared.names.Job.TheVariants.{Reach, Finish}
use Rattle.vf_base.specs.declared.names.NodeNo.{NodeNo}
use Rattle.vf_base.specs.declared.run.Header.{Header}
use Rattle.vf_base.specs.declared.run.Outcome.{Outcome}
use Rattle.vf_jobs.specs.Jobs as jobs
use Rattle.vf_jobs.specs.Jobs.{node_of, node_no, fits, passing_fits}
use Rattle.vf_jobs.specs.Subtree.{is_below}
use Rattle.vf_journal.specs.declared.entry.Entry.{Entry}
use Rattle.vf_journal.specs.declared.entry.Entry.TheVariants.{Start, Saved, Pass, End, Pages, Copy, Lost, Short, Evict, Retire, Rest}
use Rattle.vf_journal.specs.declared.entry.Kind.{Kind}
use Rattle.vf_journal.specs.declared.entry.Kind.TheVariants as kinds
use Rattle.vf_journal.specs.declared.entry.Told.{Told}
use Rattle.vf_journal.specs.declared.entry.Told.TheVariants as told
use Rattle.vf_journal.specs.Farm.{Farm, limits}
use Rattle.vf_journal.specs.Records.{Held, Attempt, attempt_from, Stage, idle, running, deferred, over, Records, same_job, is_job, is_ready, is_running, is_deferred, is_over, some_job, image_of, is_pinned}

-- What the rules ask of the runs: the counts of a held image, the counts at the ending of a job's run, and what the run comes to.
pub record Seen : Type 0 where
  pub counts : Held → Header
  pub ending : Job → Header
  pub outcome : Job → Outcome

-- ---- from which image a job starts

-- the nearest image that fits the job, among those of the nodes on its way; none is time zero
abbrev pub origin_of : {S : Type 0} → Farm S → Seen → Records → Job → Option NodeNo
origin_of f seen r job =
    option_map node_no (jobs.origin f.given f.nodes (λ n. option_map seen.counts (image_of r (node_no n))) job)

abbrev pub started_from : Records → Option NodeNo → Attempt
started_from r origin = attempt_from (option_and_then (image_of r) origin)

-- ---- what keeps an entry from being made

-- the job runs, in that attempt
abbrev pub IsRunning : Records → Job → Attempt → Type 0
IsRunning r job attempt = r.stages job ≡ running attempt

-- the only job that runs
pub record IsAlone (r : Records) (job : Job) : Type 0 where
  pub attempt : Attempt
  pub runs : IsRunning r job attempt
  pub only : (other : Job) → is_running (r.stages other) ≡ true → other ≡ job

-- nothing can go on before the deferred jobs are made ready
pub record IsAtRest {S : Type 0} (f : Farm S) (r : Records) : Type 0 where
  pub ready : some_job f (is_ready f r) ≡ false
  pub running : some_job f (λ job. is_running (r.stages job)) ≡ false
  pub deferred : some_job f (λ job. is_deferred (r.stages job)) ≡ true
  pub first : r.rested ≡ false

-- What must hold of jobs and images where an entry is made. Copy and Retire entries are made by what causes them alone.
abbrev pub Guard : {S : Type 0} → Farm S → Seen → Records → Entry → Type 0
Guard f seen r (Start job origin) = (is_ready f r job ≡ true) × (origin ≡ origin_of f seen r job)
Guard f seen r (Saved node turn pages base) = (attempt : Attempt) × IsRunning r (Reach node) attempt
Guard f seen r (Pass node turn) = (attempt : Attempt) × IsRunning r (Reach node) attempt
Guard f seen r (End job turn) = (attempt : Attempt) × IsRunning r job attempt
Guard f seen r (Pages job turn pages) = IsAlone r job × (r.held ≡ [])
Guard f seen r (Lost job turn) = (is_running (r.stages job) || is_ready f r job) ≡ true
Guard f seen r (Short job turn) = ((attempt : Attempt) × IsRunning r job attempt) × (r.held ≡ []) × (r.rested ≡ false)
Guard f seen r (Evict node) = (is_some (image_of r node) ≡ true) × (is_pinned r node ≡ false)
Guard f seen r Rest = IsAtRest f r
Guard f seen r (Copy job node) = ⊥
Guard f seen r (Retire node) = ⊥

-- ---- what an entry does by itself

abbrev pub with_stage : Job → Stage → Records → Records
with_stage job stage r = record r { stages = λ other. if same_job other job then stage else r.stages other }

-- the kind of the node that the job reaches
abbrev pub with_kind : Job → Kind → Records → Records
with_kind (Reach n) kind r = record r { kinds = λ other. if other == n.0 then kind else r.kinds other }
with_kind (Finish n) kind r = r

-- the job is over; it tells an outcome or not, and if it reaches a node, the node's kind is known
abbrev pub with_over : Job → Option Told → Kind → Records → Records
with_over job tells kind r = with_kind job kind (with_stage job (over tells) r)

abbrev pub without_image : NodeNo → List Held → List Held
without_image node held = filter (λ h. not (h.node.0 == node.0)) held

abbrev pub ready_again : Stage → Stage
ready_again idle = idle
ready_again (running attempt) = running attempt
ready_again deferred = idle
ready_again (over tells) = over tells

abbrev pub by_itself : {S : Type 0} → Farm S → Seen → Records → Entry → Records
by_itself f seen r (Start job origin) = with_stage job (running (started_from r origin)) r
by_itself f seen r (Saved node turn pages base) =
    with_over (Reach node) None (kinds.Saved turn) (record r { held = r.held ++ record { node = node; turn = turn; pages = pages; base = base } ∷ [] })
by_itself f seen r (Pass node turn) = with_over (Reach node) None kinds.Passed r
by_itself f seen r (End job turn) = with_over job (Some (told.Own (seen.outcome job))) kinds.Ended r
by_itself f seen r (Pages job turn pages) = with_over job (Some (told.Own (seen.outcome job))) kinds.Over r
by_itself f seen r (Lost job turn) = with_over job (Some told.Lost) kinds.Lost r
by_itself f seen r (Short job turn) = with_stage job deferred r
by_itself f seen r (Evict node) = record r { held = without_image node r.held }
by_itself f seen r Rest = record r { stages = λ job. ready_again (r.stages job); held = []; rested = true }
by_itself f seen r (Copy job node) = r
by_itself f seen r (Retire node) = r

-- ---- copies

-- what comes of the end of a run that reaches a node also for jobs below: the node, the kind that their nodes have too, and whom it
-- fits
pub record Spread : Type 0 where
  pub node : NodeNo
  pub kind : Kind
  pub fits : Job → Bool

-- the ending, or the passing of the budget, of a run that reaches a node
abbrev pub spread_of : {S : Type 0} → Farm S → Seen → Entry → Option Spread
spread_of f seen (End (Reach n) turn) =
    Some (record { node = n; kind = kinds.Ended; fits = λ job. fits (limits f job) (seen.ending (Reach n)) })
spread_of f seen (Pages (Reach n) turn pages) =
    Some (record { node = n; kind = kinds.Over; fits = λ job. passing_fits (limits f job) turn (limits f (Reach n)) })
spread_of f seen (End (Finish n) turn) = None
spread_of f seen (Pages (Finish n) turn pages) = None
spread_of f seen (Start job origin) = None
spread_of f seen (Saved node turn pages base) = None
spread_of f seen (Pass node turn) = None
spread_of f seen (Copy job node) = None
spread_of f seen (Lost job turn) = None
spread_of f seen (Short job turn) = None
spread_of f seen (Evict node) = None
spread_of f seen (Retire node) = None
spread_of f seen Rest = None

-- a job of the node's subtree that is not over, and that it fits
abbrev pub is_copied : {S : Type 0} → Farm S → Records → Spread → Job → Bool
is_copied f r s job = is_job f.nodes job && (is_below f.nodes s.node.0 (node_of job) && (not (is_over (r.stages job)) && s.fits job))

-- the jobs that are over with it, and the kinds of the nodes that they reach
abbrev pub with_copies : {S : Type 0} → Farm S → Option Spread → Records → Records
with_copies f None r = r
with_copies f (Some s) r = record r {
  kinds = λ n. if is_copied f r s (Reach (node_no n)) then s.kind else r.kinds n;
  stages = λ job. if is_copied f r s job then over (Some (told.Copied s.node)) else r.stages job;
}

abbrev pub copies : {S : Type 0} → Farm S → Option Spread → Records → List Entry
copies f None r = []
copies f (Some s) r = map (λ job. Copy job s.node) (filter (is_copied f r s) (jobs.jobs f.nodes))

-- ---- images that no job needs

-- whether some job of the node's subtree is not over
abbrev pub is_needed : {S : Type 0} → Farm S → Records → NodeNo → Bool
is_needed f r node = some_job f (λ job. is_below f.nodes node.0 (node_of job) && not (is_over (r.stages job)))

abbrev pub without_unneeded : {S : Type 0} → Farm S → Records → Records
without_unneeded f r = record r { held = filter (λ h. is_needed f r h.node) r.held }

-- the numbers below n, the highest first
abbrev pub down_from : ℕ → List ℕ
down_from zero = []
down_from (suc n) = n ∷ down_from n

abbrev pub is_retired : {S : Type 0} → Farm S → Records → NodeNo → Bool
is_retired f r node = is_some (image_of r node) && not (is_needed f r node)

abbrev pub retirings : {S : Type 0} → Farm S → Records → List Entry
retirings f r = map (λ n. Retire (node_no n)) (filter (λ n. is_retired f r (node_no n)) (down_from (length f.nodes)))

-- ---- an entry with its consequences

-- whether a job is over with it
abbrev pub ends_job : Entry → Bool
ends_job (Start job origin) = false
ends_job (Saved node turn pages base) = true
ends_job (Pass node turn) = true
ends_job (End job turn) = true
ends_job (Pages job turn pages) = true
ends_job (Copy job node) = false
ends_job (Lost job turn) = true
ends_job (Short job turn) = false
ends_job (Evict node) = false
ends_job (Retire node) = false
ends_job Rest = false

-- the records after an entry and its copies
abbrev pub with_its_copies : {S : Type 0} → Farm S → Seen → Records → Entry → Records
with_its_copies f seen r e = with_copies f (spread_of f seen e) (by_itself f seen r e)

-- the records after an entry, its copies and what is retired then
abbrev pub after : {S : Type 0} → Farm S → Seen → Records → Entry → Records
after f seen r e = if ends_job e then without_unneeded f (with_its_copies f seen r e) else with_its_copies f seen r e

-- the entries that follow from it: copies in the order of the jobs, then what is retired, the highest node first
abbrev pub consequences : {S : Type 0} → Farm S → Seen → Records → Entry → List Entry
consequences f seen r e =
    copies f (spread_of f seen e) (by_itself f seen r e) ++ (if ends_job e then retirings f (with_its_copies f seen r e) else [])
