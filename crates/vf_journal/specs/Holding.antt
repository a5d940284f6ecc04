-- What is held in a journal of the farm: the images, and those that running jobs go back to (docs/FARM.md, "The journal").
use Rattle.std.specs.Prelude.{◌≡◌, ◌≢◌, ℕ, ◌<◌, ◌≤◌, true, false, ◌==◌, not, List, [], ◌∷◌, length, Option, Some, None, option_and_then}
use Rattle.std.specs.List.{list_any, filter, All}
use Rattle.vf_base.specs.declared.names.Job.{Job}
use Rattle.vf_base.specs.declared.names.Job.TheVariants.{Reach}
use Rattle.vf_base.specs.declared.names.NodeNo.{NodeNo}
use Rattle.vf_base.specs.declared.run.Limits.{Limits}
use Rattle.vf_base.specs.declared.run.SaveKind.{SaveKind}
use Rattle.vf_plan.specs.Rules.{IsPlan}
use Rattle.vf_jobs.specs.Jobs as jobs
use Rattle.vf_jobs.specs.Jobs.{node_of, fits}
use Rattle.vf_jobs.specs.Kinds as solo
use Rattle.vf_jobs.specs.Kinds.{savepoint_of_node}
use Rattle.vf_jobs.specs.Subtree.{is_below}
use Rattle.vf_journal.specs.declared.entry.Entry.{Entry}
use Rattle.vf_journal.specs.declared.entry.Entry.TheVariants.{Start, Saved, Pass, End, Pages, Copy, Lost, Short, Evict, Retire, Rest}
use Rattle.vf_journal.specs.Farm.{Farm, limits}
use Rattle.vf_journal.specs.Records.{Held, Attempt, Records, is_job, is_running, is_over, image_of}
use Rattle.vf_journal.specs.Effects.{IsRunning}
use Rattle.vf_journal.specs.Journal.{IsJournal, Choice, of_solo, kind_of, next_evicted}

-- no two images are of one node
abbrev pub AreDistinct : List Held → Type 0
AreDistinct [] = Unit {0}
AreDistinct (h ∷ more) = (list_any (λ other. other.node.0 == h.node.0) more ≡ false) × AreDistinct more

-- An incremental image stands on a full one that is held, of another node above; this was saved at an earlier turn and fits whatever the
-- incremental one fits.
pub record HasBase {S : Type 0} (f : Farm S) (r : Records) (h : Held) (base : NodeNo) : Type 0 where
  pub image : Held
  pub found : image_of r base ≡ Some image
  pub full : image.base ≡ None
  pub above : is_below f.nodes base.0 h.node.0 ≡ true
  pub proper : base.0 ≢ h.node.0
  pub earlier : image.turn < h.turn
  pub serves : (lim : Limits) → fits lim ((of_solo f).counts h) ≡ true → fits lim ((of_solo f).counts image) ≡ true

abbrev pub IsBased : {S : Type 0} → Farm S → Records → Held → Option NodeNo → Type 0
IsBased f r h None = Unit {0}
IsBased f r h (Some base) = HasBase f r h base

-- A held image is the save point of a node of the plan, the one image of this node, and has its base; the job that reaches the node is over.
pub record IsHeld {S : Type 0} (f : Farm S) (r : Records) (h : Held) : Type 0 where
  pub inside : h.node.0 < length f.nodes
  pub save : SaveKind
  pub kind : kind_of f h.node ≡ Some (solo.saved h.turn save)
  pub at_save : savepoint_of_node f.machine f.given f.nodes h.node ≡ Some h.turn
  pub over : is_over (r.stages (Reach h.node)) ≡ true
  pub found : image_of r h.node ≡ Some h
  pub based : IsBased f r h h.base

-- The full image that the origin of a running job is or is based on, where it is still held: it stands on the job's way and above the node
-- that the job reaches, fits the job, and was saved no later than the attempt's start.
pub record ServesOn {S : Type 0} (f : Farm S) (job : Job) (attempt : Attempt) (image : Held) : Type 0 where
  pub full : image.base ≡ None
  pub below : is_below f.nodes image.node.0 (node_of job) ≡ true
  pub proper : (node : NodeNo) → job ≡ Reach node → image.node.0 ≢ node.0
  pub fit : fits (limits f job) ((of_solo f).counts image) ≡ true
  pub earlier : image.turn ≤ attempt.since

pub record AreHeld {S : Type 0} (f : Farm S) (r : Records) : Type 0 where
  pub distinct : AreDistinct r.held
  pub each : All (IsHeld f r) r.held
  pub full : (job : Job) (attempt : Attempt) (image : Held) → IsRunning r job attempt → option_and_then (image_of r) attempt.full ≡ Some image
      → ServesOn f job attempt image
  pub planned : (job : Job) (attempt : Attempt) → IsRunning r job attempt → is_job f.nodes job ≡ true

-- the image that an entry brings
abbrev pub saved_image : Entry → Option Held
saved_image (Saved node turn pages base) = Some (record { node = node; turn = turn; pages = pages; base = base })
saved_image (Start job origin) = None
saved_image (Pass node turn) = None
saved_image (End job turn) = None
saved_image (Pages job turn pages) = None
saved_image (Copy job node) = None
saved_image (Lost job turn) = None
saved_image (Short job turn) = None
saved_image (Evict node) = None
saved_image (Retire node) = None
saved_image Rest = None

-- the job that is over with an entry
abbrev pub ended_job : Entry → Option Job
ended_job (Saved node turn pages base) = Some (Reach node)
ended_job (Pass node turn) = Some (Reach node)
ended_job (End job turn) = Some job
ended_job (Pages job turn pages) = Some job
ended_job (Lost job turn) = Some job
ended_job (Start job origin) = None
ended_job (Copy job node) = None
ended_job (Short job turn) = None
ended_job (Evict node) = None
ended_job (Retire node) = None
ended_job Rest = None

-- no job runs
abbrev pub NoneRuns : Records → Type 0
NoneRuns r = (job : Job) → is_running (r.stages job) ≡ false

-- how many jobs of the plan are not over
abbrev pub jobs_left : {S : Type 0} → Farm S → Records → ℕ
jobs_left f r = length (filter (λ job. not (is_over (r.stages job))) (jobs.jobs f.nodes))

-- ---- laws

-- in each journal of a farm
abbrev pub HoldsImages : {S : Type 0} → Farm S → Type 0
HoldsImages {S} f = IsPlan f.nodes → (choice : Choice) (js : List Entry) (r : Records) → IsJournal f choice js r → AreHeld f r

-- where an image is held, some image may be evicted
abbrev pub SomeCanGo : {S : Type 0} → Farm S → Type 0
SomeCanGo {S} f =
    IsPlan f.nodes → (choice : Choice) (js : List Entry) (r : Records) → IsJournal f choice js r → next_evicted f r ≡ None → r.held ≡ []
