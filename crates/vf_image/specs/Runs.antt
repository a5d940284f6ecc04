-- The solo run of a job, and what of it a simulator or an image has (docs/FARM.md, "Simulators and images").
use Rattle.std.specs.Prelude.{◌≡◌, ℕ, zero, suc, ◌<◌, ◌≤◌, Bool, false, List, Option, Some, None, slice_index, is_some}
use Rattle.vf_base.specs.declared.names.Job.{Job}
use Rattle.vf_base.specs.declared.names.Job.TheVariants.{Reach, Finish}
use Rattle.vf_base.specs.declared.names.NodeNo.{NodeNo}
use Rattle.vf_base.specs.declared.run.Header.{Header}
use Rattle.vf_base.specs.declared.run.Limits.{Limits}
use Rattle.vf_base.specs.declared.run.SaveKind.{SaveKind}
use Rattle.vf_machine.specs.Run.{Moment, Turned, moment_at, text_at, turn_at, mark_at, words_at, is_ending}
use Rattle.vf_machine.specs.Pages.{is_touched, pages_touched}
use Rattle.vf_design.specs.Program.{word_count}
use Rattle.vf_design.specs.State.{State, IsSound}
use Rattle.vf_design.specs.Words.{machine_of}
use Rattle.vf_plan.specs.Paths.{joined}
use Rattle.vf_jobs.specs.Jobs.{node_of}
use Rattle.vf_jobs.specs.Kinds.{save_of, save_at, is_passed, savepoint_of_node}
use Rattle.vf_jobs.specs.Limits.{limits_of}
use Rattle.vf_jobs.specs.Setup.{Conditions}
use Rattle.vf_pages.specs.Pages.{Pages, entry, word_of}

-- the stimulus and the limits of a job
abbrev pub stimulus_of : Conditions → Job → List ℕ
stimulus_of c job = joined c.plan (node_of job)

abbrev pub limits_for : Conditions → Job → Limits
limits_for c job = limits_of c.limits c.plan job

-- of the job's solo run: the moment after k turns, the bytes written in them, the words then, and the turn that comes next
abbrev pub moment_in : Conditions → Job → ℕ → Moment State
moment_in c job k = moment_at (machine_of c.design) (stimulus_of c job) (limits_for c job) k

abbrev pub text_in : Conditions → Job → ℕ → List ℕ
text_in c job k = text_at (machine_of c.design) (stimulus_of c job) (limits_for c job) k

abbrev pub words_in : Conditions → Job → ℕ → List ℕ
words_in c job k = words_at (machine_of c.design) (stimulus_of c job) (limits_for c job) k

abbrev pub turn_in : Conditions → Job → ℕ → Turned State
turn_in c job k = turn_at (machine_of c.design) (stimulus_of c job) (limits_for c job) k

-- the states up to turn k are sound
abbrev pub AreSound : Conditions → Job → ℕ → Type 0
AreSound c job k = (j : ℕ) → j ≤ k → IsSound c.design (moment_in c job j).state

-- none of the first k turns ended the run
abbrev pub GoesOn : Conditions → Job → ℕ → Type 0
GoesOn c job k = (j : ℕ) → j < k → is_ending (mark_at (machine_of c.design) (stimulus_of c job) (limits_for c job) j) ≡ false

abbrev pub touches : Conditions → Job → ℕ → ℕ → Bool
touches c job k page = is_touched (machine_of c.design) (stimulus_of c job) (limits_for c job) k page

-- how many pages the first k turns touched
abbrev pub touched_in : Conditions → Job → ℕ → ℕ
touched_in c job k = pages_touched (machine_of c.design) (stimulus_of c job) (limits_for c job) k

-- the checkpoint that the last of the first k turns asked for
abbrev pub last_save : Conditions → Job → ℕ → Option SaveKind
last_save c job zero = None
last_save c job (suc k) = save_of (mark_at (machine_of c.design) (stimulus_of c job) (limits_for c job) k)

-- turn t of the run that reaches the node is its save point
abbrev pub IsSavedAt : Conditions → NodeNo → ℕ → Type 0
IsSavedAt c node t = savepoint_of_node (machine_of c.design) c.limits c.plan node ≡ Some t

-- after k turns it is not the save point of the run that reaches a node, nor the turn before it reads past the node's stimulus
abbrev pub GoesPast : Conditions → Job → ℕ → Type 0
GoesPast c (Finish node) k = Unit {0}
GoesPast c (Reach node) k =
    (save_at (machine_of c.design) (stimulus_of c (Reach node)) (limits_for c (Reach node)) k ≡ None)
    × (is_passed (machine_of c.design) (stimulus_of c (Reach node)) (limits_for c (Reach node)) k ≡ false)

-- the pages have the words of the job's solo run after k turns, and those are held that it touched
pub record Stands (c : Conditions) (job : Job) (k : ℕ) (pages : Pages) : Type 0 where
  pub zero : pages.zero ≡ c.zero
  pub words : (at : ℕ) → at < word_count c.design → word_of pages at ≡ slice_index (words_in c job k) at
  pub touched : (page : ℕ) → is_some (entry page pages.pages) ≡ touches c job k page

-- turn k of the job's solo run, which has not ended nor been decided before: what has been counted, and all bytes written so far
pub record IsRunAt (c : Conditions) (job : Job) (k : ℕ) (header : Header) (bytes : List ℕ) : Type 0 where
  pub goes : GoesOn c job k
  pub goes_past : (j : ℕ) → j < k → GoesPast c job j
  pub counts : header ≡ (moment_in c job k).header
  pub says : bytes ≡ text_in c job k

-- and its words in pages
pub record IsAt (c : Conditions) (job : Job) (k : ℕ) (header : Header) (bytes : List ℕ) (pages : Pages) : Type 0 where
  pub run : IsRunAt c job k header bytes
  pub stands : Stands c job k pages
