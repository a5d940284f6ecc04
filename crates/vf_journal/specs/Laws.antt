-- The laws of farms and journals, over any machine. Each is the contract of a function of `laws`.
use Rattle.std.specs.Prelude.{◌≡◌, ◌⊎◌, ℕ, ◌+◌, Bool, true, false, List, ◌∷◌, ◌++◌, Some, is_some}
use Rattle.std.specs.List.{All}
use Rattle.vf_base.specs.declared.names.Job.{Job}
use Rattle.vf_base.specs.declared.names.Job.TheVariants.{Reach, Finish}
use Rattle.vf_base.specs.declared.names.NodeNo.{NodeNo}
use Rattle.vf_base.specs.declared.run.Outcome.{Outcome}
use Rattle.vf_base.specs.declared.run.SaveKind.{SaveKind}
use Rattle.vf_machine.specs.Machine.{Move, go, stop}
use Rattle.vf_machine.specs.Run.{reads_next, sight_at}
use Rattle.vf_plan.specs.Rules.{IsPlan}
use Rattle.vf_jobs.specs.Kinds as solo
use Rattle.vf_jobs.specs.Kinds.{savepoint_of_node}
use Rattle.vf_journal.specs.declared.entry.Entry.{Entry}
use Rattle.vf_journal.specs.Farm.{Farm, stimulus, point_in}
use Rattle.vf_journal.specs.declared.entry.Kind.{Kind}
use Rattle.vf_journal.specs.declared.entry.Kind.TheVariants as kinds
use Rattle.vf_journal.specs.declared.entry.Told.TheVariants as told
use Rattle.vf_journal.specs.Records.{Held, Attempt, Records, at_first, is_job, is_ready, is_running, is_deferred, is_over, some_job, told_by, outcome_told}
use Rattle.vf_journal.specs.Effects.{IsRunning, consequences}
use Rattle.vf_journal.specs.Journal.{IsJournal, Choice, free, of_solo, kind_of, replay, turns_from, closed_turns, closing_of}
use Rattle.vf_journal.specs.Machine.{World, Event, Runs, turns_at}

abbrev pub goes_on : {S : Type 0} → Move S → Bool
goes_on (go state text save) = true
goes_on (stop ending) = false

-- the turn after k turns of a job's solo run, if it reads the stimulus, does not end the run by itself
abbrev pub ReadGoesOn : {S : Type 0} → Farm S → Job → ℕ → Type 0
ReadGoesOn f job k =
    reads_next f.machine (stimulus f job) (point_in f job k).moment ≡ true
    → goes_on (f.machine.move (sight_at f.machine (stimulus f job) (point_in f job k).moment) (point_in f job k).moment.state) ≡ true

-- no turn of the solo runs that reads the stimulus ends the run by itself
abbrev pub ReadsGoOn : {S : Type 0} → Farm S → Type 0
ReadsGoOn f = (job : Job) (k : ℕ) → ReadGoesOn f job k

-- ---- what a journal tells

-- the kind of a node is that of the solo run that reaches it
abbrev pub IsKind : {S : Type 0} → Farm S → NodeNo → Kind → Type 0
IsKind f n kinds.Unknown = Unit {0}
IsKind f n (kinds.Saved turn) = (save : SaveKind) × (kind_of f n ≡ Some (solo.saved turn save))
IsKind f n kinds.Passed = (turn : ℕ) × (kind_of f n ≡ Some (solo.passed turn))
IsKind f n kinds.Ended = (turn : ℕ) × (kind_of f n ≡ Some (solo.ended turn))
IsKind f n kinds.Over = (turn : ℕ) × (kind_of f n ≡ Some (solo.over turn))
IsKind f n kinds.Lost = Unit {0}

-- each outcome told is that of the job's solo run, and each kind that of its node
pub record IsTold {S : Type 0} (f : Farm S) (r : Records) : Type 0 where
  pub outcomes : (job : Job) (outcome : Outcome) → outcome_told r job ≡ Some outcome → outcome ≡ (of_solo f).outcome job
  pub kinds : (n : NodeNo) → IsKind f n (r.kinds n.0)

abbrev pub TellsSolo : {S : Type 0} → Farm S → Type 0
TellsSolo {S} f = IsPlan f.nodes → (choice : Choice) (js : List Entry) (r : Records) → IsJournal f choice js r → IsTold f r

-- ---- where a farm has done its work

-- no job is ready, running or deferred
pub record IsDone {S : Type 0} (f : Farm S) (r : Records) : Type 0 where
  pub ready : some_job f (is_ready f r) ≡ false
  pub running : some_job f (λ job. is_running (r.stages job)) ≡ false
  pub deferred : some_job f (λ job. is_deferred (r.stages job)) ≡ false

-- each job of the plan is over, and each test that was not lost has an outcome
pub record IsWhole {S : Type 0} (f : Farm S) (r : Records) : Type 0 where
  pub over : (job : Job) → is_job f.nodes job ≡ true → is_over (r.stages job) ≡ true
  pub told : (n : NodeNo) → is_job f.nodes (Finish n) ≡ true
      → (told_by (r.stages (Finish n)) ≡ Some told.Lost) ⊎ (is_some (outcome_told r (Finish n)) ≡ true)

abbrev pub EndsWhole : {S : Type 0} → Farm S → Type 0
EndsWhole {S} f = IsPlan f.nodes → (choice : Choice) (js : List Entry) (r : Records) → IsJournal f choice js r → IsDone f r → IsWhole f r

-- ---- a journal and its entries

-- the records that a journal comes to are its replay
abbrev pub IsReplayed : {S : Type 0} → Farm S → Type 0
IsReplayed {S} f = (choice : Choice) (js : List Entry) (r : Records) → IsJournal f choice js r → r ≡ replay f (of_solo f) at_first js

-- an entry with what follows from it adds the turns of the attempt that it closes
abbrev pub TurnsAddUp : {S : Type 0} → Farm S → Type 0
TurnsAddUp {S} f =
    (choice : Choice) (js : List Entry) (r : Records) (e : Entry) → IsJournal f choice js r
    → turns_from f at_first (js ++ e ∷ consequences f (of_solo f) r e) ≡ turns_from f at_first js + closed_turns r (closing_of e)

-- ---- runs of the farm

-- a held image is its node's save point
pub record IsSavePoint {S : Type 0} (f : Farm S) (w : World S) (h : Held) : Type 0 where
  pub point : w.images h.node.0 ≡ point_in f (Reach h.node) h.turn
  pub at_save : savepoint_of_node f.machine f.given f.nodes h.node ≡ Some h.turn

-- What a run of the farm has come to. Its journal is one of the farm, whose turns, kinds, pages and endings are those of the solo runs, and
-- the records are those that the journal comes to; each outcome told is that of the job's solo run; where nothing is left to do, each job is
-- over and each test that was not lost has an outcome; each held image is its node's save point; and each running job is at a point of its
-- solo run.
pub record IsCore {S : Type 0} (f : Farm S) (js : List Entry) (w : World S) : Type 0 where
  pub journal : IsJournal f free js w.records
  pub told : IsTold f w.records
  pub whole : IsDone f w.records → IsWhole f w.records
  pub images : All (IsSavePoint f w) w.records.held
  pub runs : (job : Job) (attempt : Attempt) → IsRunning w.records job attempt → w.runs job ≡ point_in f job (turns_at w job)

-- The core law: whatever jobs start, whatever images are evicted, and however the turns of jobs interleave.
abbrev pub CoreLaw : {S : Type 0} → Farm S → Type 0
CoreLaw {S} f =
    IsPlan f.nodes → ReadsGoOn f → (es : List Event) (js : List Entry) (w : World S) → Runs f es js w → IsCore f js w
