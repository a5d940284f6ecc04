-- The farm as a machine: jobs that run from origins, images, and the events that change them (docs/FARM.md, "The farm"). Runs of jobs are
-- made turn by turn here, and what they come to is read off their last points.
use Rattle.std.specs.Prelude.{◌≡◌, ℕ, ◌<◌, ◌≤◌, true, false, ◌==◌, if◌then◌else◌, List, [], ◌∷◌, ◌++◌, Option, Some, None, option_map}
use Rattle.vf_base.specs.declared.names.Job.{Job}
use Rattle.vf_base.specs.declared.names.Job.TheVariants.{Reach}
use Rattle.vf_base.specs.declared.names.NodeNo.{NodeNo}
use Rattle.vf_base.specs.declared.run.Outcome.{Outcome}
use Rattle.vf_base.specs.declared.run.Outcome.TheVariants as outcomes
use Rattle.vf_base.specs.declared.run.SaveKind.{SaveKind}
use Rattle.vf_machine.specs.Run.{is_ending}
use Rattle.vf_journal.specs.declared.entry.Entry.{Entry}
use Rattle.vf_journal.specs.declared.entry.Entry.TheVariants.{Start, Saved, Pass, End, Pages, Copy, Lost, Short, Evict, Retire, Rest}
use Rattle.vf_journal.specs.Farm.{Farm, Point, point_zero, point_after, next_turn, touched_next, count_pages, own_pages, is_at_save, is_at_pass, is_decided, done_at}
use Rattle.vf_journal.specs.Records.{Held, Attempt, Stage, idle, running, deferred, over, Records, at_first, same_job}
use Rattle.vf_journal.specs.Effects.{Seen, Guard, IsRunning, after, consequences}
use Rattle.vf_journal.specs.Journal.{base_for}

-- The records, and the points of runs: where each running job is, and what the image of each node holds. What stands at other jobs and
-- nodes does not count.
pub record World (S : Type 0) : Type 0 where
  pub records : Records
  pub runs : Job → Point S
  pub images : ℕ → Point S

abbrev pub world_at_first : {S : Type 0} → Farm S → World S
world_at_first f = record { records = at_first; runs = λ job. point_zero f; images = λ n. point_zero f }

-- A job that runs makes a turn, or an entry is made for the journal.
pub data Event : Type 0 where
  turned : Job → Event
  made : Entry → Event

-- ---- what the rules ask of the runs

-- how many pages a run has touched with its next turn
abbrev pub pages_next : {S : Type 0} → Farm S → Job → Point S → ℕ
pages_next f job now = count_pages f (touched_next f job now)

-- what the run comes to: with the turn that passes the budget its pages, else its ending
abbrev pub outcome_at : {S : Type 0} → Farm S → Job → Point S → Outcome
outcome_at f job now = if is_ending (next_turn f job now).mark then done_at f job now else outcomes.Pages (pages_next f job now)

abbrev pub image_point : {S : Type 0} → World S → Held → Point S
image_point w h = w.images h.node.0

abbrev pub seen_in : {S : Type 0} → Farm S → World S → Seen
seen_in f w = record {
  counts = λ h. (image_point w h).moment.header;
  ending = λ job. (next_turn f job (w.runs job)).after.header;
  outcome = λ job. outcome_at f job (w.runs job);
}

-- ---- when an event may come

abbrev pub turns_at : {S : Type 0} → World S → Job → ℕ
turns_at w job = (w.runs job).moment.header.turns

-- a turn that does not end the run and stays within the budget; a run that reaches a node goes on only up to where it is decided
pub record MayTurn {S : Type 0} (f : Farm S) (w : World S) (job : Job) : Type 0 where
  pub attempt : Attempt
  pub runs : IsRunning w.records job attempt
  pub goes : is_ending (next_turn f job (w.runs job)).mark ≡ false
  pub undecided : is_decided f job (w.runs job) ≡ false
  pub within : pages_next f job (w.runs job) ≤ f.budget

-- the run is at its save point; the image has the base that it must have, and its own pages are counted
pub record MaySave {S : Type 0} (f : Farm S) (w : World S) (node : NodeNo) (turn pages : ℕ) (base : Option NodeNo) : Type 0 where
  pub save : SaveKind
  pub asked : (w.runs (Reach node)).saved ≡ Some save
  pub at_save : is_at_save f (Reach node) (w.runs (Reach node)) ≡ true
  pub now : turn ≡ turns_at w (Reach node)
  pub based : base ≡ option_map (λ (h : Held). h.node) (base_for w.records node save)
  pub counted : pages ≡ own_pages f (w.runs (Reach node)) (option_map (image_point w) (base_for w.records node save))

-- the next turn reads past the stimulus
pub record MayPass {S : Type 0} (f : Farm S) (w : World S) (node : NodeNo) (turn : ℕ) : Type 0 where
  pub unsaved : is_at_save f (Reach node) (w.runs (Reach node)) ≡ false
  pub at_pass : is_at_pass f (Reach node) (w.runs (Reach node)) ≡ true
  pub now : turn ≡ turns_at w (Reach node)

-- the next turn ends the run
pub record MayEnd {S : Type 0} (f : Farm S) (w : World S) (job : Job) (turn : ℕ) : Type 0 where
  pub undecided : is_decided f job (w.runs job) ≡ false
  pub ends : is_ending (next_turn f job (w.runs job)).mark ≡ true
  pub now : turn ≡ (next_turn f job (w.runs job)).after.header.turns

-- the next turn passes the budget
pub record MayPassBudget {S : Type 0} (f : Farm S) (w : World S) (job : Job) (turn pages : ℕ) : Type 0 where
  pub undecided : is_decided f job (w.runs job) ≡ false
  pub passes : f.budget < pages_next f job (w.runs job)
  pub now : turn ≡ turns_at w job
  pub counted : pages ≡ pages_next f job (w.runs job)

-- an attempt that is given up tells how far it has come, and a job that has not started is at turn 0
abbrev pub TellsTurn : {S : Type 0} → World S → Job → ℕ → Stage → Type 0
TellsTurn w job turn idle = turn ≡ 0
TellsTurn w job turn (running attempt) = turn ≡ turns_at w job
TellsTurn w job turn deferred = Unit {0}
TellsTurn w job turn (over tells) = Unit {0}

-- what the points of runs have to say to an entry
abbrev pub MayMake : {S : Type 0} → Farm S → World S → Entry → Type 0
MayMake f w (Start job origin) = Unit {0}
MayMake f w (Saved node turn pages base) = MaySave f w node turn pages base
MayMake f w (Pass node turn) = MayPass f w node turn
MayMake f w (End job turn) = MayEnd f w job turn
MayMake f w (Pages job turn pages) = MayPassBudget f w job turn pages
MayMake f w (Copy job node) = Unit {0}
MayMake f w (Lost job turn) = TellsTurn w job turn (w.records.stages job)
MayMake f w (Short job turn) = TellsTurn w job turn (w.records.stages job)
MayMake f w (Evict node) = Unit {0}
MayMake f w (Retire node) = Unit {0}
MayMake f w Rest = Unit {0}

abbrev pub MayCome : {S : Type 0} → Farm S → World S → Event → Type 0
MayCome f w (turned job) = MayTurn f w job
MayCome f w (made e) = Guard f (seen_in f w) w.records e × MayMake f w e

-- ---- what an event does

abbrev pub put_run : {S : Type 0} → Job → Point S → World S → World S
put_run job now w = record w { runs = λ other. if same_job other job then now else w.runs other }

-- the image of the origin, or time zero
abbrev pub point_from : {S : Type 0} → Farm S → World S → Option NodeNo → Point S
point_from f w None = point_zero f
point_from f w (Some node) = w.images node.0

-- a job starts with the point of its origin, and an image keeps the point at which it is saved
abbrev pub with_points : {S : Type 0} → Farm S → World S → Entry → World S
with_points f w (Start job origin) = put_run job (point_from f w origin) w
with_points f w (Saved node turn pages base) = record w { images = λ n. if n == node.0 then w.runs (Reach node) else w.images n }
with_points f w (Pass node turn) = w
with_points f w (End job turn) = w
with_points f w (Pages job turn pages) = w
with_points f w (Copy job node) = w
with_points f w (Lost job turn) = w
with_points f w (Short job turn) = w
with_points f w (Evict node) = w
with_points f w (Retire node) = w
with_points f w Rest = w

abbrev pub with_event : {S : Type 0} → Farm S → World S → Event → World S
with_event f w (turned job) = put_run job (point_after f job (w.runs job)) w
with_event f w (made e) = record (with_points f w e) { records = after f (seen_in f w) w.records e }

-- what an event adds to the journal
abbrev pub written : {S : Type 0} → Farm S → World S → Event → List Entry
written f w (turned job) = []
written f w (made e) = e ∷ consequences f (seen_in f w) w.records e

-- A run of the farm: events, each where it may come; the journal that they write; and the world that they lead to.
pub data Runs {S : Type 0} (f : Farm S) : List Event → List Entry → World S → Type 0 where
  begun : Runs f [] [] (world_at_first f)
  next : {es : List Event} {js : List Entry} {w : World S} (e : Event) → Runs f es js w → MayCome f w e
      → Runs f (es ++ e ∷ []) (js ++ written f w e) (with_event f w e)
