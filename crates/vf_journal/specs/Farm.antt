-- What a farm is given, and the solo runs of its jobs (docs/FARM.md, "The farm").
use Rattle.std.specs.Prelude.{ℕ, zero, suc, Bool, List, [], ◌++◌, Option, Some, None, ◌&&◌, ◌||◌, ◌==◌, not, false, length, is_some}
use Rattle.vf_base.specs.declared.names.Job.{Job}
use Rattle.vf_base.specs.declared.names.Job.TheVariants.{Reach, Finish}
use Rattle.vf_base.specs.declared.run.Limits.{Limits}
use Rattle.vf_base.specs.declared.run.Outcome.{Outcome}
use Rattle.vf_base.specs.declared.run.Outcome.TheVariants.{Done}
use Rattle.vf_base.specs.declared.run.SaveKind.{SaveKind}
use Rattle.vf_machine.specs.Machine.{Machine}
use Rattle.vf_machine.specs.Search.{count_below}
use Rattle.vf_machine.specs.Run.{Moment, Turned, at_zero, moment_at, text_at, turn_of, mark_at, reads_next}
use Rattle.vf_machine.specs.Pages.{page_count, page_differs, is_touched}
use Rattle.vf_machine.specs.Solo.{ending_of}
use Rattle.vf_plan.specs.declared.plan.Node.{Node}
use Rattle.vf_plan.specs.Paths.{joined}
use Rattle.vf_jobs.specs.declared.setup.Order.{Order}
use Rattle.vf_jobs.specs.Jobs.{node_of}
use Rattle.vf_jobs.specs.Kinds.{save_of}
use Rattle.vf_jobs.specs.Limits.{limits_of}

-- a machine, the limits of a test that has none of its own, how many pages a run may touch, which image is given back
-- first, and the nodes of a plan
pub record Farm (S : Type 0) : Type 0 where
  pub machine : Machine S
  pub given : Limits
  pub budget : ℕ
  pub order : Order
  pub nodes : List Node

abbrev pub stimulus : {S : Type 0} → Farm S → Job → List ℕ
stimulus f job = joined f.nodes (node_of job)

abbrev pub limits : {S : Type 0} → Farm S → Job → Limits
limits f job = limits_of f.given f.nodes job

-- ---- a point of a run

-- how far a run has come: its moment, all bytes written, the checkpoint that its last turn asked for, and the pages
-- that it has touched
pub record Point (S : Type 0) : Type 0 where
  pub moment : Moment S
  pub text : List ℕ
  pub saved : Option SaveKind
  pub touched : ℕ → Bool

-- time zero
abbrev pub point_zero : {S : Type 0} → Farm S → Point S
point_zero f = record { moment = at_zero f.machine; text = []; saved = None; touched = λ page. false }

-- the turn that comes next in a run of the job
abbrev pub next_turn : {S : Type 0} → Farm S → Job → Point S → Turned S
next_turn f job now = turn_of f.machine (stimulus f job) (limits f job) now.moment

-- whether two states differ on a page
abbrev pub differs : {S : Type 0} → Farm S → Moment S → Moment S → ℕ → Bool
differs f before after page = page_differs (f.machine.words before.state) (f.machine.words after.state) page

-- the pages touched with the next turn
abbrev pub touched_next : {S : Type 0} → Farm S → Job → Point S → ℕ → Bool
touched_next f job now page = now.touched page || differs f now.moment (next_turn f job now).after page

-- the point after the next turn
abbrev pub point_after : {S : Type 0} → Farm S → Job → Point S → Point S
point_after f job now = record {
  moment = (next_turn f job now).after;
  text = now.text ++ (next_turn f job now).text;
  saved = save_of (next_turn f job now).mark;
  touched = touched_next f job now;
}

-- how many pages of a state are among these
abbrev pub count_pages : {S : Type 0} → Farm S → (ℕ → Bool) → ℕ
count_pages f touched = count_below touched (page_count (f.machine.words f.machine.start))

-- all of the stimulus has been read, and nothing past it
abbrev pub has_read_all : {S : Type 0} → Farm S → Job → Point S → Bool
has_read_all f job now = now.moment.header.reads == length (stimulus f job)

-- A run that reaches a node is decided at the node's save point, or where its next turn would read past the stimulus.
abbrev pub is_at_save : {S : Type 0} → Farm S → Job → Point S → Bool
is_at_save f (Reach n) now = has_read_all f (Reach n) now && is_some now.saved
is_at_save f (Finish n) now = false

abbrev pub is_at_pass : {S : Type 0} → Farm S → Job → Point S → Bool
is_at_pass f (Reach n) now = has_read_all f (Reach n) now && reads_next f.machine (stimulus f (Reach n)) now.moment
is_at_pass f (Finish n) now = false

abbrev pub is_decided : {S : Type 0} → Farm S → Job → Point S → Bool
is_decided f job now = is_at_save f job now || is_at_pass f job now

-- what the run comes to with the next turn, where that ends it
abbrev pub done_at : {S : Type 0} → Farm S → Job → Point S → Outcome
done_at f job now = Done (ending_of (next_turn f job now).mark) now.text (next_turn f job now).after.header.turns

-- An image's own pages: those touched. An incremental one lacks those that its base has touched too, with the same words.
abbrev pub has_page : {S : Type 0} → Farm S → Point S → Option (Point S) → ℕ → Bool
has_page f now None page = now.touched page
has_page f now (Some base) page = now.touched page && not (base.touched page && not (differs f base.moment now.moment page))

abbrev pub own_pages : {S : Type 0} → Farm S → Point S → Option (Point S) → ℕ
own_pages f now base = count_pages f (has_page f now base)

-- ---- the solo run of a job

-- the checkpoint that the last of the first k turns asked for
abbrev pub last_save : {S : Type 0} → Machine S → List ℕ → Limits → ℕ → Option SaveKind
last_save m stim limits zero = None
last_save m stim limits (suc k) = save_of (mark_at m stim limits k)

-- the point after k turns of the job's solo run
abbrev pub point_in : {S : Type 0} → Farm S → Job → ℕ → Point S
point_in f job k = record {
  moment = moment_at f.machine (stimulus f job) (limits f job) k;
  text = text_at f.machine (stimulus f job) (limits f job) k;
  saved = last_save f.machine (stimulus f job) (limits f job) k;
  touched = is_touched f.machine (stimulus f job) (limits f job) k;
}
