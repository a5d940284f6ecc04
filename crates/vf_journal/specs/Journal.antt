-- Lawful journals (docs/FARM.md, "The journal").
use Rattle.std.specs.Prelude.{◌≡◌, ℕ, ◌+◌, ◌-◌, ◌<◌, ◌≤◌, Bool, true, false, ◌&&◌, ◌||◌, ◌==◌, nat_lt, nat_le, not, if◌then◌else◌, List, [], ◌∷◌, ◌++◌, length, Option, Some, None, option_map, option_and_then, sum_by}
use Rattle.std.specs.List.{filter, find}
use Rattle.vf_base.specs.declared.names.Job.{Job}
use Rattle.vf_base.specs.declared.names.Job.TheVariants.{Reach, Finish}
use Rattle.vf_base.specs.declared.names.NodeNo.{NodeNo}
use Rattle.vf_base.specs.declared.run.Ending.{Ending}
use Rattle.vf_base.specs.declared.run.Outcome.TheVariants as outcomes
use Rattle.vf_base.specs.declared.run.SaveKind.{SaveKind}
use Rattle.vf_base.specs.declared.run.SaveKind.TheVariants.{Full, Incr}
use Rattle.vf_machine.specs.Run.{turn_at}
use Rattle.vf_machine.specs.Solo.{turns_before_end, passing_turn}
use Rattle.vf_plan.specs.Paths.{path}
use Rattle.vf_jobs.specs.declared.setup.Order.{Order}
use Rattle.vf_jobs.specs.declared.setup.Order.TheVariants.{Oldest, Deepest, Widest}
use Rattle.vf_jobs.specs.Jobs as jobs
use Rattle.vf_jobs.specs.Kinds as solo
use Rattle.vf_journal.specs.declared.entry.Entry.{Entry}
use Rattle.vf_journal.specs.declared.entry.Entry.TheVariants.{Start, Saved, Pass, End, Pages, Copy, Lost, Short, Evict, Retire, Rest}
use Rattle.vf_journal.specs.Farm.{Farm, Point, stimulus, limits, point_in, own_pages, count_pages}
use Rattle.vf_journal.specs.Records.{Held, Stage, idle, running, deferred, over, Records, at_first, same_job, is_ready, image_of, is_pinned}
use Rattle.vf_journal.specs.Effects.{Seen, Guard, IsAlone, after, consequences}

-- ---- what a journal tells of the solo runs

abbrev pub kind_of : {S : Type 0} → Farm S → NodeNo → Option solo.Kind
kind_of f node = solo.kind_of_node f.machine f.given f.budget f.nodes node

abbrev pub held_point : {S : Type 0} → Farm S → Held → Point S
held_point f h = point_in f (Reach h.node) h.turn

-- the rules, with what they ask taken from the solo runs
abbrev pub of_solo : {S : Type 0} → Farm S → Seen
of_solo f = record {
  counts = λ h. (held_point f h).moment.header;
  ending = λ job. (turn_at f.machine (stimulus f job) (limits f job) (turns_before_end f.machine (stimulus f job) (limits f job))).after.header;
  outcome = λ job. solo.outcome_of f.machine f.given f.budget f.nodes job;
}

-- the full image that the job's origin is or is based on, where it is still held
abbrev pub still_held : Records → Stage → Option Held
still_held r idle = None
still_held r (running attempt) = option_and_then (image_of r) attempt.full
still_held r deferred = None
still_held r (over tells) = None

-- the base of an image that is saved: only where the design asked for an incremental checkpoint
abbrev pub base_for : Records → NodeNo → SaveKind → Option Held
base_for r node Full = None
base_for r node Incr = still_held r (r.stages (Reach node))

-- An image is the node's save point. It has the base that it must have, and its own pages are counted.
pub record SavesSolo {S : Type 0} (f : Farm S) (r : Records) (node : NodeNo) (turn pages : ℕ) (base : Option NodeNo) : Type 0 where
  pub save : SaveKind
  pub kind : kind_of f node ≡ Some (solo.saved turn save)
  pub based : base ≡ option_map (λ (h : Held). h.node) (base_for r node save)
  pub counted : pages ≡ own_pages f (point_in f (Reach node) turn) (option_map (held_point f) (base_for r node save))

-- the kind of the node that the job reaches
abbrev pub ReachesKind : {S : Type 0} → Farm S → Job → solo.Kind → Type 0
ReachesKind f (Reach node) kind = kind_of f node ≡ Some kind
ReachesKind f (Finish node) kind = Unit {0}

pub record EndsSolo {S : Type 0} (f : Farm S) (job : Job) (turn : ℕ) : Type 0 where
  pub ending : Ending
  pub text : List ℕ
  pub outcome : (of_solo f).outcome job ≡ outcomes.Done ending text turn
  pub kind : ReachesKind f job (solo.ended turn)

pub record PassesSolo {S : Type 0} (f : Farm S) (job : Job) (turn pages : ℕ) : Type 0 where
  pub outcome : (of_solo f).outcome job ≡ outcomes.Pages pages
  pub passes : passing_turn f.machine (stimulus f job) (limits f job) f.budget ≡ Some (turn + 1)
  pub kind : ReachesKind f job (solo.over turn)

-- an attempt that is given up came so far: not back before its start, and not beyond the limit on turns; a job that is lost before it
-- has started is at turn 0
abbrev pub IsGivenUp : {S : Type 0} → Farm S → Job → ℕ → Stage → Type 0
IsGivenUp f job turn idle = turn ≡ 0
IsGivenUp f job turn (running attempt) = (attempt.since ≤ turn) × (turn ≤ (limits f job).turns)
IsGivenUp f job turn deferred = Unit {0}
IsGivenUp f job turn (over tells) = Unit {0}

-- turns, kinds, pages and endings are those of the solo runs
abbrev pub IsOfSolo : {S : Type 0} → Farm S → Records → Entry → Type 0
IsOfSolo f r (Saved node turn pages base) = SavesSolo f r node turn pages base
IsOfSolo f r (Pass node turn) = kind_of f node ≡ Some (solo.passed turn)
IsOfSolo f r (End job turn) = EndsSolo f job turn
IsOfSolo f r (Pages job turn pages) = PassesSolo f job turn pages
IsOfSolo f r (Start job origin) = Unit {0}
IsOfSolo f r (Copy job node) = Unit {0}
IsOfSolo f r (Lost job turn) = IsGivenUp f job turn (r.stages job)
IsOfSolo f r (Short job turn) = IsGivenUp f job turn (r.stages job)
IsOfSolo f r (Evict node) = Unit {0}
IsOfSolo f r (Retire node) = Unit {0}
IsOfSolo f r Rest = Unit {0}

-- ---- which job starts, and which image is evicted

-- the first ready job in the order of jobs
abbrev pub first_ready : {S : Type 0} → Farm S → Records → Option Job
first_ready f r = find (is_ready f r) (jobs.jobs f.nodes)

-- the image with the most, and of those with as much the one of the least node
abbrev pub goes_before : (Held → ℕ) → Held → Held → Bool
goes_before much a b = nat_lt (much b) (much a) || ((much a == much b) && nat_le a.node.0 b.node.0)

abbrev pub earlier_of : (Held → ℕ) → Held → Option Held → Held
earlier_of much h None = h
earlier_of much h (Some other) = if goes_before much h other then h else other

abbrev pub most : (Held → ℕ) → List Held → Option Held
most much [] = None
most much (h ∷ more) = Some (earlier_of much h (most much more))

abbrev pub oldest : List Held → Option Held
oldest [] = None
oldest (h ∷ more) = Some h

-- the one saved first, the one of the deepest node, or the one with the most pages of its own
abbrev pub chosen : {S : Type 0} → Farm S → Order → List Held → Option Held
chosen f Oldest held = oldest held
chosen f Deepest held = most (λ h. length (path f.nodes h.node.0)) held
chosen f Widest held = most (λ h. h.pages) held

-- the image that the order chooses among those that are not pinned
abbrev pub next_evicted : {S : Type 0} → Farm S → Records → Option Held
next_evicted f r = chosen f f.order (filter (λ h. not (is_pinned r h.node)) r.held)

-- whether jobs start in any order and any image is evicted, or always the first job and the image that the order chooses
pub data Choice : Type 0 where
  free : Choice
  ordered : Choice

abbrev pub IsChosen : {S : Type 0} → Farm S → Choice → Records → Entry → Type 0
IsChosen f free r e = Unit {0}
IsChosen f ordered r (Start job origin) = first_ready f r ≡ Some job
IsChosen f ordered r (Evict node) = option_map (λ (h : Held). h.node) (next_evicted f r) ≡ Some node
IsChosen f ordered r (Saved node turn pages base) = Unit {0}
IsChosen f ordered r (Pass node turn) = Unit {0}
IsChosen f ordered r (End job turn) = Unit {0}
IsChosen f ordered r (Pages job turn pages) = Unit {0}
IsChosen f ordered r (Copy job node) = Unit {0}
IsChosen f ordered r (Lost job turn) = Unit {0}
IsChosen f ordered r (Short job turn) = Unit {0}
IsChosen f ordered r (Retire node) = Unit {0}
IsChosen f ordered r Rest = Unit {0}

-- ---- journals

-- A journal of a farm, with the records that it comes to: entry after entry, each with its consequences right after it.
pub data IsJournal {S : Type 0} (f : Farm S) (choice : Choice) : List Entry → Records → Type 0 where
  begun : IsJournal f choice [] at_first
  next : {js : List Entry} {r : Records} (e : Entry) → IsJournal f choice js r → Guard f (of_solo f) r e → IsChosen f choice r e → IsOfSolo f r e
      → IsJournal f choice (js ++ e ∷ consequences f (of_solo f) r e) (after f (of_solo f) r e)

-- the records that entries bring about, one after another; a Copy or Retire entry is part of what caused it, and changes nothing more
unfoldable pub replay : {S : Type 0} → Farm S → Seen → Records → List Entry → Records
replay f seen r [] = r
replay f seen r (e ∷ more) = replay f seen (after f seen r e) more

-- ---- turns and pages of attempts

-- the attempt at a job that an entry closes, and its last turn
pub record Closing : Type 0 where
  pub job : Job
  pub turn : ℕ

abbrev pub closing_of : Entry → Option Closing
closing_of (Start job origin) = None
closing_of (Saved node turn pages base) = Some (record { job = Reach node; turn = turn })
closing_of (Pass node turn) = Some (record { job = Reach node; turn = turn })
closing_of (End job turn) = Some (record { job = job; turn = turn })
closing_of (Pages job turn pages) = Some (record { job = job; turn = turn })
closing_of (Copy job node) = None
closing_of (Lost job turn) = Some (record { job = job; turn = turn })
closing_of (Short job turn) = Some (record { job = job; turn = turn })
closing_of (Evict node) = None
closing_of (Retire node) = None
closing_of Rest = None

-- the turns of an attempt that has come so far; a job that does not run has none
abbrev pub turns_since : Stage → ℕ → ℕ
turns_since idle turn = 0
turns_since (running attempt) turn = turn - attempt.since
turns_since deferred turn = 0
turns_since (over tells) turn = 0

abbrev pub closed_turns : Records → Option Closing → ℕ
closed_turns r None = 0
closed_turns r (Some closing) = turns_since (r.stages closing.job) closing.turn

-- the turns of the attempts that the entries close, from the records before them
unfoldable pub turns_from : {S : Type 0} → Farm S → Records → List Entry → ℕ
turns_from f r [] = 0
turns_from f r (e ∷ more) = closed_turns r (closing_of e) + turns_from f (after f (of_solo f) r e) more

-- the turns of the attempts that run, where `at` tells how far each has come
abbrev pub running_turns : {S : Type 0} → Farm S → Records → (Job → ℕ) → ℕ
running_turns f r at = sum_by (λ job. turns_since (r.stages job) (at job)) (jobs.jobs f.nodes)

-- all turns that a farm has made: those of closed attempts, and of those that run
abbrev pub turns_of : {S : Type 0} → Farm S → List Entry → (Job → ℕ) → ℕ
turns_of f js at = turns_from f at_first js + running_turns f (replay f (of_solo f) at_first js) at

abbrev pub pages_in : {S : Type 0} → Farm S → Job → ℕ → ℕ
pages_in f job k = count_pages f (point_in f job k).touched

abbrev pub is_ended_by : Entry → Bool
is_ended_by (Start job origin) = false
is_ended_by (Saved node turn pages base) = false
is_ended_by (Pass node turn) = false
is_ended_by (End job turn) = true
is_ended_by (Pages job turn pages) = false
is_ended_by (Copy job node) = false
is_ended_by (Lost job turn) = false
is_ended_by (Short job turn) = false
is_ended_by (Evict node) = false
is_ended_by (Retire node) = false
is_ended_by Rest = false

-- how many pages an attempt at a job has touched one turn past its last entry, or at its ending, if this is that entry
abbrev pub pages_past : {S : Type 0} → Farm S → Job → Bool → Option Closing → Option ℕ
pages_past f job ended None = None
pages_past f job ended (Some closing) =
    if same_job closing.job job then Some (pages_in f job (if ended then closing.turn else closing.turn + 1)) else None

-- the same of the attempt at a job that the next of these entries closes; one that still runs has come as far as `at` tells
abbrev pub last_pages : {S : Type 0} → Farm S → (Job → ℕ) → Job → List Entry → ℕ
last_pages f at job [] = pages_in f job (at job + 1)
last_pages f at job (e ∷ more) =
    elim (pages_past f job (is_ended_by e) (closing_of e)) [ Some pages ↦ pages | None ↦ last_pages f at job more ]

-- Where an image is evicted just one job runs, and the pages of all images with those of its attempt pass the budget.
pub record IsWanted {S : Type 0} (f : Farm S) (at : Job → ℕ) (r : Records) (more : List Entry) : Type 0 where
  pub job : Job
  pub runs : IsAlone r job
  pub full : f.budget < sum_by (λ (h : Held). h.pages) r.held + last_pages f at job more

abbrev pub IsTightAt : {S : Type 0} → Farm S → (Job → ℕ) → Records → Entry → List Entry → Type 0
IsTightAt f at r (Evict node) more = IsWanted f at r more
IsTightAt f at r (Start job origin) more = Unit {0}
IsTightAt f at r (Saved node turn pages base) more = Unit {0}
IsTightAt f at r (Pass node turn) more = Unit {0}
IsTightAt f at r (End job turn) more = Unit {0}
IsTightAt f at r (Pages job turn pages) more = Unit {0}
IsTightAt f at r (Copy job node) more = Unit {0}
IsTightAt f at r (Lost job turn) more = Unit {0}
IsTightAt f at r (Short job turn) more = Unit {0}
IsTightAt f at r (Retire node) more = Unit {0}
IsTightAt f at r Rest more = Unit {0}

-- no image is evicted too early in these entries
unfoldable pub IsTight : {S : Type 0} → Farm S → (Job → ℕ) → Records → List Entry → Type 0
IsTight f at r [] = Unit {0}
IsTight f at r (e ∷ more) = IsTightAt f at r e more × IsTight f at (after f (of_solo f) r e) more
