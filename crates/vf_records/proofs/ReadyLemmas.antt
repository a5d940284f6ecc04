-- Ready jobs, and the nearest image that fits.
use Rattle.std.proofs.Common.{◌≡◌, ℕ, zero, suc, ◌+◌, ◌<◌, ◌≤◌, Bool, true, false, ◌&&◌, ◌||◌, not, if◌then◌else◌, List, [], ◌∷◌, length, drop, Option, Some, None, IfSome, refl, sym, ◌∙◌, ap, ap₂, arith, slice_get, get_or, unwrap_or, ⊎_elim}
use Rattle.std.specs.List.{list_any, find}
use Rattle.std.proofs.lemmas.Bool.{false≢true, and_parts, or_parts, or_cases, or_from, or_left, or_right}
use Rattle.vf_base.specs.declared.names.Job.{Job}
use Rattle.vf_base.specs.declared.names.NodeNo.{NodeNo}
use Rattle.vf_base.specs.declared.run.Header.{Header}
use Rattle.vf_base.specs.declared.run.Limits.{Limits}
use Rattle.vf_plan.specs.declared.plan.Node.{Node}
use Rattle.vf_plan.specs.Paths.{at_parent, grown, with_number}
use Rattle.vf_plan.proofs.CallerLemmas.{path-at}
use Rattle.vf_jobs.specs.Jobs as jobs
use Rattle.vf_jobs.specs.Jobs.{node_of, node_no, first_fitting, holds_fitting, sources}
use Rattle.vf_jobs.specs.Setup.{Conditions}
use Rattle.vf_journal.specs.declared.entry.Kind.TheVariants.{Unknown}
use Rattle.vf_design.specs.Words.{machine_of}
use Rattle.vf_jobs.proofs.CallerLemmas.{endings_copied, passings_copied}
use Rattle.vf_journal.specs.Holding.{NoneRuns}
use Rattle.vf_journal.proofs.CallerLemmas.{ends_whole, is_done}
use Rattle.vf_journal.specs.Records.{Held, Stage, idle, running, deferred, over, Records, same_job, is_job, is_known, is_ready, is_idle, is_over}
use Rattle.vf_records.specs.declared.row.Progress.{Progress}
use Rattle.vf_records.specs.declared.row.Progress.TheVariants as rows
use Rattle.vf_records.specs.declared.tables.Tables.{Tables}
use Rattle.vf_journal.specs.Journal.{IsGivenUp, first_ready, ordered}
use Rattle.vf_journal.specs.Farm.{Farm}
use Rattle.vf_records.specs.declared.next.Next.TheVariants as nexts
use Rattle.vf_records.specs.Account.{Account, farm_of, records_in, IsAccount, is_left, next_of, next_job_of}
use Rattle.vf_records.specs.Tables.{records_of, is_over_progress, is_idle_progress, AreTables}
use Rattle.vf_records.proofs.TableLemmas.{same_self, same_is, listed_all, is_job_at, stage_self, is_idle_of, is_over_of}

-- ---- the first that passes a test

pub find_here : {A : Type 0} (test : A → Bool) (xs : List A) (k : ℕ) (x : A) → slice_get xs k ≡ Some x
    → find test (drop k xs) ≡ (if test x then Some x else find test (drop (k + 1) xs))
find_here test [] k x e = cc
find_here test (y ∷ xs) zero x e =
    let is : y ≡ x = ap (λ o. unwrap_or o y) e in
    ap (λ z. if test z then Some z else find test xs) is
find_here test (y ∷ xs) (suc k) x e = find_here test xs k x e ∙ ap (λ n. if test x then Some x else find test (drop n (y ∷ xs))) (let same : suc (k + 1) ≡ suc k + 1 = omega arith in same)

pub find_past : {A : Type 0} (test : A → Bool) (xs : List A) (k : ℕ) → length xs ≤ k → find test (drop k xs) ≡ None
find_past test [] zero h = refl
find_past test [] (suc k) h = refl
find_past test (x ∷ xs) zero h = absurd (omega (arith, h))
find_past test (x ∷ xs) (suc k) h = find_past test xs k (omega (arith, h))

pub any_here : {A : Type 0} (test : A → Bool) (xs : List A) (k : ℕ) (x : A) → slice_get xs k ≡ Some x
    → list_any test (drop k xs) ≡ (test x || list_any test (drop (k + 1) xs))
any_here test [] k x e = cc
any_here test (y ∷ xs) zero x e =
    let is : y ≡ x = ap (λ o. unwrap_or o y) e in
    ap (λ z. test z || list_any test xs) is
any_here test (y ∷ xs) (suc k) x e = any_here test xs k x e ∙ ap (λ n. test x || list_any test (drop n (y ∷ xs))) (let same : suc (k + 1) ≡ suc k + 1 = omega arith in same)

pub any_past : {A : Type 0} (test : A → Bool) (xs : List A) (k : ℕ) → length xs ≤ k → list_any test (drop k xs) ≡ false
any_past test [] zero h = refl
any_past test [] (suc k) h = refl
any_past test (x ∷ xs) zero h = absurd (omega (arith, h))
any_past test (x ∷ xs) (suc k) h = any_past test xs k (omega (arith, h))

pub found_passes : {A : Type 0} (test : A → Bool) (xs : List A) (x : A) → find test xs ≡ Some x → test x ≡ true
found_passes test [] x e = cc
found_passes test (y ∷ xs) x e = by (found_passes test xs x) (test y) refl e
  where
    by : (find test xs ≡ Some x → test x ≡ true) → (s : Bool) → test y ≡ s → (if s then Some y else find test xs) ≡ Some x → test x ≡ true
    by rest true h f = ap test (sym (ap (λ o. unwrap_or o y) f)) ∙ h
    by rest false h f = rest f

-- an element stands at each number within a list
pub standing : {A : Type 0} (xs : List A) (k : ℕ) → k < length xs → (x : A) × (slice_get xs k ≡ Some x)
standing [] k h = absurd (omega (arith, h))
standing (x ∷ xs) zero h = (x, refl)
standing (x ∷ xs) (suc k) h = standing xs k (omega (arith, h))

-- ---- the jobs at their places

module _ (s : Conditions) (counts : Held → Header) (t : Tables) (kept : AreTables s.plan counts t) where
  pub ready_at : (at : ℕ) (job : Job) → slice_get t.layout.jobs.items at ≡ Some job
      → is_ready (farm_of s) (records_of t) job
      ≡ (is_idle_progress (get_or t.progress.items at rows.Idle) && jobs.is_ready s.plan (λ n. is_known (get_or t.kinds.items n Unknown)) job)
  ready_at at job e =
      ap₂ (λ a b. a && (b && jobs.is_ready s.plan (λ n. is_known (get_or t.kinds.items n Unknown)) job))
      (is_job_at s.plan t.layout.jobs.items t.layout.places.items kept.layout at job e)
      (ap is_idle (stage_self s.plan t.layout.jobs.items t.layout.places.items kept.layout t.progress.items t.told.items job at e)
      ∙ is_idle_of (get_or t.progress.items at rows.Idle) (get_or t.told.items at None))

  pub over_at : (at : ℕ) (job : Job) → slice_get t.layout.jobs.items at ≡ Some job
      → is_over ((records_of t).stages job) ≡ is_over_progress (get_or t.progress.items at rows.Idle)
  over_at at job e =
      ap is_over (stage_self s.plan t.layout.jobs.items t.layout.places.items kept.layout t.progress.items t.told.items job at e)
      ∙ is_over_of (get_or t.progress.items at rows.Idle) (get_or t.told.items at None)

  pub left_all : is_left s (records_of t) ≡ list_any (λ job. not (is_over ((records_of t).stages job))) t.layout.jobs.items
  left_all = ap (list_any (λ job. not (is_over ((records_of t).stages job)))) (sym (listed_all s.plan t.layout.jobs.items t.layout.places.items kept.layout))

-- ---- what the jobs at the front do not pass

over_not_idle : (p : Progress) → is_over_progress p ≡ true → is_idle_progress p ≡ false
over_not_idle rows.Idle e = absurd (false≢true e)
over_not_idle (rows.Running attempt) e = refl
over_not_idle rows.Over e = refl

module _ (s : Conditions) (counts : Held → Header) (t : Tables) (kept : AreTables s.plan counts t) where
  pub over_before : (k : ℕ) (job : Job) → k < t.first → slice_get t.layout.jobs.items k ≡ Some job → is_over ((records_of t).stages job) ≡ true
  over_before k job h e = over_at s counts t kept k job e ∙ kept.first k h

  pub unready_before : (k : ℕ) (job : Job) → k < t.first → slice_get t.layout.jobs.items k ≡ Some job → is_ready (farm_of s) (records_of t) job ≡ false
  unready_before k job h e =
      ready_at s counts t kept k job e
      ∙ ap (λ b. b && jobs.is_ready s.plan (λ n. is_known (get_or t.kinds.items n Unknown)) job) (over_not_idle (get_or t.progress.items k rows.Idle) (kept.first k h))

pub find_after : {A : Type 0} (test : A → Bool) (xs : List A) (n : ℕ) → ((k : ℕ) (x : A) → k < n → slice_get xs k ≡ Some x → test x ≡ false)
    → find test xs ≡ find test (drop n xs)
find_after test [] zero h = refl
find_after test [] (suc n) h = refl
find_after test (y ∷ xs) zero h = refl
find_after test (y ∷ xs) (suc n) h =
    ap (λ b. if b then Some y else find test xs) (h 0 y (omega arith) refl) ∙ find_after test xs n (λ k x less e. h (suc k) x (omega (arith, less)) e)

pub any_after : {A : Type 0} (test : A → Bool) (xs : List A) (n : ℕ) → ((k : ℕ) (x : A) → k < n → slice_get xs k ≡ Some x → test x ≡ false)
    → list_any test xs ≡ list_any test (drop n xs)
any_after test [] zero h = refl
any_after test [] (suc n) h = refl
any_after test (y ∷ xs) zero h = refl
any_after test (y ∷ xs) (suc n) h =
    ap (λ b. b || list_any test xs) (h 0 y (omega arith) refl) ∙ any_after test xs n (λ k x less e. h (suc k) x (omega (arith, less)) e)

-- ---- from a node up

abbrev pub above : List Node → Option NodeNo → List ℕ
above nodes from = at_parent [] (grown with_number [] nodes) from

pub nearest_here : (nodes : List Node) (limits : Limits) (held : ℕ → Option Header) (n : NodeNo) (node : Node) → slice_get nodes n.0 ≡ Some node → IfSome node.parent (λ p. p.0 < n.0)
    → first_fitting limits held (above nodes (Some n)) ≡ (if holds_fitting limits (held n.0) then Some n.0 else first_fitting limits held (above nodes node.parent))
nearest_here nodes limits held n node e down = ap (first_fitting limits held) (path-at nodes n.0 node e down)

-- how far up a node stands at most
abbrev pub height : Option NodeNo → ℕ
height None = 0
height (Some node) = node.0 + 1

pub higher : (parent : Option NodeNo) (n : ℕ) → IfSome parent (λ p. p.0 < n) → height parent < n + 1
higher None n h = omega arith
higher (Some p) n h = omega (arith, h)

pub still_within : (parent : Option NodeNo) (n most : ℕ) → n < most → IfSome parent (λ p. p.0 < n) → IfSome parent (λ p. p.0 < most)
still_within None n most less h = h
still_within (Some p) n most less h = omega (arith, less, h)

-- ---- which job comes next

next_some : (o : Option Job) (left : Bool) (job : Job) → next_of o left ≡ nexts.Job job → o ≡ Some job
next_some (Some j) left job e = ap (λ j. Some j) (same_next j job e)
  where
    same_next : (a b : Job) → nexts.Job a ≡ nexts.Job b → a ≡ b
    same_next a b e = cc
next_some None true job e = cc
next_some None false job e = cc

-- a job that comes next is the first ready one
pub next_ready : (a : Account) (job : Job) → next_job_of a ≡ nexts.Job job → first_ready (farm_of a.setup) (records_in a) ≡ Some job
next_ready a job e = next_some (first_ready (farm_of a.setup) (records_in a)) (is_left a.setup (records_in a)) job e

-- so it is ready
pub ready_next : (a : Account) (job : Job) → next_job_of a ≡ nexts.Job job → is_ready (farm_of a.setup) (records_in a) job ≡ true
ready_next a job e = found_passes (is_ready (farm_of a.setup) (records_in a)) (jobs.jobs a.setup.plan) job (next_ready a job e)

-- and a job of the plan
pub next_planned : (a : Account) (job : Job) → next_job_of a ≡ nexts.Job job → is_job a.setup.plan job ≡ true
next_planned a job e =
    let r = records_in a in
    (and_parts (is_job a.setup.plan job) (is_idle (r.stages job) && jobs.is_ready a.setup.plan (λ n. is_known (r.kinds n)) job) (ready_next a job e)).0

-- where none comes next and none can come later, each job is over
none_left : (o : Option Job) (left : Bool) → next_of o left ≡ nexts.Done → left ≡ false
none_left (Some job) left e = cc
none_left None true e = cc
none_left None false e = refl

over_by : (b : Bool) → not b ≡ false → b ≡ true
over_by true h = refl
over_by false h = absurd (false≢true (sym h))

pub done_over : (a : Account) (job : Job) → next_job_of a ≡ nexts.Done → is_job a.setup.plan job ≡ true → is_over ((records_in a).stages job) ≡ true
done_over a job e is =
    over_by (is_over ((records_in a).stages job))
    (none_of (λ j. not (is_over ((records_in a).stages j))) (jobs.jobs a.setup.plan) (none_left (first_ready (farm_of a.setup) (records_in a)) (is_left a.setup (records_in a)) e) job is)
  where
    none_of : (test : Job → Bool) (xs : List Job) → list_any test xs ≡ false → (j : Job) → list_any (same_job j) xs ≡ true → test j ≡ false
    none_of test [] none j is = absurd (false≢true is)
    none_of test (x ∷ xs) none j is =
        let two = or_parts (test x) (list_any test xs) none in
        ⊎_elim (λ here. ap test (same_is j x here) ∙ two.0) (λ there. none_of test xs two.1 j there) (or_cases (same_job j x) (list_any (same_job j) xs) is)

-- where one comes later, none is ready and some job is left
later_none : (o : Option Job) (left : Bool) → next_of o left ≡ nexts.Later → (o ≡ None) × (left ≡ true)
later_none (Some job) left e = cc
later_none None true e = (refl, refl)
later_none None false e = cc

some_over : (test : Job → Bool) (xs : List Job) → ((j : Job) → list_any (same_job j) xs ≡ true → test j ≡ false) → list_any test xs ≡ false
some_over test [] none = refl
some_over test (x ∷ xs) none =
    or_from (test x) (list_any test xs) (none x (or_left (same_job x x) (list_any (same_job x) xs) (same_self x)))
    (some_over test xs (λ j h. none j (or_right (same_job j x) (list_any (same_job j) xs) h)))

-- where no job runs, one comes next or all are over
pub never_later : (a : Account) → IsAccount a → NoneRuns (records_in a) → next_job_of a ≡ nexts.Later → ⊥
never_later a kept none e =
    let f = farm_of a.setup in
    let r = records_in a in
    let m = machine_of a.setup.design in
    let parts = later_none (first_ready f r) (is_left a.setup r) e in
    let whole = ends_whole f (endings_copied m) (passings_copied m) kept.setup.plan ordered a.journal r kept.journal (is_done f r parts.0 none kept.undeferred) in
    false≢true (sym (some_over (λ j. not (is_over (r.stages j))) (jobs.jobs a.setup.plan) (λ j is. ap not (whole.over j is))) ∙ parts.1)

pub ready_in : (s : Conditions) (r : Records) (job : Job) → next_of (first_ready (farm_of s) r) (is_left s r) ≡ nexts.Job job → is_ready (farm_of s) r job ≡ true
ready_in s r job e = found_passes (is_ready (farm_of s) r) (jobs.jobs s.plan) job (next_some (first_ready (farm_of s) r) (is_left s r) job e)

-- a ready job has not started
pub idle_ready : (s : Conditions) (r : Records) (job : Job) → is_ready (farm_of s) r job ≡ true → is_idle (r.stages job) ≡ true
idle_ready s r job h =
    (and_parts (is_idle (r.stages job)) (jobs.is_ready s.plan (λ n. is_known (r.kinds n)) job)
    (and_parts (is_job s.plan job) (is_idle (r.stages job) && jobs.is_ready s.plan (λ n. is_known (r.kinds n)) job) h).1).0

-- a job that has not started is given up at turn 0
pub given_up_idle : {S : Type 0} (f : Farm S) (job : Job) (stage : Stage) → is_idle stage ≡ true → IsGivenUp f job 0 stage
given_up_idle f job idle h = refl
given_up_idle f job (running attempt) h = absurd (false≢true h)
given_up_idle f job deferred h = absurd (false≢true h)
given_up_idle f job (over tells) h = absurd (false≢true h)
