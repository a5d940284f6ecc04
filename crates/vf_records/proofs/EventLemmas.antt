-- What the tables say where a job starts or is over.
use Rattle.std.proofs.Common.{◌≡◌, ℕ, ◌+◌, ◌<◌, ◌≤◌, Bool, true, false, ◌&&◌, ◌==◌, if◌then◌else◌, List, [], length, map, option_map, Option, Some, None, refl, sym, ◌∙◌, ap, ap₂, arith, slice_get, slice_set, get_or, nat_lt, replicate, sum_by}
use Rattle.std.specs.List.{find}
use Rattle.std.proofs.lemmas.Bool.{eqb-true, eqb-false, ltb-true, ltb-false, false≢true, and_parts}
use Rattle.std.proofs.lemmas.List.{get_or-set_same, get_or-set_other, get_or-replicate, length-set, length-replicate, length-map, ext_get_or, get_or_read}
use Rattle.std.proofs.Math.ListN.{get_or-eq_default}
use Rattle.std.proofs.lemmas.List.Sums.{sum_by-set}
use Rattle.std.proofs.lemmas.Option.{slice_get_within, get_or_from_slice_get, slice_get-map}
use Rattle.vf_base.specs.declared.names.Job.{Job}
use Rattle.vf_base.specs.declared.names.Job.TheVariants.{Reach, Finish}
use Rattle.vf_base.specs.declared.run.Header.{Header}
use Rattle.vf_plan.specs.declared.plan.Node.{Node}
use Rattle.vf_jobs.specs.Jobs as jobs
use Rattle.vf_jobs.specs.Jobs.{node_of}
use Rattle.vf_jobs.specs.Setup.{Conditions}
use Rattle.vf_journal.specs.declared.entry.Kind.{Kind}
use Rattle.vf_journal.specs.declared.entry.Kind.TheVariants.{Unknown}
use Rattle.vf_journal.specs.declared.entry.Told.{Told}
use Rattle.vf_journal.specs.Journal.{still_held}
use Rattle.vf_journal.specs.Records.{Held, Stage, idle, running, deferred, over, Records, at_first, told_by, state_at, state_of, is_job, is_ready, is_idle, is_over, is_known}
use Rattle.vf_journal.specs.Effects.{with_stage, with_over}
use Rattle.vf_records.specs.declared.layout.Place.{Place}
use Rattle.vf_records.specs.declared.row.Attempt.{Attempt}
use Rattle.vf_records.specs.declared.row.HeldImage.{HeldImage}
use Rattle.vf_records.specs.declared.row.Progress.{Progress}
use Rattle.vf_records.specs.declared.row.Progress.TheVariants as rows
use Rattle.vf_records.specs.declared.tables.Tables.{Tables}
use Rattle.vf_records.specs.Account.{farm_of, attempt_at, full_held}
use Rattle.vf_records.specs.Layout.{place_in, IsLaidOut}
use Rattle.vf_records.specs.Tables.{attempt_of, held_of, stage_of, stands_at, stage_at, stage_in, kinds_with, records_of, to_come, is_over_progress, is_idle_progress, AreOver, AreImaged, AreTables}
use Rattle.vf_records.proofs.TableLemmas.{job_at, listed_all, stage_self, same_records, stage_after, stage_run, idle_open}
use Rattle.vf_records.proofs.ReadyLemmas.{over_at, ready_at, standing}

-- ---- the place of a job of the plan

pub record IsPlaced (t : Tables) (job : Job) : Type 0 where
  pub at : slice_get t.layout.jobs.items (place_in t.layout.places.items job) ≡ Some job
  pub node : node_of job < length t.layout.places.items
  pub progress : place_in t.layout.places.items job < length t.progress.items
  pub told : place_in t.layout.places.items job < length t.told.items
  pub kinds : node_of job < length t.kinds.items

module _ (s : Conditions) (counts : Held → Header) (t : Tables) (kept : AreTables s.plan counts t) where
  pub placed_job : (job : Job) → is_job s.plan job ≡ true → IsPlaced t job
  placed_job job h =
      let p = place_in t.layout.places.items job in
      let at = job_at s.plan t.layout.jobs.items t.layout.places.items kept.layout job h in
      let within = slice_get_within t.layout.jobs.items p job at in
      let below = kept.layout.within p job at in
      let long = kept.layout.long in
      let progress = kept.progress in
      let told = kept.told in
      let kinds = kept.kinds in
      record { at = at; node = omega (arith, below, long); progress = omega (arith, within, progress); told = omega (arith, within, told); kinds = omega (arith, below, kinds) }

  pub not_over_at : (job : Job) → is_job s.plan job ≡ true → is_over ((records_of t).stages job) ≡ false
      → is_over_progress (get_or t.progress.items (place_in t.layout.places.items job) rows.Idle) ≡ false
  not_over_at job h o = sym (over_at s counts t kept (place_in t.layout.places.items job) job (placed_job job h).at) ∙ o

  pub ready_job : (job : Job) → is_ready (farm_of s) (records_of t) job ≡ true → is_job s.plan job ≡ true
  ready_job job h = (and_parts (is_job s.plan job) (is_idle ((records_of t).stages job) && jobs.is_ready s.plan (λ n. is_known ((records_of t).kinds n)) job) h).0

  pub placed_ready : (job : Job) → is_ready (farm_of s) (records_of t) job ≡ true → IsPlaced t job
  placed_ready job h = placed_job job (ready_job job h)

  pub idle_at : (job : Job) → is_ready (farm_of s) (records_of t) job ≡ true
      → is_idle_progress (get_or t.progress.items (place_in t.layout.places.items job) rows.Idle) ≡ true
  idle_at job h =
      let at = (placed_job job (ready_job job h)).at in
      (and_parts (is_idle_progress (get_or t.progress.items (place_in t.layout.places.items job) rows.Idle)) (jobs.is_ready s.plan (λ n. is_known (get_or t.kinds.items n Unknown)) job)
      (sym (ready_at s counts t kept (place_in t.layout.places.items job) job at) ∙ h)).0

  pub ready_open : (job : Job) → is_ready (farm_of s) (records_of t) job ≡ true → is_over ((records_of t).stages job) ≡ false
  ready_open job h =
      idle_open ((records_of t).stages job)
      (and_parts (is_idle ((records_of t).stages job)) (jobs.is_ready s.plan (λ n. is_known ((records_of t).kinds n)) job)
      (and_parts (is_job s.plan job) (is_idle ((records_of t).stages job) && jobs.is_ready s.plan (λ n. is_known ((records_of t).kinds n)) job) h).1).0

-- ---- how many entries are still to come

open_to_come : (p : Progress) → is_over_progress p ≡ false → 2 ≤ to_come p
open_to_come rows.Idle e = omega arith
open_to_come (rows.Running attempt) e = omega arith
open_to_come rows.Over e = absurd (false≢true (sym e))

idle_to_come : (p : Progress) → is_idle_progress p ≡ true → to_come p ≡ 3
idle_to_come rows.Idle e = refl
idle_to_come (rows.Running attempt) e = absurd (false≢true e)
idle_to_come rows.Over e = absurd (false≢true e)

pub idle_not_over : (p : Progress) → is_idle_progress p ≡ true → is_over_progress p ≡ false
idle_not_over rows.Idle e = refl
idle_not_over (rows.Running attempt) e = refl
idle_not_over rows.Over e = absurd (false≢true e)

pub spent : (progress : List Progress) (k : ℕ) → k < length progress → is_over_progress (get_or progress k rows.Idle) ≡ false
    → sum_by to_come (slice_set progress k rows.Over) + 2 ≤ sum_by to_come progress
spent progress k h e =
    let sums = sum_by-set to_come progress k rows.Over rows.Idle h in
    let two = open_to_come (get_or progress k rows.Idle) e in
    omega (arith, sums, two)

-- the job of the plan that is over spends two of them
pub spent_at : (s : Conditions) (counts : Held → Header) (t : Tables) → AreTables s.plan counts t → (job : Job) → is_job s.plan job ≡ true → is_over ((records_of t).stages job) ≡ false
    → sum_by to_come (slice_set t.progress.items (place_in t.layout.places.items job) rows.Over) + 2 ≤ sum_by to_come t.progress.items
spent_at s counts t kept job h left = spent t.progress.items (place_in t.layout.places.items job) (placed_job s counts t kept job h).progress (not_over_at s counts t kept job h left)

pub used : (progress : List Progress) (k : ℕ) (attempt : Attempt) → k < length progress → is_idle_progress (get_or progress k rows.Idle) ≡ true
    → sum_by to_come (slice_set progress k (rows.Running attempt)) + 1 ≡ sum_by to_come progress
used progress k attempt h e =
    let sums = sum_by-set to_come progress k (rows.Running attempt) rows.Idle h in
    let three = idle_to_come (get_or progress k rows.Idle) e in
    omega (arith, sums, three)

-- ---- the jobs that are over at the front

pub over_set : (progress : List Progress) (k first : ℕ) → k < length progress → AreOver progress first → AreOver (slice_set progress k rows.Over) first
over_set progress k first h passed j less = by (j == k) refl
  where
    by : (b : Bool) → (j == k) ≡ b → is_over_progress (get_or (slice_set progress k rows.Over) j rows.Idle) ≡ true
    by true e = ap is_over_progress (ap (λ i. get_or (slice_set progress k rows.Over) i rows.Idle) (eqb-true j k e) ∙ get_or-set_same progress k rows.Over rows.Idle h)
    by false e = ap is_over_progress (get_or-set_other progress k j rows.Over rows.Idle (eqb-false j k e)) ∙ passed j less

pub over_run : (progress : List Progress) (k first : ℕ) (x : Progress) → is_over_progress (get_or progress k rows.Idle) ≡ false → AreOver progress first → AreOver (slice_set progress k x) first
over_run progress k first x left passed j less =
    let ne : j ≡ k → ⊥ = λ e. false≢true (sym left ∙ ap (λ i. is_over_progress (get_or progress i rows.Idle)) (sym e) ∙ passed j less) in
    ap is_over_progress (get_or-set_other progress k j x rows.Idle ne) ∙ passed j less

-- ---- records

abbrev shown : List Kind → List Job → List Place → List Progress → List (Option Told) → List HeldImage → Records
shown kinds listed places progress told held = record { kinds = λ n. get_or kinds n Unknown; stages = stage_in listed places progress told; held = map held_of held; rested = false }

known_at : (kinds : List Kind) (m n : ℕ) (kind : Kind) → m < length kinds → get_or (slice_set kinds m kind) n Unknown ≡ (if n == m then kind else get_or kinds n Unknown)
known_at kinds m n kind h = by (n == m) refl
  where
    by : (b : Bool) → (n == m) ≡ b → get_or (slice_set kinds m kind) n Unknown ≡ (if b then kind else get_or kinds n Unknown)
    by true e = ap (λ i. get_or (slice_set kinds m kind) i Unknown) (eqb-true n m e) ∙ get_or-set_same kinds m kind Unknown h
    by false e = get_or-set_other kinds m n kind Unknown (eqb-false n m e)

module _ (nodes : List Node) (listed : List Job) (places : List Place) (laid : IsLaidOut nodes (length nodes) listed places)
    (kinds : List Kind) (progress : List Progress) (told : List (Option Told)) (held : List HeldImage) where
  closed_with : (job : Job) (k : ℕ) (tells : Option Told) (kind : Kind) → slice_get listed k ≡ Some job → k < length progress → k < length told → node_of job < length kinds
      → shown (kinds_with job kind kinds) listed places (slice_set progress k rows.Over) (slice_set told k tells) held ≡ with_over job tells kind (shown kinds listed places progress told held)
  closed_with (Reach m) k tells kind e lp lt lk =
      same_records (shown (kinds_with (Reach m) kind kinds) listed places (slice_set progress k rows.Over) (slice_set told k tells) held) (with_over (Reach m) tells kind (shown kinds listed places progress told held))
      (λ n. known_at kinds m.0 n kind lk) (stage_after nodes listed places laid progress told (Reach m) k rows.Over tells e lp lt) refl refl
  closed_with (Finish m) k tells kind e lp lt lk =
      same_records (shown (kinds_with (Finish m) kind kinds) listed places (slice_set progress k rows.Over) (slice_set told k tells) held) (with_over (Finish m) tells kind (shown kinds listed places progress told held))
      (λ n. refl) (stage_after nodes listed places laid progress told (Finish m) k rows.Over tells e lp lt) refl refl

  pub closed : (job : Job) (k : ℕ) (tells : Option Told) (kind : Kind) → slice_get listed k ≡ Some job → k < length progress → k < length told → node_of job < length kinds
      → (new_kinds : List Kind) (new_told : List (Option Told)) → new_kinds ≡ kinds_with job kind kinds → new_told ≡ slice_set told k tells
      → shown new_kinds listed places (slice_set progress k rows.Over) new_told held ≡ with_over job tells kind (shown kinds listed places progress told held)
  closed job k tells kind e lp lt lk new_kinds new_told ek et =
      ap₂ (λ (a : List Kind) (b : List (Option Told)). shown a listed places (slice_set progress k rows.Over) b held) ek et ∙ closed_with job k tells kind e lp lt lk

  pub begun_with : (job : Job) (k : ℕ) (attempt : Attempt) → slice_get listed k ≡ Some job → k < length progress → k < length told
      → shown kinds listed places (slice_set progress k (rows.Running attempt)) told held ≡ with_stage job (running (attempt_of attempt)) (shown kinds listed places progress told held)
  begun_with job k attempt e lp lt =
      same_records (shown kinds listed places (slice_set progress k (rows.Running attempt)) told held) (with_stage job (running (attempt_of attempt)) (shown kinds listed places progress told held))
      (λ n. refl) (stage_run nodes listed places laid progress told job k (rows.Running attempt) e lp lt) refl refl

pub kinds_long : (job : Job) (kind : Kind) (kinds : List Kind) → length (kinds_with job kind kinds) ≡ length kinds
kinds_long (Reach n) kind kinds = length-set kinds n.0 kind
kinds_long (Finish n) kind kinds = refl

-- ---- where nothing has been done

pub same_all : {A : Type 0} (n k : ℕ) (x : A) → get_or (replicate n x) k x ≡ x
same_all n k x = by (nat_lt k n) refl
  where
    by : (b : Bool) → nat_lt k n ≡ b → get_or (replicate n x) k x ≡ x
    by true e = get_or-replicate n k x x (ltb-true k n e)
    by false e = get_or-eq_default (replicate n x) x (let past = ltb-false k n e in let long = length-replicate n x in omega (arith, past, long))

idle_stage : (listed : List Job) (n : ℕ) (job : Job) (p : ℕ) → stage_at listed (replicate n rows.Idle) (replicate n None) job p ≡ idle
idle_stage listed n job p =
    ap₂ (λ (a : Progress) (b : Option Told). if stands_at (slice_get listed p) job then stage_of a b else idle) (same_all n p rows.Idle) (same_all n p None)
    ∙ both (stands_at (slice_get listed p) job)
  where
    both : (b : Bool) → (if b then idle else idle) ≡ idle
    both true = refl
    both false = refl

pub shown_first : (listed : List Job) (places : List Place) (kinds : List Kind) (progress : List Progress) (told : List (Option Told)) (held : List HeldImage) (n m : ℕ)
    → kinds ≡ replicate m Unknown → progress ≡ replicate n rows.Idle → told ≡ replicate n None → held ≡ [] → shown kinds listed places progress told held ≡ at_first
shown_first listed places kinds progress told held n m ek ep et eh =
    same_records (shown kinds listed places progress told held) at_first (λ k. ap (λ (ks : List Kind). get_or ks k Unknown) ek ∙ same_all m k Unknown)
    (λ job. ap₂ (λ (a : List Progress) (b : List (Option Told)). stage_in listed places a b job) ep et ∙ idle_stage listed n job (place_in places job)) (ap (map held_of) eh) refl

-- no image is held, and none is shown
pub none_imaged : (held : List HeldImage) (images : List (Option HeldImage)) (m : ℕ) → held ≡ [] → images ≡ replicate m None → AreImaged held images
none_imaged held images m eh ei k =
    ap (λ (os : List (Option HeldImage)). get_or os k None) ei ∙ same_all m k None ∙ ap (λ (hs : List HeldImage). find (λ (h : HeldImage). h.node.0 == k) hs) (sym eh)

-- ---- what is told

told_of : (p : Progress) (tells : Option Told) → (is_over_progress p ≡ false → tells ≡ None) → told_by (stage_of p tells) ≡ tells
told_of rows.Idle tells h = sym (h refl)
told_of (rows.Running attempt) tells h = sym (h refl)
told_of rows.Over tells h = refl

pub told_all : (nodes : List Node) (counts : Held → Header) (t : Tables) → AreTables nodes counts t → t.told.items ≡ map (λ job. told_by ((records_of t).stages job)) (jobs.jobs nodes)
told_all nodes counts t kept =
    let listed = t.layout.jobs.items in
    let places = t.layout.places.items in
    ext_get_or None t.told.items (map (λ job. told_by ((records_of t).stages job)) listed) (kept.told ∙ sym (length-map listed (λ job. told_by ((records_of t).stages job))))
    (λ k h.
    let long = kept.told in
    let stands = standing listed k (omega (arith, h, long)) in
    sym (get_or_from_slice_get (map (λ job. told_by ((records_of t).stages job)) listed) k (told_by ((records_of t).stages stands.0)) None
    (slice_get-map (λ job. told_by ((records_of t).stages job)) listed k ∙ ap (option_map (λ job. told_by ((records_of t).stages job))) stands.1)
    ∙ ap told_by (stage_self nodes listed places kept.layout t.progress.items t.told.items stands.0 k stands.1)
    ∙ told_of (get_or t.progress.items k rows.Idle) (get_or t.told.items k None) (kept.quiet k)))
    ∙ ap (map (λ job. told_by ((records_of t).stages job))) (listed_all nodes listed places kept.layout)

-- ---- the state of a job

pub state_is : (s : Conditions) (counts : Held → Header) (t : Tables) (kept : AreTables s.plan counts t) (job : Job) → is_job s.plan job ≡ true
    → (k : ℕ) → k ≡ place_in t.layout.places.items job → (p : Progress) → p ≡ get_or t.progress.items k p
    → state_of (farm_of s) (records_of t) job ≡ state_at (stage_of p (get_or t.told.items k None)) (is_ready (farm_of s) (records_of t) job)
state_is s counts t kept job h k same p e =
    let placed = placed_job s counts t kept job h in
    let at : slice_get t.layout.jobs.items k ≡ Some job = ap (slice_get t.layout.jobs.items) same ∙ placed.at in
    let less = placed.progress in
    let within : k < length t.progress.items = omega (arith, less, same) in
    ap (λ (stage : Stage). state_at stage (is_ready (farm_of s) (records_of t) job))
    (stage_self s.plan t.layout.jobs.items t.layout.places.items kept.layout t.progress.items t.told.items job k at
    ∙ ap (λ (q : Progress). stage_of q (get_or t.told.items k None)) (sym (get_or_read t.progress.items k p within e rows.Idle)))

-- ---- the attempt of a job

pub attempt_is : (s : Conditions) (counts : Held → Header) (t : Tables) (kept : AreTables s.plan counts t) (job : Job) → is_job s.plan job ≡ true
    → (k : ℕ) → k ≡ place_in t.layout.places.items job → (p : Progress) → p ≡ get_or t.progress.items k p
    → attempt_at ((records_of t).stages job) ≡ attempt_at (stage_of p (get_or t.told.items k None))
attempt_is s counts t kept job h k same p e =
    let placed = placed_job s counts t kept job h in
    let at : slice_get t.layout.jobs.items k ≡ Some job = ap (slice_get t.layout.jobs.items) same ∙ placed.at in
    let less = placed.progress in
    let within : k < length t.progress.items = omega (arith, less, same) in
    ap attempt_at
    (stage_self s.plan t.layout.jobs.items t.layout.places.items kept.layout t.progress.items t.told.items job k at
    ∙ ap (λ (q : Progress). stage_of q (get_or t.told.items k None)) (sym (get_or_read t.progress.items k p within e rows.Idle)))

-- the full image that the attempt of a job goes back to, where it is held
pub still_of : (r : Records) (stage : Stage) → full_held r (attempt_at stage) ≡ still_held r stage
still_of r idle = refl
still_of r (running attempt) = refl
still_of r deferred = refl
still_of r (over tells) = refl
