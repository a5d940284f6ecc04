-- What the tables of jobs say where one place is written.
use Rattle.std.proofs.Common.{◌≡◌, ℕ, zero, suc, ◌<◌, Bool, true, false, ◌||◌, ◌==◌, if◌then◌else◌, List, [], ◌∷◌, length, take, Option, Some, None, refl, sym, ◌∙◌, ap, ap₂, subst, slice_get, slice_set, get_or, unwrap_or}
use Rattle.std.specs.List.{list_any}
use Rattle.std.proofs.Math.Path.{fun_ext}
use Rattle.std.proofs.lemmas.Bool.{eqb-true, eqb-false, eq-eqb, false≢true}
use Rattle.std.proofs.lemmas.List.{get_or-set_same, get_or-set_other, set-get_or}
use Rattle.vf_base.specs.declared.names.Job.{Job}
use Rattle.vf_base.specs.declared.names.Job.TheVariants.{Reach, Finish}
use Rattle.vf_plan.specs.declared.plan.Node.{Node}
use Rattle.vf_jobs.specs.Jobs as jobs
use Rattle.vf_jobs.specs.Jobs.{node_of, node_no, jobs_from}
use Rattle.vf_journal.specs.declared.entry.Kind.{Kind}
use Rattle.vf_journal.specs.declared.entry.Told.{Told}
use Rattle.vf_journal.specs.Records.{Held, Attempt, Stage, idle, running, deferred, over, Records, same_job, is_job, is_idle, is_over}
use Rattle.vf_records.specs.declared.layout.Place.{Place}
use Rattle.vf_records.specs.declared.row.Progress.{Progress}
use Rattle.vf_records.specs.declared.row.Progress.TheVariants as rows
use Rattle.vf_records.specs.Layout.{place_in, IsLaidOut}
use Rattle.vf_records.specs.Tables.{stage_of, stands_at, stage_at, stage_in, is_over_progress, is_idle_progress, IsQuiet}

-- ---- the same job

pub same_self : (job : Job) → same_job job job ≡ true
same_self (Reach n) = eq-eqb n.0 n.0 refl
same_self (Finish n) = eq-eqb n.0 n.0 refl

pub same_is : (a b : Job) → same_job a b ≡ true → a ≡ b
same_is (Reach a) (Reach b) e = ap (λ n. Reach (node_no n)) (eqb-true a.0 b.0 e)
same_is (Reach a) (Finish b) e = absurd (false≢true e)
same_is (Finish a) (Reach b) e = absurd (false≢true e)
same_is (Finish a) (Finish b) e = ap (λ n. Finish (node_no n)) (eqb-true a.0 b.0 e)

pub differs_back : (a b : Job) → same_job a b ≡ false → same_job b a ≡ false
differs_back a b e = by (same_job b a) refl
  where
    by : (s : Bool) → same_job b a ≡ s → same_job b a ≡ false
    by true h = absurd (false≢true (sym e ∙ ap (same_job a) (same_is b a h) ∙ same_self a))
    by false h = h

found_with : (job x : Job) (more : List Job) (s : Bool) → same_job job x ≡ s → (list_any (same_job job) more ≡ true → (k : ℕ) × (slice_get more k ≡ Some job))
    → (s || list_any (same_job job) more) ≡ true → (k : ℕ) × (slice_get (x ∷ more) k ≡ Some job)
found_with job x more true same further e = (0, ap (λ j. Some j) (sym (same_is job x same)))
found_with job x more false same further e = let rest = further e in (suc rest.0, rest.1)

pub found_at : (job : Job) (listed : List Job) → list_any (same_job job) listed ≡ true → (k : ℕ) × (slice_get listed k ≡ Some job)
found_at job [] e = absurd (false≢true e)
found_at job (x ∷ more) e = found_with job x more (same_job job x) refl (λ h. found_at job more h) e

or_true : (b : Bool) → (b || true) ≡ true
or_true true = refl
or_true false = refl

pub holds_at : {A : Type 0} (test : A → Bool) (xs : List A) (k : ℕ) (x : A) → slice_get xs k ≡ Some x → test x ≡ true → list_any test xs ≡ true
holds_at test [] k x e h = cc
holds_at test (y ∷ xs) zero x e h = ap (λ b. b || list_any test xs) (ap test (ap (λ o. unwrap_or o y) e) ∙ h)
holds_at test (y ∷ xs) (suc k) x e h = ap (λ b. test y || b) (holds_at test xs k x e h) ∙ or_true (test y)

take_whole : {A : Type 0} (xs : List A) → take (length xs) xs ≡ xs
take_whole [] = refl
take_whole (x ∷ xs) = ap (λ ys. x ∷ ys) (take_whole xs)

-- ---- the stage of a job

stage_there : (listed : List Job) (progress : List Progress) (told : List (Option Told)) (job : Job) (k : ℕ) → slice_get listed k ≡ Some job
    → stage_at listed progress told job k ≡ stage_of (get_or progress k rows.Idle) (get_or told k None)
stage_there listed progress told job k e =
    ap (λ b. if b then stage_of (get_or progress k rows.Idle) (get_or told k None) else idle) (ap (λ o. stands_at o job) e ∙ same_self job)

stage_elsewhere : (listed : List Job) (progress : List Progress) (told : List (Option Told)) (job other : Job) (k : ℕ) → slice_get listed k ≡ Some job
    → same_job other job ≡ false → stage_at listed progress told other k ≡ idle
stage_elsewhere listed progress told job other k e differs =
    ap (λ b. if b then stage_of (get_or progress k rows.Idle) (get_or told k None) else idle) (ap (λ o. stands_at o other) e ∙ differs_back other job differs)

-- where a job's place is written
stage_set : (listed : List Job) (progress : List Progress) (told : List (Option Told)) (job other : Job) (p q : ℕ) (x : Progress) (y : Option Told)
    → slice_get listed p ≡ Some job → p < length progress → p < length told → (other ≡ job → q ≡ p)
    → stage_at listed (slice_set progress p x) (slice_set told p y) other q ≡ (if same_job other job then stage_of x y else stage_at listed progress told other q)
stage_set listed progress told job other p q x y e lp lt places = by (same_job other job) refl
  where
    away : same_job other job ≡ false → (s : Bool) → (q == p) ≡ s → stage_at listed (slice_set progress p x) (slice_set told p y) other q ≡ stage_at listed progress told other q
    away differs true h =
        let at : q ≡ p = eqb-true q p h in
        ap (stage_at listed (slice_set progress p x) (slice_set told p y) other) at ∙ stage_elsewhere listed (slice_set progress p x) (slice_set told p y) job other p e differs
        ∙ sym (ap (stage_at listed progress told other) at ∙ stage_elsewhere listed progress told job other p e differs)
    away differs false h =
        let ne : q ≡ p → ⊥ = eqb-false q p h in
        ap₂ (λ a b. if stands_at (slice_get listed q) other then stage_of a b else idle) (get_or-set_other progress p q x rows.Idle ne) (get_or-set_other told p q y None ne)

    by : (s : Bool) → same_job other job ≡ s → stage_at listed (slice_set progress p x) (slice_set told p y) other q ≡ (if s then stage_of x y else stage_at listed progress told other q)
    by true h =
        let is : other ≡ job = same_is other job h in
        ap (stage_at listed (slice_set progress p x) (slice_set told p y) other) (places is)
        ∙ stage_there listed (slice_set progress p x) (slice_set told p y) other p (e ∙ ap (λ j. Some j) (sym is))
        ∙ ap₂ stage_of (get_or-set_same progress p x rows.Idle lp) (get_or-set_same told p y None lt)
    by false h = away h (q == p) refl

module _ (nodes : List Node) (listed : List Job) (places : List Place) (laid : IsLaidOut nodes (length nodes) listed places) where
  pub listed_all : listed ≡ jobs.jobs nodes
  listed_all = laid.listed ∙ ap (jobs_from nodes 0) (take_whole nodes)

  pub job_at : (job : Job) → is_job nodes job ≡ true → slice_get listed (place_in places job) ≡ Some job
  job_at job h =
      let found = found_at job listed (ap (list_any (same_job job)) listed_all ∙ h) in
      ap (slice_get listed) (laid.placed found.0 job found.1) ∙ found.1

  pub is_job_at : (k : ℕ) (job : Job) → slice_get listed k ≡ Some job → is_job nodes job ≡ true
  is_job_at k job e = ap (list_any (same_job job)) (sym listed_all) ∙ holds_at (same_job job) listed k job e (same_self job)

  pub stage_self : (progress : List Progress) (told : List (Option Told)) (job : Job) (k : ℕ) → slice_get listed k ≡ Some job
      → stage_in listed places progress told job ≡ stage_of (get_or progress k rows.Idle) (get_or told k None)
  stage_self progress told job k e = ap (stage_at listed progress told job) (laid.placed k job e) ∙ stage_there listed progress told job k e

  pub stage_after : (progress : List Progress) (told : List (Option Told)) (job : Job) (k : ℕ) (x : Progress) (y : Option Told) → slice_get listed k ≡ Some job
      → k < length progress → k < length told → (other : Job)
      → stage_in listed places (slice_set progress k x) (slice_set told k y) other ≡ (if same_job other job then stage_of x y else stage_in listed places progress told other)
  stage_after progress told job k x y e lp lt other =
      stage_set listed progress told job other k (place_in places other) x y e lp lt (λ is. ap (place_in places) is ∙ laid.placed k job e)

  -- where what it tells stays
  pub stage_run : (progress : List Progress) (told : List (Option Told)) (job : Job) (k : ℕ) (x : Progress) → slice_get listed k ≡ Some job
      → k < length progress → k < length told → (other : Job)
      → stage_in listed places (slice_set progress k x) told other ≡ (if same_job other job then stage_of x (get_or told k None) else stage_in listed places progress told other)
  stage_run progress told job k x e lp lt other =
      ap (λ (ts : List (Option Told)). stage_in listed places (slice_set progress k x) ts other) (sym (set-get_or told k None))
      ∙ stage_after progress told job k x (get_or told k None) e lp lt other

pub is_over_of : (p : Progress) (tells : Option Told) → is_over (stage_of p tells) ≡ is_over_progress p
is_over_of rows.Idle tells = refl
is_over_of (rows.Running attempt) tells = refl
is_over_of rows.Over tells = refl

pub is_idle_of : (p : Progress) (tells : Option Told) → is_idle (stage_of p tells) ≡ is_idle_progress p
is_idle_of rows.Idle tells = refl
is_idle_of (rows.Running attempt) tells = refl
is_idle_of rows.Over tells = refl

-- ---- records are what they say of each node and job

pub same_records : (a b : Records) → ((n : ℕ) → a.kinds n ≡ b.kinds n) → ((job : Job) → a.stages job ≡ b.stages job) → a.held ≡ b.held → a.rested ≡ b.rested → a ≡ b
same_records a b kinds stages held rested =
    ap (λ (k : ℕ → Kind). record a { kinds = k }) (fun_ext kinds)
    ∙ ap (λ (s : Job → Stage). record a { kinds = b.kinds; stages = s }) (fun_ext stages)
    ∙ ap (λ (h : List Held). record a { kinds = b.kinds; stages = b.stages; held = h }) held
    ∙ ap (λ (r : Bool). record b { rested = r }) rested

-- ---- quiet places

pub quiet_set : (progress : List Progress) (told : List (Option Told)) (k : ℕ) (x : Progress) (y : Option Told) → k < length progress → k < length told
    → (is_over_progress x ≡ false → y ≡ None) → IsQuiet progress told → IsQuiet (slice_set progress k x) (slice_set told k y)
quiet_set progress told k x y lp lt h quiet j e = by (j == k) refl
  where
    by : (s : Bool) → (j == k) ≡ s → get_or (slice_set told k y) j None ≡ None
    by true same =
        let at : j ≡ k = eqb-true j k same in
        ap (λ i. get_or (slice_set told k y) i None) at ∙ get_or-set_same told k y None lt
        ∙ h (ap is_over_progress (sym (ap (λ i. get_or (slice_set progress k x) i rows.Idle) at ∙ get_or-set_same progress k x rows.Idle lp)) ∙ e)
    by false differs =
        let ne : j ≡ k → ⊥ = eqb-false j k differs in
        get_or-set_other told k j y None ne ∙ quiet j (ap is_over_progress (sym (get_or-set_other progress k j x rows.Idle ne)) ∙ e)

pub quiet_run : (progress : List Progress) (told : List (Option Told)) (k : ℕ) (x : Progress) → k < length progress → k < length told
    → is_over_progress (get_or progress k rows.Idle) ≡ false → IsQuiet progress told → IsQuiet (slice_set progress k x) told
quiet_run progress told k x lp lt before quiet =
    subst (IsQuiet (slice_set progress k x)) (set-get_or told k None) (quiet_set progress told k x (get_or told k None) lp lt (λ _. quiet k before) quiet)

-- ---- jobs that run or are ready

module _ (nodes : List Node) (listed : List Job) (places : List Place) (laid : IsLaidOut nodes (length nodes) listed places) (progress : List Progress) (told : List (Option Told)) where
  -- what runs is a job of the plan
  pub running_job : (job : Job) (attempt : Attempt) → stage_in listed places progress told job ≡ running attempt → is_job nodes job ≡ true
  running_job job attempt e = by (slice_get listed (place_in places job)) refl
    where
      by : (o : Option Job) → slice_get listed (place_in places job) ≡ o → is_job nodes job ≡ true
      by None h = absurd (not_idle (sym (ap (λ o. if stands_at o job then stage_of (get_or progress (place_in places job) rows.Idle) (get_or told (place_in places job) None) else idle) h) ∙ e))
        where
          not_idle : idle ≡ running attempt → ⊥
          not_idle k = cc
      by (Some other) h = same (same_job other job) refl
        where
          same : (b : Bool) → same_job other job ≡ b → is_job nodes job ≡ true
          same true k = is_job_at nodes listed places laid (place_in places job) job (h ∙ ap (λ j. Some j) (same_is other job k))
          same false k = absurd (not_idle (sym (ap (λ o. if stands_at o job then stage_of (get_or progress (place_in places job) rows.Idle) (get_or told (place_in places job) None) else idle) h
              ∙ ap (λ b. if b then stage_of (get_or progress (place_in places job) rows.Idle) (get_or told (place_in places job) None) else idle) k) ∙ e))
            where
              not_idle : idle ≡ running attempt → ⊥
              not_idle k = cc

pub idle_open : (stage : Stage) → is_idle stage ≡ true → is_over stage ≡ false
idle_open idle e = refl
idle_open (running attempt) e = refl
idle_open deferred e = refl
idle_open (over tells) e = absurd (false≢true e)
