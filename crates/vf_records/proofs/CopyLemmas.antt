-- Copies, one job after another.
use Rattle.std.proofs.Common.{◌≡◌, ℕ, zero, suc, ◌+◌, ◌≤◌, Bool, true, false, ◌&&◌, nat_lt, not, if◌then◌else◌, List, [], ◌∷◌, ◌++◌, length, take, map, Some, refl, sym, ◌∙◌, ap, ap₂, arith, slice_get, unwrap_or, append-nil}
use Rattle.std.specs.List.{filter}
use Rattle.std.proofs.lemmas.Bool.{false≢true, ltb-true, ltb-false, lt-ltb, le-ltb, and_parts}
use Rattle.std.proofs.lemmas.List.Elements.{filter-append}
use Rattle.std.proofs.lemmas.List.{map-append}
use Rattle.std.proofs.lemmas.Option.{slice_get_within}
use Rattle.vf_base.specs.declared.names.Job.{Job}
use Rattle.vf_base.specs.declared.names.Job.TheVariants.{Reach, Finish}
use Rattle.vf_jobs.specs.Jobs.{node_of, node_no}
use Rattle.vf_jobs.specs.Setup.{Conditions}
use Rattle.vf_jobs.specs.Subtree.{is_below}
use Rattle.vf_journal.specs.declared.entry.Entry.{Entry}
use Rattle.vf_journal.specs.declared.entry.Entry.TheVariants.{Copy}
use Rattle.vf_journal.specs.declared.entry.Told.TheVariants as told
use Rattle.vf_journal.specs.Records.{Stage, over, Records, same_job, is_job, is_over}
use Rattle.vf_journal.specs.Effects as effects
use Rattle.vf_journal.specs.Effects.{with_over, with_copies, is_copied, copies}
use Rattle.vf_records.specs.declared.layout.Place.{Place}
use Rattle.vf_records.specs.Account.{farm_of}
use Rattle.vf_records.specs.Layout.{place_in, IsLaidOut}
use Rattle.vf_records.proofs.LayoutLemmas.{take_one}
use Rattle.vf_records.proofs.TableLemmas.{same_self, same_is, job_at, listed_all, same_records}

-- the records where the jobs of the first places are copied
abbrev pub copied_below : Conditions → effects.Spread → List Place → Records → ℕ → Records
copied_below s spread places r at = record r {
  kinds = λ n. if nat_lt (place_in places (Reach (node_no n))) at && is_copied (farm_of s) r spread (Reach (node_no n)) then spread.kind else r.kinds n;
  stages = λ job. if nat_lt (place_in places job) at && is_copied (farm_of s) r spread job then over (Some (told.Copied spread.node)) else r.stages job;
}

-- and their entries
abbrev pub copies_below : Conditions → effects.Spread → List Job → Records → ℕ → List Entry
copies_below s spread listed r at = map (λ job. Copy job spread.node) (filter (is_copied (farm_of s) r spread) (take at listed))

pub and_false : (b : Bool) → (b && false) ≡ false
and_false true = refl
and_false false = refl

pub none_below : (p : ℕ) → nat_lt p 0 ≡ false
none_below p = le-ltb p 0 (omega arith)

pub not_equal : (p at : ℕ) → (p ≡ at → ⊥) → nat_lt p (at + 1) ≡ nat_lt p at
not_equal p at ne = by (nat_lt p at) refl
  where
    by : (s : Bool) → nat_lt p at ≡ s → nat_lt p (at + 1) ≡ s
    by true h = let less = ltb-true p at h in lt-ltb p (at + 1) (omega arith)
    by false h = let least = ltb-false p at h in le-ltb p (at + 1) (omega (arith, ne))

less_same : (p at : ℕ) (b : Bool) → (p ≡ at → b ≡ false) → (nat_lt p (at + 1) && b) ≡ (nat_lt p at && b)
less_same p at true h = ap (λ b. b && true) (not_equal p at (λ e. false≢true (sym (h e))))
less_same p at false h = and_false (nat_lt p (at + 1)) ∙ sym (and_false (nat_lt p at))

pub is_under : (s : Conditions) (spread : effects.Spread) (r : Records) (job : Job) → is_copied (farm_of s) r spread job ≡ true → is_below s.plan spread.node.0 (node_of job) ≡ true
is_under s spread r job is =
    (and_parts (is_below s.plan spread.node.0 (node_of job)) (not (is_over (r.stages job)) && spread.fits job)
    (and_parts (is_job s.plan job) (is_below s.plan spread.node.0 (node_of job) && (not (is_over (r.stages job)) && spread.fits job)) is).1).0

module _ (s : Conditions) (spread : effects.Spread) (listed : List Job) (places : List Place) (laid : IsLaidOut s.plan (length s.plan) listed places) (r : Records) where
  pub there : (job : Job) → is_copied (farm_of s) r spread job ≡ true → slice_get listed (place_in places job) ≡ Some job
  there job c = job_at s.plan listed places laid job (and_parts (is_job s.plan job) (is_below s.plan spread.node.0 (node_of job) && (not (is_over (r.stages job)) && spread.fits job)) c).0

  only : (at : ℕ) (job other : Job) → slice_get listed at ≡ Some job → place_in places other ≡ at → is_copied (farm_of s) r spread other ≡ true → other ≡ job
  only at job other e p c = ap (λ o. unwrap_or o other) (sym (there other c) ∙ ap (slice_get listed) p ∙ e)

  whole : {A : Type 0} (at : ℕ) (other : Job) (x y : A) → length listed ≤ at
      → (if nat_lt (place_in places other) at && is_copied (farm_of s) r spread other then x else y) ≡ (if is_copied (farm_of s) r spread other then x else y)
  whole at other x y h = by (is_copied (farm_of s) r spread other) refl
    where
      by : (c : Bool) → is_copied (farm_of s) r spread other ≡ c → (if nat_lt (place_in places other) at && c then x else y) ≡ (if c then x else y)
      by true c = ap (λ b. if b && true then x else y) (lt-ltb (place_in places other) at (let less = slice_get_within listed (place_in places other) other (there other c) in omega (arith, less, h)))
      by false c = ap (λ b. if b then x else y) (and_false (nat_lt (place_in places other) at))

  one_more : {A : Type 0} (at : ℕ) (job other : Job) (x y : A) → slice_get listed at ≡ Some job → is_copied (farm_of s) r spread job ≡ true
      → (if same_job other job then x else (if nat_lt (place_in places other) at && is_copied (farm_of s) r spread other then x else y))
      ≡ (if nat_lt (place_in places other) (at + 1) && is_copied (farm_of s) r spread other then x else y)
  one_more at job other x y e c = by (same_job other job) refl
    where
      by : (b : Bool) → same_job other job ≡ b → (if b then x else (if nat_lt (place_in places other) at && is_copied (farm_of s) r spread other then x else y))
          ≡ (if nat_lt (place_in places other) (at + 1) && is_copied (farm_of s) r spread other then x else y)
      by true h =
          let is : other ≡ job = same_is other job h in
          let p : place_in places other ≡ at = ap (place_in places) is ∙ laid.placed at job e in
          sym (ap₂ (λ a b. if a && b then x else y) (lt-ltb (place_in places other) (at + 1) (omega (arith, p))) (ap (is_copied (farm_of s) r spread) is ∙ c))
      by false h =
          ap (λ b. if b then x else y) (sym (less_same (place_in places other) at (is_copied (farm_of s) r spread other) (λ p. not_here p (is_copied (farm_of s) r spread other) refl)))
        where
          not_here : place_in places other ≡ at → (c : Bool) → is_copied (farm_of s) r spread other ≡ c → c ≡ false
          not_here p true k = absurd (false≢true (sym h ∙ ap (same_job other) (sym (only at job other e p k)) ∙ same_self other))
          not_here p false k = refl

  none_more : {A : Type 0} (at : ℕ) (job other : Job) (x y : A) → slice_get listed at ≡ Some job → is_copied (farm_of s) r spread job ≡ false
      → (if nat_lt (place_in places other) at && is_copied (farm_of s) r spread other then x else y)
      ≡ (if nat_lt (place_in places other) (at + 1) && is_copied (farm_of s) r spread other then x else y)
  none_more at job other x y e c =
      ap (λ b. if b then x else y) (sym (less_same (place_in places other) at (is_copied (farm_of s) r spread other) (λ p. not_here p (is_copied (farm_of s) r spread other) refl)))
    where
      not_here : place_in places other ≡ at → (k : Bool) → is_copied (farm_of s) r spread other ≡ k → k ≡ false
      not_here p true k = sym k ∙ ap (is_copied (farm_of s) r spread) (only at job other e p k) ∙ c
      not_here p false k = refl

  pub copied_none : copied_below s spread places r 0 ≡ r
  copied_none =
      same_records (copied_below s spread places r 0) r
      (λ n. ap (λ b. if b && is_copied (farm_of s) r spread (Reach (node_no n)) then spread.kind else r.kinds n) (none_below (place_in places (Reach (node_no n)))))
      (λ job. ap (λ b. if b && is_copied (farm_of s) r spread job then over (Some (told.Copied spread.node)) else r.stages job) (none_below (place_in places job)))
      refl refl

  pub copied_all : (at : ℕ) → length listed ≤ at → copied_below s spread places r at ≡ with_copies (farm_of s) (Some spread) r
  copied_all at h =
      same_records (copied_below s spread places r at) (with_copies (farm_of s) (Some spread) r)
      (λ n. whole at (Reach (node_no n)) spread.kind (r.kinds n) h) (λ job. whole at job (over (Some (told.Copied spread.node))) (r.stages job) h) refl refl

  pub copied_step : (at : ℕ) (job : Job) → slice_get listed at ≡ Some job → is_copied (farm_of s) r spread job ≡ true
      → with_over job (Some (told.Copied spread.node)) spread.kind (copied_below s spread places r at) ≡ copied_below s spread places r (at + 1)
  copied_step at (Reach m) e c =
      same_records (with_over (Reach m) (Some (told.Copied spread.node)) spread.kind (copied_below s spread places r at)) (copied_below s spread places r (at + 1))
      (λ n. one_more at (Reach m) (Reach (node_no n)) spread.kind (r.kinds n) e c) (λ other. one_more at (Reach m) other (over (Some (told.Copied spread.node))) (r.stages other) e c) refl refl
  copied_step at (Finish m) e c =
      same_records (with_over (Finish m) (Some (told.Copied spread.node)) spread.kind (copied_below s spread places r at)) (copied_below s spread places r (at + 1))
      (λ n. one_more at (Finish m) (Reach (node_no n)) spread.kind (r.kinds n) e c) (λ other. one_more at (Finish m) other (over (Some (told.Copied spread.node))) (r.stages other) e c) refl refl

  pub copied_skip : (at : ℕ) (job : Job) → slice_get listed at ≡ Some job → is_copied (farm_of s) r spread job ≡ false
      → copied_below s spread places r at ≡ copied_below s spread places r (at + 1)
  copied_skip at job e c =
      same_records (copied_below s spread places r at) (copied_below s spread places r (at + 1))
      (λ n. none_more at job (Reach (node_no n)) spread.kind (r.kinds n) e c) (λ other. none_more at job other (over (Some (told.Copied spread.node))) (r.stages other) e c) refl refl

  -- a job of a place further on is as it was
  pub still : (at : ℕ) (job : Job) → slice_get listed at ≡ Some job → (copied_below s spread places r at).stages job ≡ r.stages job
  still at job e =
      ap (λ b. if b && is_copied (farm_of s) r spread job then over (Some (told.Copied spread.node)) else r.stages job)
      (le-ltb (place_in places job) at (let p = laid.placed at job e in omega (arith, p)))

  pub still_copied : (at : ℕ) (job : Job) → slice_get listed at ≡ Some job → is_copied (farm_of s) (copied_below s spread places r at) spread job ≡ is_copied (farm_of s) r spread job
  still_copied at job e =
      ap (λ (stage : Stage). is_job s.plan job && (is_below s.plan spread.node.0 (node_of job) && (not (is_over stage) && spread.fits job))) (still at job e)

  pub is_open : (job : Job) → is_copied (farm_of s) r spread job ≡ true → is_over (r.stages job) ≡ false
  is_open job c =
      let more = (and_parts (is_job s.plan job) (is_below s.plan spread.node.0 (node_of job) && (not (is_over (r.stages job)) && spread.fits job)) c).1 in
      let last = (and_parts (is_below s.plan spread.node.0 (node_of job)) (not (is_over (r.stages job)) && spread.fits job) more).1 in
      not_true (is_over (r.stages job)) (and_parts (not (is_over (r.stages job))) (spread.fits job) last).0
    where
      not_true : (b : Bool) → not b ≡ true → b ≡ false
      not_true true h = absurd (false≢true h)
      not_true false h = refl

  -- ---- the entries

  pub entries_all : (at : ℕ) → length listed ≤ at → copies_below s spread listed r at ≡ copies (farm_of s) (Some spread) r
  entries_all at h = ap (λ js. map (λ job. Copy job spread.node) (filter (is_copied (farm_of s) r spread) js)) (taken listed at h ∙ listed_all s.plan listed places laid)
    where
      taken : {A : Type 0} (xs : List A) (n : ℕ) → length xs ≤ n → take n xs ≡ xs
      taken [] zero h = refl
      taken [] (suc n) h = refl
      taken (x ∷ xs) zero h = absurd (omega (arith, h))
      taken (x ∷ xs) (suc n) h = ap (λ ys. x ∷ ys) (taken xs n (omega (arith, h)))

  entries_next : (at : ℕ) (job : Job) → slice_get listed at ≡ Some job
      → copies_below s spread listed r (at + 1) ≡ copies_below s spread listed r at ++ map (λ job. Copy job spread.node) (if is_copied (farm_of s) r spread job then job ∷ [] else [])
  entries_next at job e =
      ap (λ js. map (λ job. Copy job spread.node) (filter (is_copied (farm_of s) r spread) js)) (take_one listed at job e)
      ∙ ap (map (λ job. Copy job spread.node)) (filter-append (is_copied (farm_of s) r spread) (take at listed) (job ∷ []))
      ∙ map-append (λ job. Copy job spread.node) (filter (is_copied (farm_of s) r spread) (take at listed)) (filter (is_copied (farm_of s) r spread) (job ∷ []))

  pub entries_step : (at : ℕ) (job : Job) → slice_get listed at ≡ Some job → is_copied (farm_of s) r spread job ≡ true
      → copies_below s spread listed r (at + 1) ≡ copies_below s spread listed r at ++ Copy job spread.node ∷ []
  entries_step at job e c = entries_next at job e ∙ ap (λ b. copies_below s spread listed r at ++ map (λ job. Copy job spread.node) (if b then job ∷ [] else [])) c

  pub entries_skip : (at : ℕ) (job : Job) → slice_get listed at ≡ Some job → is_copied (farm_of s) r spread job ≡ false → copies_below s spread listed r (at + 1) ≡ copies_below s spread listed r at
  entries_skip at job e c =
      entries_next at job e ∙ ap (λ b. copies_below s spread listed r at ++ map (λ job. Copy job spread.node) (if b then job ∷ [] else [])) c ∙ append-nil (copies_below s spread listed r at)
