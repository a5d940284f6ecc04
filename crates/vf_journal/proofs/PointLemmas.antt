-- Points of runs: a run of the farm is at every moment a point of its job's solo run.
use Rattle.std.proofs.Common.{◌≡◌, ℕ, zero, suc, ◌<◌, ◌≤◌, Bool, false, cond, refl, sym, ◌∙◌, ap, subst, arith, ⊎_elim}
use Rattle.std.proofs.lemmas.Bool.{cases_lt}
use Rattle.vf_base.specs.declared.names.Job.{Job}
use Rattle.vf_machine.specs.Search.{count_below}
use Rattle.vf_machine.specs.Run.{moment_at, text_at, mark_at, is_ending}
use Rattle.vf_machine.specs.Pages.{page_count, is_touched}
use Rattle.vf_machine.proofs.CallerLemmas.{turns_counted, before_limit, touched_pages_grow_lem, is_touched-zero}
use Rattle.vf_journal.specs.Farm.{Farm, Point, stimulus, limits, point_zero, point_after, point_in, next_turn, touched_next, count_pages, is_decided}
use Rattle.vf_journal.specs.Journal.{pages_in}

pub point_in-zero : {S : Type 0} (f : Farm S) (job : Job) → point_in f job 0 ≡ point_zero f
unfolding moment_at text_at is_touched
point_in-zero f job = refl

pub point_in-suc : {S : Type 0} (f : Farm S) (job : Job) (k : ℕ) → point_in f job (suc k) ≡ point_after f job (point_in f job k)
unfolding moment_at text_at is_touched
point_in-suc f job k = refl

-- none of the first k turns ended the run
abbrev pub GoesOn : {S : Type 0} → Farm S → Job → ℕ → Type 0
GoesOn f job k = (j : ℕ) → j < k → is_ending (mark_at f.machine (stimulus f job) (limits f job) j) ≡ false

-- a run of the farm after k turns: the point of the solo run, which has not ended, was not decided before, and is within the budget
pub record IsRunAt {S : Type 0} (f : Farm S) (job : Job) (k : ℕ) (now : Point S) : Type 0 where
  pub at : now ≡ point_in f job k
  pub goes : GoesOn f job k
  pub undecided : (j : ℕ) → j < k → is_decided f job (point_in f job j) ≡ false
  pub within : pages_in f job k ≤ f.budget

count_none : (p : ℕ → Bool) (n : ℕ) → ((i : ℕ) → p i ≡ false) → count_below p n ≡ 0
unfolding count_below
count_none p zero none = refl
count_none p (suc n) none =
    let before = count_none p n none in
    let one : Bool → ℕ = λ b. cond b 1 0 in
    let here = ap one (none n) in
    omega (arith, before, here)

pub run_at_zero : {S : Type 0} (f : Farm S) (job : Job) → IsRunAt f job 0 (point_zero f)
run_at_zero f job = record {
  at = sym (point_in-zero f job);
  goes = λ j h. absurd (omega (arith, h));
  undecided = λ j h. absurd (omega (arith, h));
  within =
      let none = count_none (is_touched f.machine (stimulus f job) (limits f job) 0) (page_count (f.machine.words f.machine.start)) (is_touched-zero f.machine (stimulus f job) (limits f job)) in
      omega (arith, none);
}

pub below_suc : (k : ℕ) (P : ℕ → Type 0) → ((j : ℕ) → j < k → P j) → P k → (j : ℕ) → j < suc k → P j
below_suc k P before here j h = ⊎_elim (λ lt. before j lt) (λ ge. subst P (let e : k ≡ j = omega (arith, h, ge) in e) here) (cases_lt j k)

-- a turn within the limits and the budget, of a run that is not decided, leads to the next point
pub run_at-suc : {S : Type 0} (f : Farm S) (job : Job) (k : ℕ) (now : Point S) → IsRunAt f job k now → is_ending (next_turn f job now).mark ≡ false
    → is_decided f job now ≡ false → count_pages f (touched_next f job now) ≤ f.budget → IsRunAt f job (suc k) (point_after f job now)
run_at-suc f job k now run goes undecided within = record {
  at = ap (point_after f job) run.at ∙ sym (point_in-suc f job k);
  goes = below_suc k (λ j. is_ending (mark_at f.machine (stimulus f job) (limits f job) j) ≡ false) run.goes
      (ap (λ p. is_ending (next_turn f job p).mark) (sym run.at) ∙ goes);
  undecided = below_suc k (λ j. is_decided f job (point_in f job j) ≡ false) run.undecided (ap (is_decided f job) (sym run.at) ∙ undecided);
  within =
      let same : count_pages f (point_in f job (suc k)).touched ≡ count_pages f (touched_next f job now) =
      ap (λ p. count_pages f p.touched) (point_in-suc f job k) ∙ ap (λ p. count_pages f (touched_next f job p)) (sym run.at) in
      omega (arith, same, within);
}

-- a point has counted as many turns as were made
pub turns_at_point : {S : Type 0} (f : Farm S) (job : Job) (k : ℕ) (now : Point S) → IsRunAt f job k now → now.moment.header.turns ≡ k
turns_at_point f job k now run =
    ap (λ p. p.moment.header.turns) run.at ∙ turns_counted f.machine (stimulus f job) (limits f job) k run.goes

pub turns_within : {S : Type 0} (f : Farm S) (job : Job) (k : ℕ) → GoesOn f job k → k ≤ (limits f job).turns
turns_within f job zero goes = omega arith
turns_within f job (suc k) goes =
    let m = f.machine in
    let before = turns_counted m (stimulus f job) (limits f job) k (λ j h. goes j (omega (arith, h))) in
    let below = before_limit m (stimulus f job) (limits f job) (moment_at m (stimulus f job) (limits f job) k) (goes k (omega arith)) in
    omega (arith, before, below)

pub within_before : {S : Type 0} (f : Farm S) (job : Job) (j k : ℕ) → j ≤ k → pages_in f job k ≤ f.budget → pages_in f job j ≤ f.budget
within_before f job j k h within =
    let grows = touched_pages_grow_lem f.machine (stimulus f job) (limits f job) j k h in
    omega (arith, grows, within)
