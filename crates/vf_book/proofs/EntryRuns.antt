-- A simulator is at a point of its job's solo run as the journal sees it, and what is decided there.
use Rattle.std.proofs.Common.{◌≡◌, ℕ, zero, suc, ◌+◌, Bool, true, false, Some, None, is_some, refl, sym, ◌∙◌, ap, ap₂, subst, arith}
use Rattle.std.proofs.lemmas.Bool.{false≢true, or_from}
use Rattle.vf_base.specs.declared.names.Job.{Job}
use Rattle.vf_base.specs.declared.names.Job.TheVariants.{Reach, Finish}
use Rattle.vf_base.specs.declared.names.NodeNo.{NodeNo}
use Rattle.vf_base.specs.declared.run.Ending.{Ending}
use Rattle.vf_base.specs.declared.run.Header.{Header}
use Rattle.vf_base.specs.declared.run.Outcome.TheVariants as outcomes
use Rattle.vf_base.specs.declared.run.SaveKind.{SaveKind}
use Rattle.vf_machine.specs.Machine.{Move, go, stop, stops}
use Rattle.vf_machine.specs.Run.{mark_at, turn_at, sight_at, is_ending}
use Rattle.vf_machine.specs.Solo.{ending_of, turns_before_end}
use Rattle.vf_machine.proofs.CallerLemmas.{IsFirst, Finds, first_finds}
use Rattle.vf_design.specs.Words.{machine_of}
use Rattle.vf_design.proofs.CallerLemmas.{reads_on}
use Rattle.vf_jobs.specs.Kinds.{saved, passed, ended, over, save_at, is_passed}
use Rattle.vf_jobs.specs.Setup.{Conditions}
use Rattle.vf_journal.specs.Farm.{Farm, Point, stimulus, limits, point_in, is_at_save, is_at_pass, is_decided}
use Rattle.vf_journal.specs.Farm as farm
use Rattle.vf_journal.specs.Journal.{kind_of, ReachesKind, EndsSolo, PassesSolo}
use Rattle.vf_journal.specs.Laws.{goes_on, ReadGoesOn}
use Rattle.vf_journal.proofs.CallerLemmas.{IsRunAt, SavesAt, endings_stand, ends_still, ends_at, saves, kind_saved, kind_passed, kind_over, kind_ended, outcome_ended, outcome_passed}
use Rattle.vf_records.specs.Account.{farm_of, solo_of}
use Rattle.vf_image.specs.Runs.{stimulus_of, limits_for, moment_in, turn_in, touched_in, IsSavedAt, GoesPast}
use Rattle.vf_image.specs.Runs as runs
use Rattle.vf_image.specs.Simulators.{Simulator, IsSimulator}
use Rattle.vf_image.specs.Standing.{IsAtSave, IsPassing, IsEnding, IsOver}
use Rattle.vf_book.specs.Attempts.{IsWithin}

-- the checkpoint that the last turn asked for
same_save : (c : Conditions) (job : Job) (k : ℕ) → farm.last_save (machine_of c.design) (stimulus_of c job) (limits_for c job) k ≡ runs.last_save c job k
same_save c job zero = refl
same_save c job (suc k) = refl

-- ---- a run that is not decided

unsaved : (c : Conditions) (n : NodeNo) (k : ℕ) → save_at (machine_of c.design) (stimulus_of c (Reach n)) (limits_for c (Reach n)) k ≡ None
    → is_at_save (farm_of c) (Reach n) (point_in (farm_of c) (Reach n) k) ≡ false
unsaved c n k e = sym (saves (machine_of c.design) (stimulus_of c (Reach n)) (limits_for c (Reach n)) k) ∙ ap is_some e

pub undecided : (c : Conditions) (job : Job) (k : ℕ) → GoesPast c job k → is_decided (farm_of c) job (point_in (farm_of c) job k) ≡ false
undecided c (Finish n) k past = refl
undecided c (Reach n) k past =
    or_from (is_at_save (farm_of c) (Reach n) (point_in (farm_of c) (Reach n) k)) (is_at_pass (farm_of c) (Reach n) (point_in (farm_of c) (Reach n) k)) (unsaved c n k past.0) past.1

pub run_at : (s : Simulator) → IsSimulator s → IsWithin s → IsRunAt (farm_of s.setup) s.job s.header.turns (point_in (farm_of s.setup) s.job s.header.turns)
run_at s sim within = record {
  at = refl;
  goes = sim.at.run.goes;
  undecided = λ j below. undecided s.setup s.job j (sim.at.run.goes_past j below);
  within = within;
}

-- ---- at its save point

save_point : (c : Conditions) (n : NodeNo) (k : ℕ) → IsSavedAt c n k → SavesAt (farm_of c) n k
save_point c n k is =
    let m = machine_of c.design in
    let p : ℕ → Bool = λ t. is_some (save_at m (stimulus_of c (Reach n)) (limits_for c (Reach n)) t) in
    let bound = turns_before_end m (stimulus_of c (Reach n)) (limits_for c (Reach n)) + 1 in
    let found : IsFirst p bound k = subst (Finds p bound) is (first_finds p bound) in
    sym (saves m (stimulus_of c (Reach n)) (limits_for c (Reach n)) k) ∙ found.passes

pub kind_at_save : (s : Simulator) (n : NodeNo) (kind : SaveKind) → IsSimulator s → IsWithin s → IsAtSave s n → s.saved ≡ Some kind
    → kind_of (farm_of s.setup) n ≡ Some (saved s.header.turns kind)
kind_at_save s n kind sim within at asked =
    let c = s.setup in
    let k = s.header.turns in
    let run : IsRunAt (farm_of c) (Reach n) k (point_in (farm_of c) (Reach n) k) = subst (λ j. IsRunAt (farm_of c) j k (point_in (farm_of c) j k)) at.job (run_at s sim within) in
    kind_saved (farm_of c) n k (point_in (farm_of c) (Reach n) k) kind run (save_point c n k at.saved)
    (same_save c (Reach n) k ∙ ap (λ j. runs.last_save c j k) (sym at.job) ∙ sym sim.saved ∙ asked)

-- ---- before a read past the stimulus

pub kind_passing : (s : Simulator) (n : NodeNo) → IsSimulator s → IsWithin s → IsPassing s n → kind_of (farm_of s.setup) n ≡ Some (passed s.header.turns)
kind_passing s n sim within at =
    let c = s.setup in
    let k = s.header.turns in
    let m = machine_of c.design in
    let run : IsRunAt (farm_of c) (Reach n) k (point_in (farm_of c) (Reach n) k) = subst (λ j. IsRunAt (farm_of c) j k (point_in (farm_of c) j k)) at.job (run_at s sim within) in
    kind_passed (farm_of c) n k (point_in (farm_of c) (Reach n) k) run
    (unsaved c n k (ap (λ j. save_at m (stimulus_of c j) (limits_for c j) k) (sym at.job) ∙ at.unsaved))
    (ap (λ j. is_passed m (stimulus_of c j) (limits_for c j) k) (sym at.job) ∙ at.passes)

-- ---- at its ending

goes_by : {S : Type 0} (move : Move S) → stops move ≡ false → goes_on move ≡ true
goes_by (go state text save) h = refl
goes_by (stop ending) h = absurd (false≢true (sym h))

read_goes_on : (s : Simulator) → IsSimulator s → ReadGoesOn (farm_of s.setup) s.job s.header.turns
read_goes_on s sim at_read =
    let now = moment_in s.setup s.job s.header.turns in
    let m = machine_of s.setup.design in
    goes_by (m.move (sight_at m (stimulus_of s.setup s.job) now) now.state)
    (reads_on s.setup.design now.state (sight_at m (stimulus_of s.setup s.job) now) (sim.sound s.header.turns (omega arith)) at_read).move

-- the solo run ends there
ends_there : (s : Simulator) (ending : Ending) (turns : ℕ) → IsEnding s ending turns
    → is_ending (mark_at (machine_of s.setup.design) (stimulus_of s.setup s.job) (limits_for s.setup s.job) s.header.turns) ≡ true
ends_there s ending turns at = ap is_ending at.ends

ended_kind : (s : Simulator) (turns : ℕ) → IsSimulator s → IsWithin s → GoesPast s.setup s.job s.header.turns
    → is_ending (mark_at (machine_of s.setup.design) (stimulus_of s.setup s.job) (limits_for s.setup s.job) s.header.turns) ≡ true
    → turns ≡ (turn_in s.setup s.job s.header.turns).after.header.turns → (job : Job) → s.job ≡ job → ReachesKind (farm_of s.setup) job (ended turns)
ended_kind s turns sim within past ends counts (Finish n) e = tt
ended_kind s turns sim within past ends counts (Reach n) e =
    let c = s.setup in
    let k = s.header.turns in
    let f = farm_of c in
    let m = machine_of c.design in
    kind_ended f n k (point_in f (Reach n) k)
    (subst (λ j. ReadGoesOn f j k) e (read_goes_on s sim))
    (subst (λ j. IsRunAt f j k (point_in f j k)) e (run_at s sim within))
    (ap (λ j. is_decided f j (point_in f j k)) (sym e) ∙ undecided c s.job k past)
    (ap (λ j. is_ending (mark_at m (stimulus_of c j) (limits_for c j) k)) (sym e) ∙ ends)
    ∙ ap (λ t. Some (ended t)) (ap (λ j. (turn_in c j k).after.header.turns) (sym e) ∙ sym counts)

pub outcome_ending : (s : Simulator) (ending : Ending) (turns : ℕ) → IsSimulator s → IsWithin s → IsEnding s ending turns
    → (solo_of s.setup).outcome s.job ≡ outcomes.Done ending s.text turns
outcome_ending s ending turns sim within at =
    let c = s.setup in
    let k = s.header.turns in
    let f = farm_of c in
    outcome_ended f s.job k (point_in f s.job k) (run_at s sim within) (ends_there s ending turns at)
    ∙ ap (λ mark. outcomes.Done (ending_of mark) (runs.text_in c s.job k) (turn_in c s.job k).after.header.turns) at.ends
    ∙ ap₂ (outcomes.Done ending) (sym sim.at.run.says) (sym at.counts)

pub solo_ending : (s : Simulator) (ending : Ending) (turns : ℕ) → IsSimulator s → IsWithin s → IsEnding s ending turns → EndsSolo (farm_of s.setup) s.job turns
solo_ending s ending turns sim within at = record {
  ending = ending;
  text = s.text;
  outcome = outcome_ending s ending turns sim within at;
  kind = ended_kind s turns sim within at.past (ends_there s ending turns at) at.counts s.job refl;
}

-- what has been counted there
pub counts_ending : (s : Simulator) (ending : Ending) (turns : ℕ) → IsSimulator s → IsEnding s ending turns
    → record { turns = turns; reads = s.header.reads; written = s.header.written } ≡ (solo_of s.setup).ending s.job
counts_ending s ending turns sim at =
    let c = s.setup in
    let k = s.header.turns in
    let m = machine_of c.design in
    let stim = stimulus_of c s.job in
    let lim = limits_for c s.job in
    let now = moment_in c s.job k in
    let still = ends_still m stim lim now (read_goes_on s sim) (ends_there s ending turns at) in
    let counts = sim.at.run.counts in
    let reads : s.header.reads ≡ (turn_in c s.job k).after.header.reads = ap (λ (h : Header). h.reads) counts ∙ sym still.reads in
    let written : s.header.written ≡ (turn_in c s.job k).after.header.written = ap (λ (h : Header). h.written) counts ∙ sym still.written in
    let here : record { turns = turns; reads = s.header.reads; written = s.header.written } ≡ (turn_in c s.job k).after.header =
    λ x. record { turns = at.counts x; reads = reads x; written = written x } in
    here ∙ ap (λ j. (turn_at m stim lim j).after.header) (sym (ends_at m stim lim k sim.at.run.goes (ends_there s ending turns at)))

-- ---- where it passes the budget

over_kind : (s : Simulator) (pages : ℕ) → IsSimulator s → IsWithin s → IsOver s pages → (job : Job) → s.job ≡ job → ReachesKind (farm_of s.setup) job (over s.header.turns)
over_kind s pages sim within at (Finish n) e = tt
over_kind s pages sim within at (Reach n) e =
    let c = s.setup in
    let k = s.header.turns in
    let f = farm_of c in
    let m = machine_of c.design in
    kind_over f n k (point_in f (Reach n) k)
    (subst (λ j. IsRunAt f j k (point_in f j k)) e (run_at s sim within))
    (ap (λ j. is_decided f j (point_in f j k)) (sym e) ∙ undecided c s.job k at.needs.past)
    (ap (λ j. is_ending (mark_at m (stimulus_of c j) (limits_for c j) k)) (sym e) ∙ at.needs.goes_on)
    (let touched = ap (λ j. touched_in c j (suc k)) e in let count = at.needs.pages in let beyond = at.beyond in omega (arith, touched, count, beyond))

pub solo_over : (s : Simulator) (pages : ℕ) → IsSimulator s → IsWithin s → IsOver s pages → PassesSolo (farm_of s.setup) s.job s.header.turns pages
solo_over s pages sim within at =
    let c = s.setup in
    let k = s.header.turns in
    let f = farm_of c in
    let count = at.needs.pages in
    let beyond = at.beyond in
    let both = outcome_passed f s.job k (point_in f s.job k) (run_at s sim within) at.needs.goes_on (omega (arith, count, beyond)) in
    record {
      outcome = both.0 ∙ ap outcomes.Pages (sym count);
      passes = both.1 ∙ ap Some (let e : suc k ≡ k + 1 = omega arith in e);
      kind = over_kind s pages sim within at s.job refl;
    }
