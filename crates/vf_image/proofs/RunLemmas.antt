-- How far a job's solo run has come.
use Rattle.std.proofs.Common.{◌≡◌, ℕ, ◌<◌, ◌/◌, [], length, slice_index, is_some, sym, ap, subst, ◌∙◌, arith}
use Rattle.vf_base.specs.declared.names.Job.{Job}
use Rattle.vf_machine.specs.Run.{Moment}
use Rattle.vf_design.specs.State.{State, IsSound}
use Rattle.vf_machine.proofs.CallerLemmas.{moment_at-zero, text_at-zero, is_touched-zero}
use Rattle.vf_design.specs.Words.{machine_of, words_of}
use Rattle.vf_design.proofs.CallerLemmas.{length-words_of, start_sound}
use Rattle.vf_jobs.specs.Setup.{Conditions, IsSetup}
use Rattle.vf_pages.specs.Pages.{Pages, entry, word_of, word_or}
use Rattle.vf_image.specs.Runs.{stimulus_of, limits_for, moment_in, AreSound, Stands, IsAt}
use Rattle.vf_image.specs.Simulators.{Simulator, IsSimulator, contents}

-- no page is held, and the words are those at time zero
stands_at_zero : (c : Conditions) (job : Job) (pages : Pages) → IsSetup c → pages.zero ≡ c.zero → pages.pages ≡ [] → Stands c job 0 pages
stands_at_zero c job pages kept zero none =
    let first = moment_at-zero (machine_of c.design) (stimulus_of c job) (limits_for c job) in
    record {
      zero = zero;
      words = λ at below. ap (λ es. word_or pages.zero at (entry (at / 64) es)) none ∙ ap (λ ws. slice_index ws at) (zero ∙ kept.zero ∙ ap (λ now. words_of c.design now.state) (sym first));
      touched = λ page. ap (λ es. is_some (entry page es)) none ∙ sym (is_touched-zero (machine_of c.design) (stimulus_of c job) (limits_for c job) page);
    }

pub at_time_zero : (c : Conditions) (job : Job) (pages : Pages) → IsSetup c → pages.zero ≡ c.zero → pages.pages ≡ []
    → IsAt c job 0 (record { turns = 0; reads = 0; written = 0 }) [] pages
at_time_zero c job pages kept zero none = record {
  run = record {
    goes = λ j below. absurd (omega arith);
    goes_past = λ j below. absurd (omega arith);
    counts = ap (λ now. now.header) (sym (moment_at-zero (machine_of c.design) (stimulus_of c job) (limits_for c job)));
    says = sym (text_at-zero (machine_of c.design) (stimulus_of c job) (limits_for c job));
  };
  stands = stands_at_zero c job pages kept zero none;
}

-- the state at time zero is sound
pub sound_at_zero : (c : Conditions) (job : Job) → IsSetup c → AreSound c job 0
sound_at_zero c job kept j below =
    let first : 0 ≡ j = omega (arith, below) in
    subst (λ n. IsSound c.design (moment_in c job n).state) first
    (subst (λ (now : Moment State). IsSound c.design now.state) (sym (moment_at-zero (machine_of c.design) (stimulus_of c job) (limits_for c job))) (start_sound c.design kept.formed))

-- the word at an address of a simulator's pages is that of its state
pub word_is : (s : Simulator) (at : ℕ) → IsSimulator s → at < length (contents s) → word_of s.pages at ≡ slice_index (contents s) at
word_is s at sim below =
    let long = length-words_of s.setup.design (moment_in s.setup s.job s.header.turns).state (sim.sound s.header.turns (omega arith)) in
    sim.at.stands.words at (omega (arith, below, long))
