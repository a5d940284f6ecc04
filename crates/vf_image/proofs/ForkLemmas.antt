-- A run below a node goes on from the node's save point.
use Rattle.std.proofs.Common.{◌≡◌, ℕ, suc, zero, ◌+◌, ◌-◌, ◌<◌, ◌≤◌, ◌&&◌, ◌||◌, Bool, true, false, cond, if◌then◌else◌, List, Option, None, Some, length, slice_index, is_some, length-append, refl, sym, ap, ap₂, subst, ◌∙◌, arith}
use Rattle.std.proofs.lemmas.Bool.{false≢true, eqb-true, eq-eqb}
use Rattle.vf_base.specs.declared.names.Job.{Job}
use Rattle.vf_base.specs.declared.names.Job.TheVariants.{Reach, Finish}
use Rattle.vf_base.specs.declared.run.SaveKind.{SaveKind}
use Rattle.vf_base.specs.declared.run.Ending.TheVariants.{Drained}
use Rattle.vf_base.specs.declared.run.Header.{Header}
use Rattle.vf_base.specs.declared.run.Limits.{Limits}
use Rattle.vf_machine.specs.Machine.{Machine}
use Rattle.vf_machine.specs.Run.{Moment, Turned, moment_at, mark_at, turn_of, ended_before, performed, reads_next, sight_at, is_ending}
use Rattle.vf_machine.specs.Pages.{is_touched, page_differs}
use Rattle.vf_machine.specs.Laws.{SameFor}
use Rattle.vf_machine.proofs.CallerLemmas.{is_touched-zero, is_touched-suc, unlimited, no_limit, later, reads_grow, moment_at-suc, IsFirst, Finds, first_finds, performed-reads, same_read, prefix, run_ends_lem}
use Rattle.vf_machine.specs.Solo.{turns_before_end}
use Rattle.vf_design.specs.State.{State, IsSound}
use Rattle.vf_design.specs.Words.{machine_of, words_of}
use Rattle.vf_jobs.specs.Jobs.{node_of, fits}
use Rattle.vf_jobs.specs.Kinds.{save_of, save_at, all_read, is_passed}
use Rattle.vf_jobs.proofs.CallerLemmas.{begins, below, descends, shares_save_point}
use Rattle.vf_jobs.specs.Setup.{Conditions, IsSetup}
use Rattle.vf_pages.specs.Pages.{Pages, entry, word_at}
use Rattle.vf_image.specs.Simulators.{Simulator, IsSimulator}
use Rattle.vf_image.specs.Runs.{stimulus_of, limits_for, last_save, AreSound, GoesPast, IsRunAt, Stands, IsAt}
use Rattle.vf_image.specs.Images.{Checkpoint, IsImage, IsHeldBy, full, over, Serves}

-- runs that are the same touch the same pages
pub touched_alike : {S : Type 0} (m : Machine S) (a b : List ℕ) (la lb : Limits) (t : ℕ) → ((k : ℕ) → k ≤ t → SameFor m a la b lb k)
    → (page k : ℕ) → k ≤ t → is_touched m a la k page ≡ is_touched m b lb k page
touched_alike m a b la lb t same page zero h = is_touched-zero m a la page ∙ sym (is_touched-zero m b lb page)
touched_alike {S} m a b la lb t same page (suc k) h =
    let before = ap (λ (now : Moment S). m.words now.state) (same k (omega (arith, h))).moment in
    let after = ap (λ (now : Moment S). m.words now.state) (same (suc k) h).moment in
    is_touched-suc m a la k page
    ∙ ap₂ ◌||◌ (touched_alike m a b la lb t same page k (omega (arith, h))) (ap₂ (λ x y. page_differs x y page) before after)
    ∙ sym (is_touched-suc m b lb k page)

pub shared : (i : Checkpoint) (job : Job) → IsImage i → Serves i job → (k : ℕ) → k ≤ i.header.turns
    → SameFor (machine_of i.setup.design) (stimulus_of i.setup (Reach i.node)) (limits_for i.setup (Reach i.node)) (stimulus_of i.setup job) (limits_for i.setup job) k
shared i job kept serves k h =
    let m = machine_of i.setup.design in
    shares_save_point m (prefix m) (λ stim limits. run_ends_lem m stim limits) i.setup.plan i.node.0 (node_of job) (limits_for i.setup (Reach i.node)) (limits_for i.setup job) i.header.turns k
    kept.setup.plan serves.below kept.at_save (subst (λ (header : Header). fits (limits_for i.setup job) header ≡ true) kept.run.counts serves.within) h

-- the last turn before the save point asks for the same in both runs
saves_alike : (i : Checkpoint) (job : Job) → IsImage i → Serves i job
    → last_save i.setup (Reach i.node) i.header.turns ≡ last_save i.setup job i.header.turns
saves_alike i job kept serves = by i.header.turns (λ k h. shared i job kept serves k h)
  where
    by : (t : ℕ) → ((k : ℕ) → k ≤ t → SameFor (machine_of i.setup.design) (stimulus_of i.setup (Reach i.node)) (limits_for i.setup (Reach i.node)) (stimulus_of i.setup job) (limits_for i.setup job) k)
        → last_save i.setup (Reach i.node) t ≡ last_save i.setup job t
    by zero same = refl
    by (suc k) same = ap save_of ((same (suc k) (omega arith)).marks k (omega arith))

-- a turn that goes on counts its read
ending_by : {S : Type 0} (d : Bool) (x p : Turned S) → is_ending x.mark ≡ true → is_ending (cond d x p).mark ≡ false → cond d x p ≡ p
ending_by true x p e h = absurd (false≢true (sym h ∙ e))
ending_by false x p e h = refl

reads_on : {S : Type 0} (m : Machine S) (stim : List ℕ) (limits : Limits) (now : Moment S) → is_ending (turn_of m stim limits now).mark ≡ false
    → (turn_of m stim limits now).after.header.reads ≡ now.header.reads + cond (reads_next m stim now) 1 0
reads_on {S} m stim limits now h =
    let free = unlimited m stim limits now (no_limit (turn_of m stim limits now).mark h) in
    let on = ending_by (m.drained now.state) (ended_before now Drained) (performed m stim now (m.move (sight_at m stim now) now.state)) refl (ap (λ (t : Turned S). is_ending t.mark) (sym free) ∙ h) in
    ap (λ (t : Turned S). t.after.header.reads) (free ∙ on) ∙ performed-reads m stim now (m.move (sight_at m stim now) now.state)

-- Up to the save point of a node above, the run of a node below meets neither its save point nor a read past its stimulus.
module _ {S : Type 0} (m : Machine S) (a b : List ℕ) (la lb : Limits) (t : ℕ) (long : length a ≤ length b) (same : (k : ℕ) → k ≤ t → SameFor m a la b lb k)
    (goes : (j : ℕ) → j < t → is_ending (mark_at m a la j) ≡ false) (first : (j : ℕ) → j < t → is_some (save_at m a la j) ≡ false) (whole : all_read m a la t ≡ true) where
  read_whole : (moment_at m a la t).header.reads ≡ length a
  read_whole = eqb-true (moment_at m a la t).header.reads (length a) whole

  reads_below : (k : ℕ) → k ≤ t → (moment_at m a la k).header.reads ≤ length a
  reads_below k h =
      let n = t - k in
      let grown = later (λ (now : Moment S). now.header.reads) m a la (λ now. reads_grow m a la now) k n in
      let end = ap (λ j. (moment_at m a la j).header.reads) (let j : k + n ≡ t = omega (arith, h) in j) in
      omega (arith, grown, end, read_whole)

  reads_same : (k : ℕ) → k ≤ t → (moment_at m a la k).header.reads ≡ (moment_at m b lb k).header.reads
  reads_same k h = ap (λ (now : Moment S). now.header.reads) (same k h).moment

  none_saved : (save : Option SaveKind) → is_some save ≡ false → save ≡ None
  none_saved None h = refl
  none_saved (Some kind) h = cc

  unsaved_by : (test : Bool) (k : ℕ) → suc k < t → all_read m b lb (suc k) ≡ test → (if test then save_of (mark_at m b lb k) else None) ≡ None
  unsaved_by false k h e = refl
  unsaved_by true k h e =
      let all = eqb-true (moment_at m b lb (suc k)).header.reads (length b) e in
      let above = reads_same (suc k) (omega (arith, h)) in
      let within = reads_below (suc k) (omega (arith, h)) in
      let read : all_read m a la (suc k) ≡ true = eq-eqb (moment_at m a la (suc k)).header.reads (length a) (omega (arith, all, above, within, long)) in
      ap save_of (sym ((same (suc k) (omega (arith, h))).marks k (omega arith)))
      ∙ none_saved (save_of (mark_at m a la k)) (ap (λ r. is_some (if r then save_of (mark_at m a la k) else None)) (sym read) ∙ first (suc k) h)

  unsaved : (j : ℕ) → j < t → save_at m b lb j ≡ None
  unsaved zero h = refl
  unsaved (suc k) h = unsaved_by (all_read m b lb (suc k)) k h refl

  unpassed_by : (all reading : Bool) (j : ℕ) → j < t → all_read m b lb j ≡ all → reads_next m b (moment_at m b lb j) ≡ reading → (all && reading) ≡ false
  unpassed_by false reading j h e r = refl
  unpassed_by true false j h e r = refl
  unpassed_by true true j h e r =
      let all = eqb-true (moment_at m b lb j).header.reads (length b) e in
      let above = reads_same j (omega (arith, h)) in
      let within = reads_below (suc j) (omega (arith, h)) in
      let here = reads_below j (omega (arith, h)) in
      let reading : reads_next m a (moment_at m a la j) ≡ true =
      same_read m a b (moment_at m a la j) here (omega (arith, here, long)) ∙ ap (reads_next m b) (same j (omega (arith, h))).moment ∙ r in
      let after = ap (λ (now : Moment S). now.header.reads) (moment_at-suc m a la j) in
      let more = reads_on m a la (moment_at m a la j) (goes j h) in
      let one = ap (λ c. (moment_at m a la j).header.reads + cond c 1 0) reading in
      absurd (omega (arith, all, above, within, after, more, one, long))

  unpassed : (j : ℕ) → j < t → is_passed m b lb j ≡ false
  unpassed j h = unpassed_by (all_read m b lb j) (reads_next m b (moment_at m b lb j)) j h refl refl

read_by : (all : Bool) (save : Option SaveKind) → is_some (if all then save else None) ≡ true → all ≡ true
read_by true save h = refl
read_by false save h = cc

pub read_at : {S : Type 0} (m : Machine S) (a : List ℕ) (la : Limits) (t : ℕ) → is_some (save_at m a la t) ≡ true → all_read m a la t ≡ true
read_at m a la zero h = cc
read_at m a la (suc t) h = read_by (all_read m a la (suc t)) (save_of (mark_at m a la t)) h

goes_past_below : (i : Checkpoint) (job : Job) → IsImage i → Serves i job
    → (j : ℕ) → j < i.header.turns → GoesPast i.setup job j
goes_past_below i (Finish n) kept serves j h = tt
goes_past_below i (Reach n) kept serves j h =
    let m = machine_of i.setup.design in
    let a = stimulus_of i.setup (Reach i.node) in
    let la = limits_for i.setup (Reach i.node) in
    let t = i.header.turns in
    let found : IsFirst (λ k. is_some (save_at m a la k)) (turns_before_end m a la + 1) t =
    subst (Finds (λ k. is_some (save_at m a la k)) (turns_before_end m a la + 1)) kept.at_save (first_finds (λ k. is_some (save_at m a la k)) (turns_before_end m a la + 1)) in
    let more = begins i.setup.plan i.node.0 n.0 kept.setup.plan (below i.setup.plan i.node.0 (descends i.setup.plan kept.setup.plan) n.0 serves.below) in
    let long = ap length more.1 ∙ length-append a more.0 in
    let same = shared i (Reach n) kept serves in
    let whole = read_at m a la t found.passes in (
      unsaved m a (stimulus_of i.setup (Reach n)) la (limits_for i.setup (Reach n)) t (omega (arith, long)) same kept.run.goes found.least whole j h,
      unpassed m a (stimulus_of i.setup (Reach n)) la (limits_for i.setup (Reach n)) t (omega (arith, long)) same kept.run.goes found.least whole j h,
    )

-- pages that have the image's words have those of the job's run
stands_below : (i : Checkpoint) (job : Job) (pages : Pages) → IsImage i → Serves i job → Stands i.setup (Reach i.node) i.header.turns pages → Stands i.setup job i.header.turns pages
stands_below i job pages kept serves stands =
    let same = shared i job kept serves in
    let whole = same i.header.turns (omega arith) in
    record {
      zero = stands.zero;
      words = λ a below. stands.words a below ∙ ap (λ (now : Moment State). slice_index (words_of i.setup.design now.state) a) whole.moment;
      touched = λ page. stands.touched page ∙ touched_alike (machine_of i.setup.design) _ _ _ _ i.header.turns same page i.header.turns (omega arith);
    }

run_below : (i : Checkpoint) (job : Job) → IsImage i → Serves i job → IsRunAt i.setup job i.header.turns i.header i.text
run_below i job kept serves =
    let whole = shared i job kept serves i.header.turns (omega arith) in
    record {
      goes = λ j below. ap is_ending (sym (whole.marks j below)) ∙ kept.run.goes j below;
      goes_past = goes_past_below i job kept serves;
      counts = kept.run.counts ∙ ap (λ (now : Moment State). now.header) whole.moment;
      says = kept.run.says ∙ whole.text;
    }

-- what a holder's pages are does not depend on its token
pub on_same_pages : (c : Conditions) (job : Job) (k : ℕ) (pages other : Pages) → other.zero ≡ pages.zero → other.pages ≡ pages.pages → Stands c job k pages → Stands c job k other
on_same_pages c job k pages other words same stands = record {
  zero = words ∙ stands.zero;
  words = λ a below. ap₂ (λ z es. word_at z es a) words same ∙ stands.words a below;
  touched = λ page. ap (λ es. is_some (entry page es)) same ∙ stands.touched page;
}

-- a simulator that goes on from an image, in pages that have its words
pub forked_simulator : (i : Checkpoint) (s : Simulator) → IsImage i → Serves i s.job → node_of s.job < length i.setup.plan → Stands i.setup (Reach i.node) i.header.turns s.pages
    → s.setup ≡ i.setup → s.header ≡ i.header → s.text ≡ i.text → s.saved ≡ i.saved → IsSimulator s
forked_simulator i s kept serves job stands setup header text saved =
    let at : IsAt i.setup s.job i.header.turns i.header i.text s.pages = record { run = run_below i s.job kept serves; stands = stands_below i s.job s.pages kept serves stands } in
    record {
      setup = subst IsSetup (sym setup) kept.setup;
      job = subst (λ (c : Conditions). node_of s.job < length c.plan) (sym setup) job;
      saved = saved ∙ kept.saved ∙ saves_alike i s.job kept serves ∙ ap₂ (λ (c : Conditions) (h : Header). last_save c s.job h.turns) (sym setup) (sym header);
      sound = subst (λ (c : Conditions). AreSound c s.job s.header.turns) (sym setup)
          (subst (λ (h : Header). AreSound i.setup s.job h.turns) (sym header)
          (λ j below. subst (λ (now : Moment State). IsSound i.setup.design now.state) (shared i s.job kept serves j below).moment (kept.sound j below)));
      at = subst (λ (c : Conditions). IsAt c s.job s.header.turns s.header s.text s.pages) (sym setup)
          (subst (λ (h : Header). IsAt i.setup s.job h.turns h s.text s.pages) (sym header)
          (subst (λ bytes. IsAt i.setup s.job i.header.turns i.header bytes s.pages) (sym text) at));
    }

-- the pages of a full image have its words
pub full_stands : (i : Checkpoint) → IsImage i → i.base ≡ None → Stands i.setup (Reach i.node) i.header.turns i.pages
full_stands i kept none = by kept.held
  where
    by : IsHeldBy i → Stands i.setup (Reach i.node) i.header.turns i.pages
    by (full e stands) = stands
    by (over base since e saved stands) = let wrong = sym none ∙ e in absurd cc

pub full_simulator : (i : Checkpoint) (s : Simulator) → IsImage i → i.base ≡ None → Serves i s.job → node_of s.job < length i.setup.plan
    → s.setup ≡ i.setup → s.header ≡ i.header → s.text ≡ i.text → s.saved ≡ i.saved → s.pages.zero ≡ i.pages.zero → s.pages.pages ≡ i.pages.pages → IsSimulator s
full_simulator i s kept none serves job setup header text saved words pages =
    forked_simulator i s kept serves job (on_same_pages i.setup (Reach i.node) i.header.turns i.pages s.pages words pages (full_stands i kept none)) setup header text saved
