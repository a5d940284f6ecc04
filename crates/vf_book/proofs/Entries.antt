-- Which entries a lawful journal may have next, from where a simulator stands.
use Rattle.std.proofs.Common.{◌≡◌, ◌≢◌, ℕ, ◌≤◌, ◌&&◌, true, false, [], Option, Some, None, is_some, option_map, refl, sym, ◌∙◌, ap, ap₂, subst}
use Rattle.std.proofs.lemmas.Bool.{false≢true, or_left, or_right, and_parts}
use Rattle.vf_base.specs.declared.names.Job.{Job}
use Rattle.vf_base.specs.declared.names.Job.TheVariants.{Reach}
use Rattle.vf_base.specs.declared.names.NodeNo.{NodeNo}
use Rattle.vf_base.specs.declared.run.Ending.{Ending}
use Rattle.vf_base.specs.declared.run.Outcome.TheVariants as outcomes
use Rattle.vf_base.specs.declared.run.SaveKind.{SaveKind}
use Rattle.vf_jobs.specs.Jobs as jobs
use Rattle.vf_jobs.specs.Jobs.{node_of, fits}
use Rattle.vf_jobs.specs.Setup.{Conditions}
use Rattle.vf_jobs.specs.Subtree.{is_below}
use Rattle.vf_journal.specs.declared.entry.Entry.TheVariants.{Saved, Pass, End, Pages, Lost, Evict}
use Rattle.vf_journal.specs.Farm.{limits, point_in, own_pages}
use Rattle.vf_journal.specs.Records.{Held, Attempt, Stage, idle, running, deferred, over, Records, is_job, is_known, is_idle, is_running, is_ready, image_of, is_pinned}
use Rattle.vf_journal.specs.Effects.{IsRunning, IsAlone, origin_of}
use Rattle.vf_journal.specs.Journal.{IsGivenUp, SavesSolo, EndsSolo, PassesSolo, held_point, base_for, next_evicted, kind_of}
use Rattle.vf_journal.specs.Holding.{IsHeld, AreHeld}
use Rattle.vf_journal.proofs.CallerLemmas.{origin_serves, base_serves, evicted_is, turns_within}
use Rattle.vf_records.specs.Account.{Account, farm_of, solo_of, records_in, IsAccount, IsLawful}
use Rattle.vf_image.specs.Runs.{limits_for, moment_in, touched_in, IsSavedAt}
use Rattle.vf_image.specs.Images.{Checkpoint, IsImage, IsOwnCount, Serves, own_over}
use Rattle.vf_image.specs.Simulators.{Simulator, IsSimulator}
use Rattle.vf_image.specs.Standing.{IsAtSave, IsPassing, IsEnding, IsOver}
use Rattle.vf_book.specs.Attempts.{IsOpen, IsWithin}
use Rattle.vf_book.proofs.EntryRuns.{kind_at_save, kind_passing, outcome_ending, solo_ending, counts_ending, solo_over}

-- ---- a run that goes on below a checkpoint, and its end

running_by : (s : Stage) (a : Attempt) → s ≡ running a → is_running s ≡ true
running_by s a e = ap is_running e

-- the attempt at a job that reaches a node
reaches_by : (a : Account) (s : Simulator) (node : NodeNo) (opened : IsOpen a s) → s.job ≡ Reach node → IsRunning (records_in a) (Reach node) opened.attempt
reaches_by a s node opened e = subst (λ j. IsRunning (records_in a) j opened.attempt) e opened.runs

pub pass_lawful : (a : Account) (s : Simulator) (node : NodeNo) → IsOpen a s → IsSimulator s → IsWithin s → IsPassing s node → IsLawful a (Pass node s.header.turns)
pass_lawful a s node opened sim within at = record {
  guard = (opened.attempt, reaches_by a s node opened at.job);
  chosen = tt;
  solo = ap (λ (c : Conditions). kind_of (farm_of c) node) (sym opened.setup) ∙ kind_passing s node sim within at;
}

pub end_lawful : (a : Account) (s : Simulator) (ending : Ending) (turns : ℕ) → IsOpen a s → IsSimulator s → IsWithin s → IsEnding s ending turns → IsLawful a (End s.job turns)
end_lawful a s ending turns opened sim within at = record {
  guard = (opened.attempt, opened.runs);
  chosen = tt;
  solo = subst (λ (c : Conditions). EndsSolo (farm_of c) s.job turns) opened.setup (solo_ending s ending turns sim within at);
}

pub end_counts : (a : Account) (s : Simulator) (ending : Ending) (turns : ℕ) → IsOpen a s → IsSimulator s → IsEnding s ending turns
    → record { turns = turns; reads = s.header.reads; written = s.header.written } ≡ (solo_of a.setup).ending s.job
end_counts a s ending turns opened sim at = counts_ending s ending turns sim at ∙ ap (λ (c : Conditions). (solo_of c).ending s.job) opened.setup

pub end_outcome : (a : Account) (s : Simulator) (ending : Ending) (turns : ℕ) → IsOpen a s → IsSimulator s → IsWithin s → IsEnding s ending turns
    → outcomes.Done ending s.text turns ≡ (solo_of a.setup).outcome s.job
end_outcome a s ending turns opened sim within at =
    sym (outcome_ending s ending turns sim within at) ∙ ap (λ (c : Conditions). (solo_of c).outcome s.job) opened.setup

pub pages_lawful : (a : Account) (s : Simulator) (pages : ℕ) → IsOpen a s → IsSimulator s → IsWithin s → IsOver s pages → IsAlone (records_in a) s.job → (records_in a).held ≡ []
    → IsLawful a (Pages s.job s.header.turns pages)
pages_lawful a s pages opened sim within at alone none = record {
  guard = (alone, none);
  chosen = tt;
  solo = subst (λ (c : Conditions). PassesSolo (farm_of c) s.job s.header.turns pages) opened.setup (solo_over s pages sim within at);
}

-- ---- a job that is lost

pub lost_lawful : (a : Account) (s : Simulator) → IsOpen a s → IsSimulator s → IsLawful a (Lost s.job s.header.turns)
lost_lawful a s opened sim = record {
  guard = or_left (is_running ((records_in a).stages s.job)) (is_ready (farm_of a.setup) (records_in a) s.job) (running_by ((records_in a).stages s.job) opened.attempt opened.runs);
  chosen = tt;
  solo = subst (IsGivenUp (farm_of a.setup) s.job s.header.turns) (sym opened.runs)
      (opened.since, subst (λ (c : Conditions). s.header.turns ≤ (limits (farm_of c) s.job).turns) opened.setup (turns_within (farm_of s.setup) s.job s.header.turns sim.at.run.goes));
}

given_up_by : (a : Account) (job : Job) (s : Stage) → is_idle s ≡ true → IsGivenUp (farm_of a.setup) job 0 s
given_up_by a job idle h = refl
given_up_by a job (running attempt) h = absurd (false≢true h)
given_up_by a job deferred h = absurd (false≢true h)
given_up_by a job (over t) h = absurd (false≢true h)

pub lost_unstarted : (a : Account) (job : Job) → is_ready (farm_of a.setup) (records_in a) job ≡ true → IsLawful a (Lost job 0)
lost_unstarted a job ready =
    let r = records_in a in
    let parts = and_parts (is_job a.setup.plan job) (is_idle (r.stages job) && jobs.is_ready a.setup.plan (λ n. is_known (r.kinds n)) job) ready in
    let idle_now = (and_parts (is_idle (r.stages job)) (jobs.is_ready a.setup.plan (λ n. is_known (r.kinds n)) job) parts.1).0 in
    record {
      guard = or_right (is_running (r.stages job)) (is_ready (farm_of a.setup) r job) ready;
      chosen = tt;
      solo = given_up_by a job (r.stages job) idle_now;
    }

-- ---- an image that is evicted

evicted_by : (a : Account) (node : NodeNo) (found : Option Held) → AreHeld (farm_of a.setup) (records_in a) → next_evicted (farm_of a.setup) (records_in a) ≡ found
    → option_map (λ (h : Held). h.node) found ≡ Some node → (is_some (image_of (records_in a) node) ≡ true) × (is_pinned (records_in a) node ≡ false)
evicted_by a node None held e is = cc
evicted_by a node (Some h) held e is =
    let both = evicted_is (farm_of a.setup) (records_in a) h held e in
    let same : h.node ≡ node = cc in
    (ap (λ n. is_some (image_of (records_in a) n)) (sym same) ∙ ap is_some both.0, ap (is_pinned (records_in a)) (sym same) ∙ both.1)

pub evict_lawful : (a : Account) (node : NodeNo) → IsAccount a → option_map (λ (h : Held). h.node) (next_evicted (farm_of a.setup) (records_in a)) ≡ Some node → IsLawful a (Evict node)
evict_lawful a node kept chosen = record {
  guard = evicted_by a node (next_evicted (farm_of a.setup) (records_in a)) kept.images refl chosen;
  chosen = chosen;
  solo = tt;
}

-- ---- an image that is saved

-- an image's own pages, as it tells them and as the journal counts them
counted_by : (c : Conditions) (r : Records) (i : Checkpoint) (node : NodeNo) (base : Option NodeNo) (pages : ℕ) (found : Option Held) → i.setup ≡ c → i.node ≡ node
    → base ≡ option_map (λ (h : Held). h.node) found → IsOwnCount i base pages → ((h : Held) → found ≡ Some h → IsHeld (farm_of c) r h)
    → pages ≡ own_pages (farm_of c) (point_in (farm_of c) (Reach node) i.header.turns) (option_map (held_point (farm_of c)) found)
counted_by c r i node base pages None setup at is own held =
    let n : pages ≡ touched_in i.setup (Reach i.node) i.header.turns = subst (λ b. IsOwnCount i b pages) is own in
    n ∙ ap₂ (λ (c : Conditions) m. touched_in c (Reach m) i.header.turns) setup at
counted_by c r i node base pages (Some h) setup at is own held =
    let over_base : (since : ℕ) → IsSavedAt i.setup h.node since → pages ≡ own_over i.setup i.node h.node since i.header.turns = subst (λ b. IsOwnCount i b pages) is own in
    let at_save : IsSavedAt i.setup h.node h.turn = subst (λ (c : Conditions). IsSavedAt c h.node h.turn) (sym setup) (held h refl).at_save in
    over_base h.turn at_save ∙ ap₂ (λ (c : Conditions) m. own_over c m h.node h.turn i.header.turns) setup at

saves_solo : (a : Account) (s : Simulator) (node : NodeNo) (kind : SaveKind) (base : Option NodeNo) (pages : ℕ) (i : Checkpoint) → IsAccount a → (opened : IsOpen a s) → IsSimulator s → IsWithin s
    → IsAtSave s node → s.saved ≡ Some kind → base ≡ option_map (λ (h : Held). h.node) (base_for (records_in a) node kind)
    → i.setup ≡ s.setup → i.node ≡ node → i.header.turns ≡ s.header.turns → IsOwnCount i base pages
    → SavesSolo (farm_of a.setup) (records_in a) node s.header.turns pages base
saves_solo a s node kind base pages i kept opened sim within at asked is setup here turns own = record {
  save = kind;
  kind = ap (λ (c : Conditions). kind_of (farm_of c) node) (sym opened.setup) ∙ kind_at_save s node kind sim within at asked;
  based = is;
  counted =
      counted_by a.setup (records_in a) i node base pages (base_for (records_in a) node kind) (setup ∙ opened.setup) here is own
      (λ h e. (base_serves (farm_of a.setup) (records_in a) node opened.attempt kind h kept.images (reaches_by a s node opened at.job) e).0)
      ∙ ap (λ t. own_pages (farm_of a.setup) (point_in (farm_of a.setup) (Reach node) t) (option_map (held_point (farm_of a.setup)) (base_for (records_in a) node kind))) turns;
}

pub save_lawful : (a : Account) (s : Simulator) (node : NodeNo) (kind : SaveKind) (base : Option NodeNo) (pages : ℕ) (i : Checkpoint) → IsAccount a → IsOpen a s → IsSimulator s → IsWithin s
    → IsAtSave s node → s.saved ≡ Some kind → base ≡ option_map (λ (h : Held). h.node) (base_for (records_in a) node kind)
    → i.setup ≡ s.setup → i.node ≡ node → i.header.turns ≡ s.header.turns → IsOwnCount i base pages
    → IsLawful a (Saved node s.header.turns pages base)
save_lawful a s node kind base pages i kept opened sim within at asked is setup here turns own = record {
  guard = (opened.attempt, reaches_by a s node opened at.job);
  chosen = tt;
  solo = saves_solo a s node kind base pages i kept opened sim within at asked is setup here turns own;
}

pub save_counts : (a : Account) (s : Simulator) (node : NodeNo) (base : Option NodeNo) (pages : ℕ) → IsOpen a s → IsSimulator s → s.job ≡ Reach node
    → s.header ≡ (solo_of a.setup).counts (record { node = node; turn = s.header.turns; pages = pages; base = base })
save_counts a s node base pages opened sim e =
    sim.at.run.counts ∙ ap₂ (λ (c : Conditions) j. (moment_in c j s.header.turns).header) opened.setup e

-- ---- images that serve a job

-- the image that the records hold
pub record IsImageOf (c : Conditions) (i : Checkpoint) (h : Held) : Type 0 where
  pub image : IsImage i
  pub setup : i.setup ≡ c
  pub node : i.node ≡ h.node
  pub turn : i.header.turns ≡ h.turn

-- it has the counts of the run to its save point
pub image_counts : (c : Conditions) (i : Checkpoint) (h : Held) → IsImageOf c i h → i.header ≡ (solo_of c).counts h
image_counts c i h is =
    is.image.run.counts ∙ ap₂ (λ (c : Conditions) n. (moment_in c (Reach n) i.header.turns).header) is.setup is.node ∙ ap (λ t. (moment_in c (Reach h.node) t).header) is.turn

serves_by : (c : Conditions) (i : Checkpoint) (h : Held) (job : Job) → IsImageOf c i h → is_below c.plan h.node.0 (node_of job) ≡ true → fits (limits (farm_of c) job) ((solo_of c).counts h) ≡ true → Serves i job
serves_by c i h job is below fit = record {
  below = ap₂ (λ (c : Conditions) (n : NodeNo). is_below c.plan n.0 (node_of job)) is.setup is.node ∙ below;
  within = ap₂ (λ (c : Conditions) header. fits (limits_for c job) header) is.setup (image_counts c i h is) ∙ fit;
}

-- the image of a job's origin serves the job
pub origin_serves_job : (a : Account) (job : Job) (node : NodeNo) (i : Checkpoint) (h : Held) → origin_of (farm_of a.setup) (solo_of a.setup) (records_in a) job ≡ Some node
    → image_of (records_in a) node ≡ Some h → h.node ≡ node → IsImageOf a.setup i h → Serves i job
origin_serves_job a job node i h e found same is =
    let served = origin_serves (farm_of a.setup) (solo_of a.setup) (records_in a) job node e in
    let both : Some served.held ≡ Some h = sym served.found ∙ found in
    let one : served.held ≡ h = cc in
    serves_by a.setup i h job is (ap (λ (n : NodeNo). is_below a.setup.plan n.0 (node_of job)) same ∙ served.below)
    (ap (λ (x : Held). fits (limits (farm_of a.setup) job) ((solo_of a.setup).counts x)) (sym one) ∙ served.fit)

-- and so does the base of an image that is saved now
pub record ServesAsBase (i : Checkpoint) (s : Simulator) (h : Held) : Type 0 where
  pub full : h.base ≡ None
  pub serves : Serves i s.job
  pub proper : i.node.0 ≢ node_of s.job

pub base_serves_job : (a : Account) (s : Simulator) (node : NodeNo) (kind : SaveKind) (i : Checkpoint) (h : Held) → IsAccount a → (opened : IsOpen a s) → s.job ≡ Reach node
    → base_for (records_in a) node kind ≡ Some h → IsImageOf a.setup i h → ServesAsBase i s h
base_serves_job a s node kind i h kept opened e found is =
    let both = base_serves (farm_of a.setup) (records_in a) node opened.attempt kind h kept.images (reaches_by a s node opened e) found in
    let serves = both.1 in
    record {
      full = serves.full;
      serves = subst (Serves i) (sym e) (serves_by a.setup i h (Reach node) is serves.below serves.fit);
      proper = λ same. serves.proper node refl (ap (λ (n : NodeNo). n.0) (sym is.node) ∙ same ∙ ap node_of e);
    }
