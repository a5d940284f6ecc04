-- One worker's state from call to call.
use Rattle.std.proofs.Common.{◌≡◌, ℕ, suc, ◌+◌, ◌*◌, ◌<◌, ◌≤◌, ◌&&◌, Bool, true, false, not, if◌then◌else◌, List, [], ◌∷◌, ◌++◌, length, Option, Some, None, is_some, option_map, refl, sym, ap, ◌∙◌, arith, subst, sum_by, length-append}
use Rattle.std.specs.List.{filter}
use Rattle.std.proofs.lemmas.Bool.{eqb-true, false≢true, or_left, or_right, and_parts}
use Rattle.vf_base.specs.Count.{Count}
use Rattle.vf_base.specs.declared.names.Job.{Job}
use Rattle.vf_base.specs.declared.names.Job.TheVariants.{Reach, Finish}
use Rattle.vf_base.specs.declared.names.NodeNo.{NodeNo}
use Rattle.vf_base.specs.declared.run.Ending.{Ending}
use Rattle.vf_base.specs.declared.run.Header.{Header}
use Rattle.vf_machine.specs.Run.{is_ending}
use Rattle.vf_machine.proofs.CallerLemmas.{counts_once}
use Rattle.vf_design.specs.Words.{machine_of}
use Rattle.vf_frames.specs.declared.holder.Name.{Name}
use Rattle.vf_frames.specs.declared.holder.Holder.{Holder}
use Rattle.vf_frames.specs.Numbers.{has}
use Rattle.vf_frames.specs.Holders.{Accounts, Keeps, total}
use Rattle.vf_frames.proofs.CallerLemmas.{accounts-swap}
use Rattle.vf_pages.specs.Needs.{frames_held}
use Rattle.vf_plan.specs.declared.plan.Node.{Node}
use Rattle.vf_jobs.specs.Jobs as jobs
use Rattle.vf_jobs.specs.Jobs.{node_of}
use Rattle.vf_jobs.specs.Setup.{Conditions}
use Rattle.vf_journal.specs.declared.entry.Entry.{Entry}
use Rattle.vf_journal.specs.declared.entry.Entry.TheVariants.{Start, Saved, Pass, End, Pages, Copy, Lost, Short, Evict, Retire, Rest}
use Rattle.vf_journal.specs.Farm.{Farm}
use Rattle.vf_journal.specs.Records.{Held, Attempt, Records, Stage, idle, running, deferred, over, at_first, image_of, is_idle, is_job, is_known, is_over, is_ready, is_running, same_job}
use Rattle.vf_journal.specs.Effects.{IsAlone, IsRunning, after, started_from, consequences}
use Rattle.vf_journal.specs.Holding.{NoneRuns, ended_job, jobs_left}
use Rattle.vf_journal.specs.Journal.{ordered, replay, turns_from, turns_since, closed_turns, first_ready, next_evicted, pages_in, is_ended_by, IsTight, IsTightAt}
use Rattle.vf_journal.proofs.CallerLemmas.{turns_add_up_lem, none_runs_after, none_runs_still, alone_started, left_falls, evicted_is, evict_falls, pages_later, pages_at_end, endings_stand, pages_closed, tight_nil, tight_later, tight_started, tight_evicted, tight_closed, tight_unstarted}
use Rattle.vf_records.specs.declared.next.Next.TheVariants as nexts
use Rattle.vf_records.specs.Account.{Account, IsAccount, farm_of, solo_of, records_in, records_after, next_of, is_left, next_job_of}
use Rattle.vf_records.proofs.CallerLemmas.{done_over, never_later}
use Rattle.vf_image.specs.Runs.{stimulus_of, limits_for, moment_in}
use Rattle.vf_image.specs.Simulators.{Simulator, IsSimulator}
use Rattle.vf_image.specs.Standing.{IsAtSave, IsPassing, IsEnding, IsOver}
use Rattle.vf_run.specs.declared.stop.Stop.{Stop}
use Rattle.vf_run.specs.declared.stop.Stop.TheVariants as stops
use Rattle.vf_run.specs.Stops.{FellShort, Stops}
use Rattle.vf_book.specs.Book.{BookView, holders, IsBook, Serves, IsOf, HandKept, HandLent, Appends, Evicts}
use Rattle.vf_book.specs.Attempts.{IsOpen, Starts}
use Rattle.vf_here.specs.Work.{IsIdle, IsAtWork, IsClosing, IsTightSoFar, none_started, one_at, turns_in, left_in, Ends}
use Rattle.vf_here.specs.Finished.{AreAllOver, HasRun}
use Rattle.vf_here.proofs.PoolLemmas.{keeps_now, keeps_sim, keeps_images, no_frames, images_framed, parts_left, none_of}

-- ---- a job is over

-- with an entry by which a job is over no image is evicted
tight_there : {S : Type 0} (f : Farm S) (at : Job → ℕ) (r : Records) (e : Entry) (job : Job) (more : List Entry) → ended_job e ≡ Some job → IsTightAt f at r e more
tight_there f at r (Evict node) job more is = cc
tight_there f at r (Start other origin) job more is = tt
tight_there f at r (Saved node turn pages base) job more is = tt
tight_there f at r (Pass node turn) job more is = tt
tight_there f at r (End other turn) job more is = tt
tight_there f at r (Pages other turn pages) job more is = tt
tight_there f at r (Copy other node) job more is = tt
tight_there f at r (Lost other turn) job more is = tt
tight_there f at r (Short other turn) job more is = tt
tight_there f at r (Retire node) job more is = tt
tight_there f at r Rest job more is = tt

-- `pages`: the attempt has touched no more pages one turn later than the entry tells
pub idle_closed : (pool pool' : Name) (n n' : Option (List ℕ)) (b b' : BookView) (h h' : Holder) (s : Simulator) (e : Entry) (turns : ℕ) → IsAtWork pool n b h s → Ends e s.job turns b.account b'.account
    → pages_in (farm_of b.account.setup) s.job (s.header.turns + 1) ≤ pages_in (farm_of b.account.setup) s.job (if is_ended_by e then turns else turns + 1)
    → Serves pool' b' h' → HandKept h h' → Keeps n (h ∷ s.pages.holder ∷ holders b.images) n' (h' ∷ holders b'.images) → IsIdle pool' n' b' h'
idle_closed pool pool' n n' b b' h h' s e turns work ends pages serves hand kept =
    let f = farm_of b.account.setup in
    let r = records_in b.account in
    let told = pages_closed f none_started s.job e turns ends.closing in
    record {
      serves = serves;
      accounts = keeps_now n n' (h ∷ s.pages.holder ∷ holders b.images) (h' ∷ holders b'.images) kept work.accounts;
      free = λ g. hand.frames g ∙ work.free g;
      none = subst NoneRuns (sym ends.appends.records) (none_runs_after f (solo_of b.account.setup) r e s.job work.alone ends.ended);
      tight =
          subst (λ (x : Account). IsTightSoFar x none_started) (sym ends.appends.account)
          (tight_closed f at_first r b.account.journal s.job s.header.turns e turns work.tight refl ends.closing (omega (arith, told, pages))
          (tight_there f none_started r e s.job (consequences f (solo_of b.account.setup) r e) ends.ended));
    }

module _ (a b : Account) (s : Simulator) (runs : IsOpen a s) where
  pub ends_save : (pages : ℕ) (base : Option NodeNo) → IsAtSave s (record { 0 = node_of s.job }) → Appends (Saved (record { 0 = node_of s.job }) s.header.turns pages base) a b
      → Ends (Saved (record { 0 = node_of s.job }) s.header.turns pages base) s.job s.header.turns a b
  ends_save pages base at made = record {
    guard = (runs.attempt, ap (records_in a).stages (sym at.job) ∙ runs.runs);
    ended = ap (λ (j : Job). Some j) (sym at.job);
    closing = ap (λ (j : Job). Some (record { job = j; turn = s.header.turns })) (sym at.job);
    appends = made;
  }

  pub ends_pass : IsPassing s (record { 0 = node_of s.job }) → Appends (Pass (record { 0 = node_of s.job }) s.header.turns) a b
      → Ends (Pass (record { 0 = node_of s.job }) s.header.turns) s.job s.header.turns a b
  ends_pass at made = record {
    guard = (runs.attempt, ap (records_in a).stages (sym at.job) ∙ runs.runs);
    ended = ap (λ (j : Job). Some j) (sym at.job);
    closing = ap (λ (j : Job). Some (record { job = j; turn = s.header.turns })) (sym at.job);
    appends = made;
  }

  pub ends_end : (turns : ℕ) → Appends (End s.job turns) a b → Ends (End s.job turns) s.job turns a b
  ends_end turns made = record { guard = (runs.attempt, runs.runs); ended = refl; closing = refl; appends = made }

  pub ends_lost : Appends (Lost s.job s.header.turns) a b → Ends (Lost s.job s.header.turns) s.job s.header.turns a b
  ends_lost made = record {
    guard = or_left (is_running ((records_in a).stages s.job)) (is_ready (farm_of a.setup) (records_in a) s.job) (ap is_running runs.runs);
    ended = refl;
    closing = refl;
    appends = made;
  }

  pub ends_pages : (pages : ℕ) → IsAlone (records_in a) s.job → (records_in a).held ≡ [] → Appends (Pages s.job s.header.turns pages) a b
      → Ends (Pages s.job s.header.turns pages) s.job s.header.turns a b
  ends_pages pages alone none made = record { guard = (alone, none); ended = refl; closing = refl; appends = made }

-- an ending touches no page, and counts no fewer turns
pub ended_pages : (c : Conditions) (s : Simulator) (ending : Ending) (turns : ℕ) → s.setup ≡ c → IsSimulator s → IsEnding s ending turns
    → pages_in (farm_of c) s.job (s.header.turns + 1) ≤ pages_in (farm_of c) s.job turns
ended_pages c s ending turns is sim at =
    let f = farm_of s.setup in
    let m = machine_of s.setup.design in
    let k = s.header.turns in
    let same = pages_at_end f s.job k (endings_stand m) (ap is_ending at.ends) in
    let once = (counts_once m (stimulus_of s.setup s.job) (limits_for s.setup s.job) (moment_in s.setup s.job k)).0 in
    let here = ap (λ (h : Header). h.turns) sim.at.run.counts in
    let counts = at.counts in
    let grows = pages_later f s.job k turns (omega (arith, once, here, counts)) in
    let next = ap (pages_in f s.job) (let e : k + 1 ≡ suc k = omega arith in e) in
    subst (λ (x : Conditions). pages_in (farm_of x) s.job (k + 1) ≤ pages_in (farm_of x) s.job turns) is (omega (arith, same, grows, next))

pub ending_counts : (s : Simulator) (ending : Ending) (turns : ℕ) → IsSimulator s → IsEnding s ending turns → s.header.turns ≤ turns
ending_counts s ending turns sim at =
    let here = ap (λ (h : Header). h.turns) sim.at.run.counts in
    let once = counts_once (machine_of s.setup.design) (stimulus_of s.setup s.job) (limits_for s.setup s.job) (moment_in s.setup s.job s.header.turns) in
    let counts = at.counts in
    omega (arith, here, once.0, counts)

-- ---- a job the less is left, and the turns are those of its attempt more

module _ (a b : Account) (j : Job) (turn : ℕ) (kept : IsAccount a) (e : Entry) (ends : Ends e j turn a b) where
  pub ends_setup : b.setup ≡ a.setup
  ends_setup = ap (λ (x : Account). x.setup) ends.appends.account

  fewer_left : is_job a.setup.plan j ≡ true → is_over ((records_in a).stages j) ≡ false → left_in b < left_in a
  fewer_left planned left =
      let falls = left_falls (farm_of a.setup) (solo_of a.setup) (records_in a) e j ends.guard ends.ended planned left in
      let same : left_in b ≡ jobs_left (farm_of a.setup) (records_after e a) =
      ap (λ (c : Conditions). jobs_left (farm_of c) (records_in b)) ends_setup ∙ ap (λ (r : Records). jobs_left (farm_of a.setup) r) ends.appends.records in
      omega (arith, falls, same)

  turns_more : turns_in b ≡ turns_in a + turns_since ((records_in a).stages j) turn
  turns_more =
      let sum = turns_add_up_lem (farm_of a.setup) ordered a.journal (records_in a) e kept.journal in
      ap (λ (x : Account). turns_in x) ends.appends.account ∙ sum ∙ ap (λ o. turns_in a + closed_turns (records_in a) o) ends.closing

-- the job of an attempt
module _ (a b : Account) (s : Simulator) (turn : ℕ) (kept : IsAccount a) (runs : IsOpen a s) (e : Entry) (ends : Ends e s.job turn a b) where
  pub attempt_left : left_in b < left_in a
  attempt_left = fewer_left a b s.job turn kept e ends (kept.images.planned s.job runs.attempt runs.runs) (ap is_over runs.runs)

  pub attempt_turns : (attempt : Attempt) → IsRunning (records_in a) s.job attempt → attempt.since ≤ turn → turns_in b + attempt.since ≡ turns_in a + turn
  attempt_turns attempt is most =
      let more = turns_more a b s.job turn kept e ends in
      let since = ap (λ (st : Stage). turns_since st turn) is in
      omega (arith, more, since, most)

pub since_is : (r : Records) (j : Job) (x y : Attempt) → IsRunning r j x → IsRunning r j y → x.since ≡ y.since
since_is r j x y p q = let same : running x ≡ running y = sym p ∙ q in let is : x ≡ y = cc in ap (λ (z : Attempt). z.since) is

-- ---- an image is given back, and the attempt goes on

module _ (a b : Account) (kept : IsAccount a) (evicts : Evicts a b) where
  gone_by : (found : Option Held) → next_evicted (farm_of a.setup) (records_in a) ≡ found → option_map (λ (h : Held). h.node) found ≡ Some evicts.node
      → length (after (farm_of a.setup) (solo_of a.setup) (records_in a) (Evict evicts.node)).held < length (records_in a).held
  gone_by None e is = cc
  gone_by (Some h) e is =
      let node : h.node ≡ evicts.node = cc in
      let found = (evicted_is (farm_of a.setup) (records_in a) h kept.images e).0 in
      evict_falls (farm_of a.setup) (solo_of a.setup) (records_in a) evicts.node
      (ap is_some (ap (λ (n : NodeNo). image_of (records_in a) n) (sym node) ∙ found))

  pub evicts_less : length (records_in b).held < length (records_in a).held
  evicts_less =
      let less = gone_by (next_evicted (farm_of a.setup) (records_in a)) refl evicts.chosen in
      let is = ap (λ (r : Records). length r.held) evicts.entry.records in
      omega (arith, less, is)

  pub evicts_stages : (j : Job) → (records_in b).stages j ≡ (records_in a).stages j
  evicts_stages j = ap (λ (r : Records). r.stages j) evicts.entry.records

  pub evicts_setup : b.setup ≡ a.setup
  evicts_setup = ap (λ (x : Account). x.setup) evicts.entry.account

  pub evicts_left : left_in b ≡ left_in a
  evicts_left =
      ap (λ (c : Conditions). jobs_left (farm_of c) (records_in b)) evicts_setup ∙ ap (λ (r : Records). jobs_left (farm_of a.setup) r) evicts.entry.records

  pub evicts_turns : turns_in b ≡ turns_in a
  evicts_turns =
      let sum = turns_add_up_lem (farm_of a.setup) ordered a.journal (records_in a) (Evict evicts.node) kept.journal in
      let is = ap (λ (x : Account). turns_in x) evicts.entry.account in
      omega (arith, sum, is)

  alone_still : (j : Job) → IsAlone (records_in a) j → IsAlone (records_in b) j
  alone_still j alone = record {
    attempt = alone.attempt;
    runs = evicts_stages j ∙ alone.runs;
    only = λ k h. alone.only k (ap is_running (sym (evicts_stages k)) ∙ h);
  }

  tight_still : (j : Job) (turns : ℕ) → IsTightSoFar a (one_at j turns) → IsAlone (records_in a) j → a.setup.budget < sum_by (λ (h : Held). h.pages) (records_in a).held + pages_in (farm_of a.setup) j (turns + 1)
      → IsTightSoFar b (one_at j turns)
  tight_still j turns tight alone full =
      subst (λ (x : Account). IsTightSoFar x (one_at j turns)) (sym evicts.entry.account)
      (tight_evicted (farm_of a.setup) at_first (records_in a) a.journal j turns evicts.node tight refl alone full)

-- `full`: the next turn would pass the budget with the images that are held
pub work_evicted : (pool pool' : Name) (n n' : Option (List ℕ)) (b b' : BookView) (h h' : Holder) (s s' : Simulator) → IsAccount b.account → IsAtWork pool n b h s → Evicts b.account b'.account
    → b.account.setup.budget < sum_by (λ (x : Held). x.pages) (records_in b.account).held + pages_in (farm_of b.account.setup) s.job (s.header.turns + 1) → pool' ≡ pool
    → Serves pool' b' h' → HandKept h h' → Keeps n (h ∷ holders b.images) n' (h' ∷ holders b'.images) → IsOpen b'.account s' → s' ≡ record s { short = false } → IsAtWork pool' n' b' h' s'
work_evicted pool pool' n n' b b' h h' s s' kept work evicts full name serves hand keeps runs is = record {
  serves = serves;
  sim = subst (λ (x : Simulator). IsOf pool' x.pages.holder) (sym is) (record { name = work.sim.name ∙ sym name; parts = work.sim.parts });
  accounts = subst (λ (x : Simulator). Accounts n' (h' ∷ x.pages.holder ∷ holders b'.images)) (sym is) (keeps_images n n' h h' s.pages.holder (holders b.images) (holders b'.images) keeps work.accounts);
  free = λ f. hand.frames f ∙ work.free f;
  attempt = runs;
  alone = subst (λ (x : Simulator). IsAlone (records_in b'.account) x.job) (sym is) (alone_still b.account b'.account kept evicts s.job work.alone);
  tight =
      subst (λ (x : Simulator). IsTightSoFar b'.account (one_at x.job x.header.turns)) (sym is)
      (tight_still b.account b'.account kept evicts s.job s.header.turns work.tight work.alone full);
}

-- no image was held, and all is as it was
pub work_kept : (pool pool' : Name) (n n' : Option (List ℕ)) (b b' : BookView) (h h' : Holder) (s s' : Simulator) → IsAtWork pool n b h s → b' ≡ b → s' ≡ s → pool' ≡ pool
    → Serves pool' b' h' → HandKept h h' → Keeps n (h ∷ holders b.images) n' (h' ∷ holders b'.images) → IsOpen b'.account s' → IsAtWork pool' n' b' h' s'
work_kept pool pool' n n' b b' h h' s s' work book sim name serves hand keeps runs = record {
  serves = serves;
  sim = subst (λ (x : Simulator). IsOf pool' x.pages.holder) (sym sim) (record { name = work.sim.name ∙ sym name; parts = work.sim.parts });
  accounts = subst (λ (x : Simulator). Accounts n' (h' ∷ x.pages.holder ∷ holders b'.images)) (sym sim) (keeps_images n n' h h' s.pages.holder (holders b.images) (holders b'.images) keeps work.accounts);
  free = λ f. hand.frames f ∙ work.free f;
  attempt = runs;
  alone = subst (λ (x : Simulator). IsAlone (records_in b'.account) x.job) (sym sim) (subst (λ (x : BookView). IsAlone (records_in x.account) s.job) (sym book) work.alone);
  tight =
      subst (λ (x : Simulator). IsTightSoFar b'.account (one_at x.job x.header.turns)) (sym sim)
      (subst (λ (x : BookView). IsTightSoFar x.account (one_at s.job s.header.turns)) (sym book) work.tight);
}

-- ---- turns are made

pub work_run : (pool pool' : Name) (n n' : Option (List ℕ)) (b : BookView) (h : Holder) (s s' : Simulator) → IsAtWork pool n b h s → pool' ≡ pool → s'.setup ≡ s.setup → s'.job ≡ s.job → s.header.turns ≤ s'.header.turns
    → s'.pages.holder.name ≡ s.pages.holder.name → s'.pages.holder.parts ≡ s.pages.holder.parts → Keeps n (s.pages.holder ∷ []) n' (s'.pages.holder ∷ []) → IsAtWork pool' n' b h s'
work_run pool pool' n n' b h s s' work name setup job turns same parts keeps = record {
  serves = subst (λ p. Serves p b h) (sym name) work.serves;
  sim = record { name = same ∙ work.sim.name ∙ sym name; parts = parts ∙ work.sim.parts };
  accounts = keeps_sim n n' h s.pages.holder s'.pages.holder (holders b.images) keeps work.accounts;
  free = work.free;
  attempt = record {
    setup = setup ∙ work.attempt.setup;
    attempt = work.attempt.attempt;
    runs = ap (records_in b.account).stages job ∙ work.attempt.runs;
    since = let since = work.attempt.since in omega (arith, since, turns);
  };
  alone = subst (IsAlone (records_in b.account)) (sym job) work.alone;
  tight =
      subst (λ (j : Job). IsTightSoFar b.account (one_at j s'.header.turns)) (sym job)
      (tight_later (farm_of b.account.setup) at_first b.account.journal s.job s.header.turns s'.header.turns turns work.tight);
}

-- a run that has stopped, but not for a lack of frames
pub closing_stop : (numbers : Option (List ℕ)) (first : Holder) (s : Simulator) (stop : Stop) → ((pages : ℕ) → stop ≡ stops.Short pages → ⊥) → Stops numbers first s stop → IsClosing s stop
closing_stop numbers first s (stops.AtSave kind) long at =
    (subst (IsAtSave s) (ap (λ (j : Job). record { 0 = node_of j }) (sym at.1.job)) at.1, at.2)
closing_stop numbers first s stops.ReadPast long at = subst (IsPassing s) (ap (λ (j : Job). record { 0 = node_of j }) (sym at.1.job)) at.1
closing_stop numbers first s (stops.Ended ending turns) long at = at
closing_stop numbers first s (stops.Short pages) long at = absurd (long pages refl)
closing_stop numbers first s stops.Memory long at = tt

-- ---- a frame is lacking

module _ (pool : Name) (n : Option (List ℕ)) (b : BookView) (h : Holder) (s s' : Simulator) (pages : ℕ) (work : IsAtWork pool n b h s) (fell : FellShort pages n s.pages.holder s') (setup : s'.setup ≡ s.setup) where
  -- the pages of the run with its next turn, and the frames of the images, are more than the budget
  beyond : b.account.setup.budget < pages + total frames_held (holders b.images)
  beyond =
      let short = (fell.among (h ∷ holders b.images) (accounts-swap n h s.pages.holder (holders b.images) work.accounts)).beyond in
      let frames = ap (λ (x : Name). x.frames) (fell.kept.rest.name ∙ work.sim.name) in
      let budget = work.serves.frames in
      let hand = no_frames h.frames work.free in
      omega (arith, short, frames, budget, hand)

  -- so where no image is held, the run passes the budget
  pub over_budget : holders b.images ≡ [] → IsOver s' pages
  over_budget none =
      let lack = beyond in
      let budget = ap (λ (c : Conditions). c.budget) (setup ∙ work.attempt.setup) in
      let images = ap (total frames_held) none in
      record { needs = fell.needs; beyond = omega (arith, lack, budget, images) }

  -- and where some are, there was no room for all of them
  pub full_with : IsBook b → b.account.setup.budget < sum_by (λ (x : Held). x.pages) (records_in b.account).held + pages_in (farm_of b.account.setup) s'.job (s'.header.turns + 1)
  full_with book =
      let lack = beyond in
      let few = images_framed b book in
      let touched = fell.needs.pages in
      let next = ap (pages_in (farm_of s'.setup) s'.job) (let e : s'.header.turns + 1 ≡ suc s'.header.turns = omega arith in e) in
      let same = ap (λ (c : Conditions). pages_in (farm_of c) s'.job (s'.header.turns + 1)) (setup ∙ work.attempt.setup) in
      omega (arith, lack, few, touched, next, same)

-- ---- a job starts, or is lost before it starts

pub parts_enough : (pool : Name) (n : Option (List ℕ)) (b : BookView) (h : Holder) → IsIdle pool n b h → IsBook b → IsAccount b.account → 2 ≤ h.parts
parts_enough pool n b h rest book kept =
    let all = parts_left pool n h b.images rest.serves.images rest.accounts in
    let nodes = kept.setup.plan.most in
    let long = book.long in
    omega (arith, all, nodes, long)

pub work_started : (pool pool' : Name) (n n' : Option (List ℕ)) (b b' : BookView) (h h' : Holder) (s : Simulator) (job : Job) → IsIdle pool n b h → Starts job b b' s → HandLent pool' h h' s.pages.holder → Serves pool' b' h'
    → Keeps n (h ∷ holders b.images) n' (h' ∷ s.pages.holder ∷ holders b'.images) → IsAtWork pool' n' b' h' s
work_started pool pool' n n' b b' h h' s job rest starts lent serves keeps = record {
  serves = serves;
  sim = lent.new;
  accounts = keeps_now n n' (h ∷ holders b.images) (h' ∷ s.pages.holder ∷ holders b'.images) keeps rest.accounts;
  free = λ f. ap (λ xs. has f xs) lent.frames ∙ rest.free f;
  attempt = starts.attempt;
  alone = subst (IsAlone (records_in b'.account)) (sym starts.runs)
      (subst (λ (r : Records). IsAlone r job) (sym starts.entry.records)
      (alone_started (farm_of b.account.setup) (solo_of b.account.setup) (records_in b.account) job starts.origin rest.none));
  tight = subst (λ (j : Job). IsTightSoFar b'.account (one_at j s.header.turns)) (sym starts.runs)
      (subst (λ (x : Account). IsTightSoFar x (one_at job s.header.turns)) (sym starts.entry.account)
      (tight_started (farm_of b.account.setup) at_first (records_in b.account) b.account.journal job starts.origin s.header.turns rest.tight refl));
}

-- where the job could not be started, all is as it was
pub idle_same : (pool pool' : Name) (n n' : Option (List ℕ)) (b b' : BookView) (h h' : Holder) → IsIdle pool n b h → b' ≡ b → h' ≡ h → Serves pool' b' h'
    → Keeps n (h ∷ holders b.images) n' (h' ∷ holders b'.images) → IsIdle pool' n' b' h'
idle_same pool pool' n n' b b' h h' rest book hand serves keeps = record {
  serves = serves;
  accounts = keeps_now n n' (h ∷ holders b.images) (h' ∷ holders b'.images) keeps rest.accounts;
  free = λ f. ap (λ (x : Holder). has f x.frames) hand ∙ rest.free f;
  none = subst (λ (x : BookView). NoneRuns (records_in x.account)) (sym book) rest.none;
  tight = subst (λ (x : BookView). IsTightSoFar x.account none_started) (sym book) rest.tight;
}

pub started_turns : (a b : Account) (job : Job) (origin : Option NodeNo) → IsAccount a → Appends (Start job origin) a b → turns_in b ≡ turns_in a
started_turns a b job origin kept made =
    let sum = turns_add_up_lem (farm_of a.setup) ordered a.journal (records_in a) (Start job origin) kept.journal in
    let is = ap (λ (x : Account). turns_in x) made.account in
    omega (arith, sum, is)

idle_left : (st : Stage) → is_idle st ≡ true → is_over st ≡ false
idle_left idle e = refl
idle_left (running attempt) e = absurd (false≢true e)
idle_left deferred e = refl
idle_left (over tells) e = absurd (false≢true e)

-- a ready job has not started
ready_idle : (a : Account) (job : Job) → is_ready (farm_of a.setup) (records_in a) job ≡ true → is_idle ((records_in a).stages job) ≡ true
ready_idle a job ready =
    (and_parts (is_idle ((records_in a).stages job)) (jobs.is_ready a.setup.plan (λ n. is_known ((records_in a).kinds n)) job)
    (and_parts (is_job a.setup.plan job) (is_idle ((records_in a).stages job) && jobs.is_ready a.setup.plan (λ n. is_known ((records_in a).kinds n)) job) ready).1).0

-- a job that starts is left as it was
stays_left : (a b : Account) (job : Job) (origin : Option NodeNo) → Appends (Start job origin) a b → is_idle ((records_in a).stages job) ≡ true → (j : Job) → is_over ((records_in b).stages j) ≡ is_over ((records_in a).stages j)
stays_left a b job origin made ready j = ap (λ (r : Records). is_over (r.stages j)) made.records ∙ by (same_job j job) refl
  where
    same_is : (x y : Job) → same_job x y ≡ true → x ≡ y
    same_is (Reach m) (Reach n) e = ap (λ k. Reach (record { 0 = k })) (eqb-true m.0 n.0 e)
    same_is (Reach m) (Finish n) e = absurd (false≢true e)
    same_is (Finish m) (Reach n) e = absurd (false≢true e)
    same_is (Finish m) (Finish n) e = ap (λ k. Finish (record { 0 = k })) (eqb-true m.0 n.0 e)

    by : (t : Bool) → same_job j job ≡ t → is_over (if t then running (started_from (records_in a) origin) else (records_in a).stages j) ≡ is_over ((records_in a).stages j)
    by true e = sym (ap (λ k. is_over ((records_in a).stages k)) (same_is j job e) ∙ idle_left ((records_in a).stages job) ready)
    by false e = refl

filter_same : (p q : Job → Bool) (xs : List Job) → ((x : Job) → p x ≡ q x) → filter p xs ≡ filter q xs
filter_same p q [] same = refl
filter_same p q (x ∷ xs) same = ap (λ ys. if p x then x ∷ ys else ys) (filter_same p q xs same) ∙ ap (λ t. if t then x ∷ filter q xs else filter q xs) (same x)

pub started_left : (a b : Account) (job : Job) (origin : Option NodeNo) → Appends (Start job origin) a b → is_ready (farm_of a.setup) (records_in a) job ≡ true → left_in b ≡ left_in a
started_left a b job origin made ready =
    ap (λ (c : Conditions). jobs_left (farm_of c) (records_in b)) (ap (λ (x : Account). x.setup) made.account)
    ∙ ap (λ (xs : List Job). length xs)
    (filter_same (λ j. not (is_over ((records_in b).stages j))) (λ j. not (is_over ((records_in a).stages j))) (jobs.jobs a.setup.plan) (λ j. ap not (stays_left a b job origin made (ready_idle a job ready) j)))

pub idle_lost : (pool pool' : Name) (n n' : Option (List ℕ)) (b b' : BookView) (h h' : Holder) (job : Job) → IsIdle pool n b h → Appends (Lost job 0) b.account b'.account → Serves pool' b' h' → HandKept h h'
    → Keeps n (h ∷ holders b.images) n' (h' ∷ holders b'.images) → IsIdle pool' n' b' h'
idle_lost pool pool' n n' b b' h h' job rest made serves hand kept = record {
  serves = serves;
  accounts = keeps_now n n' (h ∷ holders b.images) (h' ∷ holders b'.images) kept rest.accounts;
  free = λ f. hand.frames f ∙ rest.free f;
  none = subst NoneRuns (sym made.records) (none_runs_still (farm_of b.account.setup) (solo_of b.account.setup) (records_in b.account) (Lost job 0) job rest.none refl);
  tight = subst (λ (x : Account). IsTightSoFar x none_started) (sym made.account)
      (tight_unstarted (farm_of b.account.setup) at_first (records_in b.account) b.account.journal job rest.tight refl);
}

module _ (a b : Account) (job : Job) (kept : IsAccount a) (made : Appends (Lost job 0) a b) (ready : is_ready (farm_of a.setup) (records_in a) job ≡ true) where
  ends_ready : Ends (Lost job 0) job 0 a b
  ends_ready = record {
    guard = or_right (is_running ((records_in a).stages job)) (is_ready (farm_of a.setup) (records_in a) job) ready;
    ended = refl;
    closing = refl;
    appends = made;
  }

  pub lost_left : left_in b < left_in a
  lost_left =
      let planned = (and_parts (is_job a.setup.plan job) (is_idle ((records_in a).stages job) && jobs.is_ready a.setup.plan (λ n. is_known ((records_in a).kinds n)) job) ready).0 in
      fewer_left a b job 0 kept (Lost job 0) ends_ready planned (idle_left ((records_in a).stages job) (ready_idle a job ready))

  pub lost_turns : turns_in b ≡ turns_in a
  lost_turns =
      let more = turns_more a b job 0 kept (Lost job 0) ends_ready in
      let none = no_turns_yet ((records_in a).stages job) in
      omega (arith, more, none)
    where
      no_turns_yet : (st : Stage) → turns_since st 0 ≡ 0
      no_turns_yet idle = refl
      no_turns_yet (running attempt) = omega arith
      no_turns_yet deferred = refl
      no_turns_yet (over tells) = refl

-- a job, by its node
pub reach_is : (j : Job) (n : NodeNo) → j ≡ Reach n → j ≡ Reach (record { 0 = node_of j })
reach_is j n e = e ∙ ap (λ (k : Job). Reach (record { 0 = node_of k })) (sym e)

pub finish_is : (j : Job) (n : NodeNo) → j ≡ Finish n → j ≡ Finish (record { 0 = node_of j })
finish_is j n e = e ∙ ap (λ (k : Job). Finish (record { 0 = node_of k })) (sym e)

-- ---- at first

-- nothing has been done yet
abbrev pub begun : Conditions → Account
begun c = record { setup = c; journal = [] }

first_records : (c : Conditions) → records_in (begun c) ≡ at_first
unfolding replay
first_records c = refl

first_turns : (c : Conditions) → turns_in (begun c) ≡ 0
unfolding turns_from
first_turns c = refl

pub no_turns_first : (a : Account) (c : Conditions) → a ≡ begun c → turns_in a ≡ 0
no_turns_first a c is = ap (λ (x : Account). turns_in x) is ∙ first_turns c

pub idle_first : (pool : Name) (n : Option (List ℕ)) (b : BookView) (h : Holder) (c : Conditions) → b.account ≡ begun c → holders b.images ≡ [] → pool.frames ≡ c.budget → h.name ≡ pool → h.frames ≡ []
    → Accounts n (h ∷ []) → IsIdle pool n b h
idle_first pool n b h c is none frames name free accounts = record {
  serves = record { frames = frames ∙ ap (λ (x : Account). x.setup.budget) (sym is); hand = name; images = none_of pool b.images none };
  accounts = subst (λ xs. Accounts n (h ∷ xs)) (sym none) accounts;
  free = λ f. ap (has f) free;
  none = λ job. ap (λ (x : Account). is_running ((records_in x).stages job)) is ∙ ap (λ (r : Records). is_running (r.stages job)) (first_records c);
  tight = subst (λ (x : Account). IsTightSoFar x none_started) (sym is) (tight_nil (farm_of c) none_started at_first);
}

-- how many jobs a plan has at most
two_at_most : (b t : Bool) (x y : Job) → length ((if b then x ∷ [] else []) ++ (if t then y ∷ [] else [])) ≤ 2
two_at_most true true x y = omega arith
two_at_most true false x y = omega arith
two_at_most false true x y = omega arith
two_at_most false false x y = omega arith

few_jobs : (nodes : List Node) (n : ℕ) (more : List Node) → length (jobs.jobs_from nodes n more) ≤ 2 * length more
unfolding jobs.jobs_from
few_jobs nodes n [] = omega arith
few_jobs nodes n (node ∷ more) =
    let here = two_at_most (jobs.has_child nodes n) node.test (Reach (jobs.node_no n)) (Finish (jobs.node_no n)) in
    let rest = few_jobs nodes (n + 1) more in
    let sum = length-append (jobs.jobs_at nodes n node) (jobs.jobs_from nodes (n + 1) more) in
    omega (arith, here, rest, sum)

fewer : (p : Job → Bool) (xs : List Job) → length (filter p xs) ≤ length xs
fewer p [] = omega arith
fewer p (x ∷ xs) = by (p x) (fewer p xs)
  where
    by : (t : Bool) → length (filter p xs) ≤ length xs → length (if t then x ∷ filter p xs else filter p xs) ≤ suc (length xs)
    by true h = omega (arith, h)
    by false h = omega (arith, h)

pub few_left : (a : Account) → IsAccount a → left_in a ≤ 8192
few_left a kept =
    let some = fewer (λ j. not (is_over ((records_in a).stages j))) (jobs.jobs a.setup.plan) in
    let all = few_jobs a.setup.plan 0 a.setup.plan in
    let nodes = kept.setup.plan.most in
    omega (arith, some, all, nodes)

-- ---- in the end

next_or : (o : Option Job) (left : Bool) → ((job : Job) → next_of o left ≡ nexts.Job job → ⊥) → (next_of o left ≡ nexts.Later → ⊥) → next_of o left ≡ nexts.Done
next_or (Some job) left no_job later = absurd (no_job job refl)
next_or None true no_job later = absurd (later refl)
next_or None false no_job later = refl

-- where no job comes next and none runs, all are over
pub all_over : (a : Account) → IsAccount a → NoneRuns (records_in a) → ((job : Job) → next_job_of a ≡ nexts.Job job → ⊥) → AreAllOver a
all_over a kept none no_job job planned =
    done_over a job (next_or (first_ready (farm_of a.setup) (records_in a)) (is_left a.setup (records_in a)) no_job (never_later a kept none)) planned

-- the farm has run, from the beginning
pub has_run : (c : Conditions) (first a b : Account) (from to : Count) → first ≡ begun c → a.setup ≡ first.setup → b ≡ a → IsAccount a → AreAllOver a → IsTightSoFar a none_started
    → to.count + turns_in first ≡ from.count + turns_in a → HasRun c b from to
has_run c first a b from to begins setup same kept all_done tight made =
    let is : b.setup ≡ c = ap (λ (x : Account). x.setup) same ∙ setup ∙ ap (λ (x : Account). x.setup) begins in
    record {
      setup = is;
      account = subst IsAccount (sym same) kept;
      over = subst AreAllOver (sym same) all_done;
      tight = subst (λ (x : Conditions). IsTight (farm_of x) none_started at_first b.journal) is (subst (λ (x : Account). IsTightSoFar x none_started) (sym same) tight);
      turns =
          let none = no_turns_first first c begins in
          let all = ap (λ (x : Account). turns_in x) same in
          let here = ap (λ (x : Conditions). turns_from (farm_of x) at_first b.journal) is in
          omega (arith, made, none, all, here);
    }
