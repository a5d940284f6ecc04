-- What a journal tells is what the solo runs tell; and where nothing is left to do, all is told.
use Rattle.std.proofs.Common.{◌≡◌, ℕ, ◌==◌, ◌&&◌, ◌||◌, Bool, true, false, not, if◌then◌else◌, List, [], ◌∷◌, ◌++◌, Option, Some, None, refl, sym, ◌∙◌, ap, subst, ⊎_elim, inl, inr, ◌⊎◌}
use Rattle.std.proofs.lemmas.Bool.{false≢true, and_parts, or_cases, not-true, eq-eqb}
use Rattle.vf_base.specs.declared.names.Job.{Job}
use Rattle.vf_base.specs.declared.names.Job.TheVariants.{Reach, Finish}
use Rattle.vf_base.specs.declared.names.NodeNo.{NodeNo}
use Rattle.vf_base.specs.declared.run.Outcome.{Outcome}
use Rattle.vf_plan.specs.Rules.{IsPlan}
use Rattle.vf_jobs.specs.Copies.{EndingIsCopied, PassingIsCopied}
use Rattle.vf_jobs.specs.Jobs as jobs
use Rattle.vf_jobs.specs.Jobs.{node_of, node_no, has_child, is_open}
use Rattle.vf_jobs.specs.Kinds as solo
use Rattle.vf_jobs.specs.Subtree.{is_below}
use Rattle.vf_journal.specs.declared.entry.Entry.{Entry}
use Rattle.vf_journal.specs.declared.entry.Entry.TheVariants.{Start, Saved, Pass, End, Pages, Copy, Lost, Short, Evict, Retire, Rest}
use Rattle.vf_journal.specs.declared.entry.Kind.{Kind}
use Rattle.vf_journal.specs.declared.entry.Kind.TheVariants as kinds
use Rattle.vf_journal.specs.declared.entry.Told.{Told}
use Rattle.vf_journal.specs.declared.entry.Told.TheVariants as told
use Rattle.vf_journal.specs.Farm.{Farm, limits}
use Rattle.vf_journal.specs.Records.{Held, Attempt, Stage, idle, running, deferred, over, Records, same_job, is_job, is_known, is_idle, is_running, is_over, is_ready, told_by, own_outcome, outcome_by}
use Rattle.vf_journal.specs.Effects.{Guard, Spread, with_over, with_copies, ready_again, is_copied, after}
use Rattle.vf_journal.specs.Journal.{IsJournal, Choice, begun, next, of_solo, IsOfSolo, ReachesKind, kind_of}
use Rattle.vf_journal.specs.Laws.{IsKind, TellsSolo}
use Rattle.vf_journal.proofs.JobLemmas.{same_node, same_job-true, is_job_of}

-- what is told of a job
abbrev pub ToldOk : {S : Type 0} → Farm S → Records → Job → Option Told → Type 0
ToldOk f r job None = Unit {0}
ToldOk f r job (Some (told.Own outcome)) = outcome ≡ (of_solo f).outcome job
ToldOk f r job (Some (told.Copied n)) =
    (r.stages (Reach n) ≡ over (Some (told.Own ((of_solo f).outcome (Reach n))))) × ((of_solo f).outcome (Reach n) ≡ (of_solo f).outcome job)
ToldOk f r job (Some told.Lost) = Unit {0}

pub record Kept {S : Type 0} (f : Farm S) (r : Records) : Type 0 where
  pub told : (job : Job) → ToldOk f r job (told_by (r.stages job))
  pub kinds : (n : NodeNo) → IsKind f n (r.kinds n.0)
  pub known : (n : NodeNo) → is_over (r.stages (Reach n)) ≡ true → is_known (r.kinds n.0) ≡ true
  pub finishes : (n : NodeNo) → r.stages (Finish n) ≡ over None → ⊥

told_stays : {S : Type 0} (f : Farm S) (r new : Records) → ((job : Job) (t : Option Told) → r.stages job ≡ over t → new.stages job ≡ over t)
    → (job : Job) (t : Option Told) → ToldOk f r job t → ToldOk f new job t
told_stays f r new stays job None h = tt
told_stays f r new stays job (Some (told.Own o)) h = h
told_stays f r new stays job (Some (told.Copied n)) h = (stays (Reach n) _ h.0, h.1)
told_stays f r new stays job (Some told.Lost) h = tt

not_over : (s : Stage) (t : Option Told) → s ≡ over t → is_over s ≡ false → ⊥
not_over s t e h = false≢true (sym h ∙ ap is_over e)

-- ---- a job is over

-- what a job's own end may tell
abbrev TellsOk : {S : Type 0} → Farm S → Job → Option Told → Type 0
TellsOk f (Reach n) None = Unit {0}
TellsOk f (Finish n) None = ⊥
TellsOk f job (Some (told.Own outcome)) = outcome ≡ (of_solo f).outcome job
TellsOk f job (Some (told.Copied n)) = ⊥
TellsOk f job (Some told.Lost) = Unit {0}

told_over : {S : Type 0} (f : Farm S) (new : Records) (job : Job) (tells : Option Told) → TellsOk f job tells → ToldOk f new job tells
told_over f new (Reach n) None h = tt
told_over f new (Finish n) None h = tt
told_over f new (Reach n) (Some (told.Own o)) h = h
told_over f new (Finish n) (Some (told.Own o)) h = h
told_over f new (Reach n) (Some (told.Copied m)) h = absurd h
told_over f new (Finish n) (Some (told.Copied m)) h = absurd h
told_over f new (Reach n) (Some told.Lost) h = tt
told_over f new (Finish n) (Some told.Lost) h = tt

module _ {S : Type 0} (f : Farm S) (tells : Option Told) (kind : Kind) (r : Records) (kept : Kept f r) (known : is_known kind ≡ true) where
  stays_by : (b : Bool) (job j : Job) (t : Option Told) → same_job j job ≡ b → is_over (r.stages job) ≡ false → r.stages j ≡ over t → (if b then over tells else r.stages j) ≡ over t
  stays_by false job j t e alive h = h
  stays_by true job j t e alive h = absurd (not_over (r.stages job) t (ap r.stages (sym (same_job-true j job e)) ∙ h) alive)

  told_by_step : (b : Bool) (new : Records) (job j : Job) → same_job j job ≡ b → TellsOk f job tells → ((i : Job) (t : Option Told) → r.stages i ≡ over t → new.stages i ≡ over t)
      → ToldOk f new j (told_by (if b then over tells else r.stages j))
  told_by_step false new job j e ok stays = told_stays f r new stays j (told_by (r.stages j)) (kept.told j)
  told_by_step true new job j e ok stays = subst (λ i. ToldOk f new i tells) (sym (same_job-true j job e)) (told_over f new job tells ok)

  kind_by : (b : Bool) (n m : NodeNo) → (n.0 == m.0) ≡ b → IsKind f m kind → IsKind f n (if b then kind else r.kinds n.0)
  kind_by false n m e h = kept.kinds n
  kind_by true n m e h = subst (λ i. IsKind f i kind) (sym (same_node n m e)) h

  known_by : (b : Bool) (n : NodeNo) → is_over (if b then over tells else r.stages (Reach n)) ≡ true → is_known (if b then kind else r.kinds n.0) ≡ true
  known_by false n h = kept.known n h
  known_by true n h = known

  finishes_by : (b : Bool) (n m : NodeNo) → (n.0 == m.0) ≡ b → TellsOk f (Finish m) tells → (if b then over tells else r.stages (Finish n)) ≡ over None → ⊥
  finishes_by false n m e ok h = kept.finishes n h
  finishes_by true n m e ok h = let none : tells ≡ None = cc in let wrong : TellsOk f (Finish m) None = subst (TellsOk f (Finish m)) none ok in wrong

  kept_over : (job : Job) → is_over (r.stages job) ≡ false → TellsOk f job tells → ((n : NodeNo) → job ≡ Reach n → IsKind f n kind) → Kept f (with_over job tells kind r)
  kept_over (Reach m) alive ok kinds =
      let stays = λ (j : Job) (t : Option Told) (h : r.stages j ≡ over t). stays_by (same_job j (Reach m)) (Reach m) j t refl alive h in
      record {
        told = λ j. told_by_step (same_job j (Reach m)) (with_over (Reach m) tells kind r) (Reach m) j refl ok stays;
        kinds = λ n. kind_by (n.0 == m.0) n m refl (kinds m refl);
        known = λ n h. known_by (n.0 == m.0) n h;
        finishes = kept.finishes;
      }
  kept_over (Finish m) alive ok kinds =
      let stays = λ (j : Job) (t : Option Told) (h : r.stages j ≡ over t). stays_by (same_job j (Finish m)) (Finish m) j t refl alive h in
      record {
        told = λ j. told_by_step (same_job j (Finish m)) (with_over (Finish m) tells kind r) (Finish m) j refl ok stays;
        kinds = kept.kinds;
        known = kept.known;
        finishes = λ n h. finishes_by (n.0 == m.0) n m refl ok h;
      }

-- ---- copies

pub record Copies {S : Type 0} (f : Farm S) (s : Spread) (job : Job) : Type 0 where
  pub outcome : (of_solo f).outcome (Reach s.node) ≡ (of_solo f).outcome job
  pub kind : (n : NodeNo) → job ≡ Reach n → IsKind f n s.kind

pub record Spreads {S : Type 0} (f : Farm S) (s : Spread) : Type 0 where
  pub known : is_known s.kind ≡ true
  pub copies : (job : Job) → is_job f.nodes job ≡ true → is_below f.nodes s.node.0 (node_of job) ≡ true → s.fits job ≡ true → Copies f s job

module _ {S : Type 0} (f : Farm S) (s : Spread) (r : Records) (kept : Kept f r) (own : r.stages (Reach s.node) ≡ over (Some (told.Own ((of_solo f).outcome (Reach s.node))))) (spreads : Spreads f s) where
  copied_alive : (job : Job) → is_copied f r s job ≡ true → is_over (r.stages job) ≡ false
  copied_alive job h =
      let a = and_parts (is_job f.nodes job) (is_below f.nodes s.node.0 (node_of job) && (not (is_over (r.stages job)) && s.fits job)) h in
      let b = and_parts (is_below f.nodes s.node.0 (node_of job)) (not (is_over (r.stages job)) && s.fits job) a.1 in
      let c = and_parts (not (is_over (r.stages job))) (s.fits job) b.1 in
      not-true (is_over (r.stages job)) c.0

  copied : (job : Job) → is_copied f r s job ≡ true → Copies f s job
  copied job h =
      let a = and_parts (is_job f.nodes job) (is_below f.nodes s.node.0 (node_of job) && (not (is_over (r.stages job)) && s.fits job)) h in
      let b = and_parts (is_below f.nodes s.node.0 (node_of job)) (not (is_over (r.stages job)) && s.fits job) a.1 in
      let c = and_parts (not (is_over (r.stages job))) (s.fits job) b.1 in
      spreads.copies job a.0 b.0 c.1

  copy_stays : (b : Bool) (job : Job) (t : Option Told) → is_copied f r s job ≡ b → r.stages job ≡ over t → (if b then over (Some (told.Copied s.node)) else r.stages job) ≡ over t
  copy_stays false job t e h = h
  copy_stays true job t e h = absurd (not_over (r.stages job) t h (copied_alive job e))

  copy_told : (b : Bool) (new : Records) (job : Job) → is_copied f r s job ≡ b → ((i : Job) (t : Option Told) → r.stages i ≡ over t → new.stages i ≡ over t)
      → ToldOk f new job (told_by (if b then over (Some (told.Copied s.node)) else r.stages job))
  copy_told false new job e stays = told_stays f r new stays job (told_by (r.stages job)) (kept.told job)
  copy_told true new job e stays = (stays (Reach s.node) _ own, (copied job e).outcome)

  copy_kind : (b : Bool) (n : NodeNo) → is_copied f r s (Reach n) ≡ b → IsKind f n (if b then s.kind else r.kinds n.0)
  copy_kind false n e = kept.kinds n
  copy_kind true n e = (copied (Reach n) e).kind n refl

  copy_known : (b : Bool) (n : NodeNo) → is_over (if b then over (Some (told.Copied s.node)) else r.stages (Reach n)) ≡ true → is_known (if b then s.kind else r.kinds n.0) ≡ true
  copy_known false n h = kept.known n h
  copy_known true n h = spreads.known

  copy_finishes : (b : Bool) (n : NodeNo) → (if b then over (Some (told.Copied s.node)) else r.stages (Finish n)) ≡ over None → ⊥
  copy_finishes false n h = kept.finishes n h
  copy_finishes true n h = cc

  kept_copies : Kept f (with_copies f (Some s) r)
  kept_copies = record {
    told = λ job. copy_told (is_copied f r s job) (with_copies f (Some s) r) job refl (λ i t h. copy_stays (is_copied f r s i) i t refl h);
    kinds = λ n. copy_kind (is_copied f r s (Reach n)) n refl;
    known = λ n h. copy_known (is_copied f r s (Reach n)) n h;
    finishes = λ n h. copy_finishes (is_copied f r s (Finish n)) n h;
  }

-- ---- jobs that are not over, and images

module _ {S : Type 0} (f : Farm S) (r new : Records) (kept : Kept f r) (same_kinds : (n : ℕ) → new.kinds n ≡ r.kinds n)
    (moves : (job : Job) → (new.stages job ≡ r.stages job) ⊎ ((is_over (new.stages job) ≡ false) × (is_over (r.stages job) ≡ false))) where
  move_stays : (job : Job) (t : Option Told) → r.stages job ≡ over t → new.stages job ≡ over t
  move_stays job t h = ⊎_elim (λ same. same ∙ h) (λ both. absurd (not_over (r.stages job) t h both.1)) (moves job)

  untold : (s : Stage) → is_over s ≡ false → told_by s ≡ None
  untold idle h = refl
  untold (running a) h = refl
  untold deferred h = refl
  untold (over t) h = absurd (false≢true (sym h))

  kept_moved : Kept f new
  kept_moved = record {
    told = λ job. ⊎_elim
        (λ same. subst (λ s. ToldOk f new job (told_by s)) (sym same) (told_stays f r new move_stays job (told_by (r.stages job)) (kept.told job)))
        (λ both. subst (ToldOk f new job) (sym (untold (new.stages job) both.0)) tt)
        (moves job);
    kinds = λ n. subst (IsKind f n) (sym (same_kinds n.0)) (kept.kinds n);
    known = λ n h. ap is_known (same_kinds n.0) ∙ ⊎_elim (λ same. kept.known n (ap is_over (sym same) ∙ h)) (λ both. absurd (false≢true (sym both.0 ∙ h))) (moves (Reach n));
    finishes = λ n h. ⊎_elim (λ same. kept.finishes n (sym same ∙ h)) (λ both. absurd (not_over (new.stages (Finish n)) None h both.0)) (moves (Finish n));
  }

-- ---- each entry

pub running_alive : (s : Stage) (a : Attempt) → s ≡ running a → is_over s ≡ false
running_alive s a e = ap is_over e

pub runs_alive : (s : Stage) → is_running s ≡ true → is_over s ≡ false
runs_alive idle h = refl
runs_alive (running a) h = refl
runs_alive deferred h = refl
runs_alive (over t) h = absurd (false≢true h)

pub idle_alive : (s : Stage) → is_idle s ≡ true → is_over s ≡ false
idle_alive idle h = refl
idle_alive (running a) h = refl
idle_alive deferred h = refl
idle_alive (over t) h = absurd (false≢true h)

pub ready_alive : {S : Type 0} (f : Farm S) (r : Records) (job : Job) → is_ready f r job ≡ true → is_over (r.stages job) ≡ false
ready_alive f r job h =
    let a = and_parts (is_job f.nodes job) (is_idle (r.stages job) && jobs.is_ready f.nodes (λ n. is_known (r.kinds n)) job) h in
    let b = and_parts (is_idle (r.stages job)) (jobs.is_ready f.nodes (λ n. is_known (r.kinds n)) job) a.1 in
    idle_alive (r.stages job) b.0

moved_by : (b : Bool) (job other : Job) (new : Stage) (r : Records) → same_job other job ≡ b → is_over new ≡ false → is_over (r.stages job) ≡ false
    → ((if b then new else r.stages other) ≡ r.stages other) ⊎ ((is_over (if b then new else r.stages other) ≡ false) × (is_over (r.stages other) ≡ false))
moved_by false job other new r e alive was = inl refl
moved_by true job other new r e alive was = inr (alive, ap (λ j. is_over (r.stages j)) (same_job-true other job e) ∙ was)

again_by : (s : Stage) → (ready_again s ≡ s) ⊎ ((is_over (ready_again s) ≡ false) × (is_over s ≡ false))
again_by idle = inl refl
again_by (running a) = inl refl
again_by deferred = inr (refl, refl)
again_by (over t) = inl refl

kind_reached : {S : Type 0} (f : Farm S) (kind : Kind) (k : solo.Kind) (job : Job) → ((n : NodeNo) → kind_of f n ≡ Some k → IsKind f n kind) → ReachesKind f job k
    → (n : NodeNo) → job ≡ Reach n → IsKind f n kind
kind_reached f kind k (Reach m) make h n e = make n (ap (kind_of f) (let same : n ≡ m = cc in same) ∙ h)
kind_reached f kind k (Finish m) make h n e = cc

own_stage : {S : Type 0} (f : Farm S) (n : NodeNo) (tells : Option Told) (kind : Kind) (r : Records) → (with_over (Reach n) tells kind r).stages (Reach n) ≡ over tells
own_stage f n tells kind r = ap (λ b. if b then over tells else r.stages (Reach n)) (eq-eqb n.0 n.0 refl)

-- what is kept does not depend on the images
other_images : {S : Type 0} (f : Farm S) (r : Records) (held : List Held) → Kept f r → Kept f (record r { held = held })
other_images f r held kept = record { told = kept.told; kinds = kept.kinds; known = kept.known; finishes = kept.finishes }

module _ {S : Type 0} (f : Farm S) (plan : IsPlan f.nodes) (ends : EndingIsCopied f.machine) (passes : PassingIsCopied f.machine) (r : Records) (kept : Kept f r) where
  alive_lost : (job : Job) → (is_running (r.stages job) || is_ready f r job) ≡ true → is_over (r.stages job) ≡ false
  alive_lost job h = ⊎_elim (λ runs. runs_alive (r.stages job) runs) (λ ready. ready_alive f r job ready) (or_cases (is_running (r.stages job)) (is_ready f r job) h)

  on_end : (job : Job) (turn : ℕ) → is_over (r.stages job) ≡ false → IsOfSolo f r (End job turn) → Kept f (after f (of_solo f) r (End job turn))
  on_end (Finish n) turn alive solo =
      other_images f (with_over (Finish n) (Some (told.Own ((of_solo f).outcome (Finish n)))) kinds.Ended r) _
      (kept_over f (Some (told.Own ((of_solo f).outcome (Finish n)))) kinds.Ended r kept refl (Finish n) alive refl (λ m e. cc))
  on_end (Reach n) turn alive solo =
      let tells = Some (told.Own ((of_solo f).outcome (Reach n))) in
      let x = with_over (Reach n) tells kinds.Ended r in
      let kept_x = kept_over f tells kinds.Ended r kept refl (Reach n) alive refl (kind_reached f kinds.Ended _ (Reach n) (λ m e. (turn, e)) solo.kind) in
      let spread : Spread = record { node = n; kind = kinds.Ended; fits = λ job. jobs.fits (limits f job) ((of_solo f).ending (Reach n)) } in
      other_images f (with_copies f (Some spread) x) _ (kept_copies f spread x kept_x (own_stage f n tells kinds.Ended r) (record {
        known = refl;
        copies = λ job is below fit.
            let copy = ends f.given f.budget f.nodes n job turn plan (is_job_of f.nodes job is) below solo.kind fit in
            record { outcome = sym copy.outcome; kind = λ m e. (turn, copy.kind m e ∙ solo.kind) };
      }))

  on_pages : (job : Job) (turn pages : ℕ) → is_over (r.stages job) ≡ false → IsOfSolo f r (Pages job turn pages) → Kept f (after f (of_solo f) r (Pages job turn pages))
  on_pages (Finish n) turn pages alive solo =
      other_images f (with_over (Finish n) (Some (told.Own ((of_solo f).outcome (Finish n)))) kinds.Over r) _
      (kept_over f (Some (told.Own ((of_solo f).outcome (Finish n)))) kinds.Over r kept refl (Finish n) alive refl (λ m e. cc))
  on_pages (Reach n) turn pages alive solo =
      let tells = Some (told.Own ((of_solo f).outcome (Reach n))) in
      let x = with_over (Reach n) tells kinds.Over r in
      let kept_x = kept_over f tells kinds.Over r kept refl (Reach n) alive refl (kind_reached f kinds.Over _ (Reach n) (λ m e. (turn, e)) solo.kind) in
      let spread : Spread = record { node = n; kind = kinds.Over; fits = λ job. jobs.passing_fits (limits f job) turn (limits f (Reach n)) } in
      other_images f (with_copies f (Some spread) x) _ (kept_copies f spread x kept_x (own_stage f n tells kinds.Over r) (record {
        known = refl;
        copies = λ job is below fit.
            let copy = passes f.given f.budget f.nodes n job turn plan (is_job_of f.nodes job is) below solo.kind fit in
            record { outcome = sym copy.outcome; kind = λ m e. (turn, copy.kind m e ∙ solo.kind) };
      }))

  on_lost : (job : Job) (turn : ℕ) → is_over (r.stages job) ≡ false → Kept f (after f (of_solo f) r (Lost job turn))
  on_lost (Reach n) turn alive =
      other_images f (with_over (Reach n) (Some told.Lost) kinds.Lost r) _ (kept_over f (Some told.Lost) kinds.Lost r kept refl (Reach n) alive tt (λ m e. tt))
  on_lost (Finish n) turn alive =
      other_images f (with_over (Finish n) (Some told.Lost) kinds.Lost r) _ (kept_over f (Some told.Lost) kinds.Lost r kept refl (Finish n) alive tt (λ m e. tt))

  on_entry : (e : Entry) → Guard f (of_solo f) r e → IsOfSolo f r e → Kept f (after f (of_solo f) r e)
  on_entry (Start job origin) guard solo =
      kept_moved f r _ kept (λ n. refl) (λ other. moved_by (same_job other job) job other (running _) r refl refl (ready_alive f r job guard.0))
  on_entry (Saved node turn pages base) guard solo =
      let more = r.held ++ record { node = node; turn = turn; pages = pages; base = base } ∷ [] in
      other_images f (with_over (Reach node) None (kinds.Saved turn) (record r { held = more })) _
      (kept_over f None (kinds.Saved turn) (record r { held = more }) (other_images f r more kept) refl (Reach node) (running_alive (r.stages (Reach node)) guard.0 guard.1) tt
      (kind_reached f (kinds.Saved turn) _ (Reach node) (λ m e. (solo.save, e)) solo.kind))
  on_entry (Pass node turn) guard solo =
      other_images f (with_over (Reach node) None kinds.Passed r) _
      (kept_over f None kinds.Passed r kept refl (Reach node) (running_alive (r.stages (Reach node)) guard.0 guard.1) tt
      (kind_reached f kinds.Passed _ (Reach node) (λ m e. (turn, e)) solo))
  on_entry (End job turn) guard solo = on_end job turn (running_alive (r.stages job) guard.0 guard.1) solo
  on_entry (Pages job turn pages) guard solo = on_pages job turn pages (running_alive (r.stages job) guard.0.attempt guard.0.runs) solo
  on_entry (Copy job node) guard solo = absurd guard
  on_entry (Lost job turn) guard solo = on_lost job turn (alive_lost job guard)
  on_entry (Short job turn) guard solo =
      kept_moved f r _ kept (λ n. refl) (λ other. moved_by (same_job other job) job other deferred r refl refl (running_alive (r.stages job) guard.0.0 guard.0.1))
  on_entry (Evict node) guard solo = other_images f r _ kept
  on_entry (Retire node) guard solo = absurd guard
  on_entry Rest guard solo = kept_moved f r _ kept (λ n. refl) (λ other. again_by (r.stages other))

begun_kept : {S : Type 0} (f : Farm S) → Kept f (record { kinds = λ n. kinds.Unknown; stages = λ job. idle; held = []; rested = false })
begun_kept f = record {
  told = λ job. tt;
  kinds = λ n. tt;
  known = λ n h. absurd (false≢true h);
  finishes = λ n h. cc;
}

pub all_kept : {S : Type 0} (f : Farm S) → IsPlan f.nodes → EndingIsCopied f.machine → PassingIsCopied f.machine → {choice : Choice} {js : List Entry} {r : Records} → IsJournal f choice js r → Kept f r
all_kept f plan ends passes begun = begun_kept f
all_kept f plan ends passes (next {js} {r} e before guard chosen solo) = on_entry f plan ends passes r (all_kept f plan ends passes before) e guard solo

-- ---- what is told

told_so : {S : Type 0} (f : Farm S) (r : Records) (job : Job) (t : Option Told) (outcome : Outcome) → ToldOk f r job t → outcome_by r t ≡ Some outcome → outcome ≡ (of_solo f).outcome job
told_so f r job None outcome ok h = cc
told_so f r job (Some (told.Own o)) outcome ok h = let same : o ≡ outcome = cc in sym same ∙ ok
told_so f r job (Some (told.Copied n)) outcome ok h =
    let own : own_outcome (told_by (r.stages (Reach n))) ≡ Some ((of_solo f).outcome (Reach n)) = ap (λ s. own_outcome (told_by s)) ok.0 in
    let same : outcome ≡ (of_solo f).outcome (Reach n) = cc (own, h) in same ∙ ok.1
told_so f r job (Some told.Lost) outcome ok h = cc

pub tells_solo : {S : Type 0} (f : Farm S) → EndingIsCopied f.machine → PassingIsCopied f.machine → TellsSolo f
tells_solo f ends passes plan choice js r journal =
    let kept = all_kept f plan ends passes journal in
    record {
      outcomes = λ job outcome h. told_so f r job (told_by (r.stages job)) outcome (kept.told job) h;
      kinds = kept.kinds;
    }
