-- Where no job is ready, running or deferred, each job is over and each test that was not lost has an outcome.
use Rattle.std.proofs.Common.{◌≡◌, ℕ, zero, suc, ◌<◌, ◌&&◌, Bool, true, false, if◌then◌else◌, Option, Some, None, is_some, slice_get, refl, sym, ◌∙◌, ap, arith, inl, inr, ◌⊎◌}
use Rattle.std.proofs.lemmas.Bool.{false≢true, and_from}
use Rattle.vf_base.specs.declared.names.Job.{Job}
use Rattle.vf_base.specs.declared.names.Job.TheVariants.{Reach, Finish}
use Rattle.vf_base.specs.declared.names.NodeNo.{NodeNo}
use Rattle.vf_plan.specs.declared.plan.Node.{Node}
use Rattle.vf_plan.specs.Rules.{IsPlan}
use Rattle.vf_jobs.specs.Copies.{EndingIsCopied, PassingIsCopied}
use Rattle.vf_jobs.specs.Jobs as jobs
use Rattle.vf_jobs.specs.Jobs.{node_of, has_child, is_open}
use Rattle.vf_journal.specs.declared.entry.Told.{Told}
use Rattle.vf_journal.specs.declared.entry.Told.TheVariants as told
use Rattle.vf_journal.specs.Farm.{Farm}
use Rattle.vf_journal.specs.Records.{Stage, idle, running, deferred, over, Records, is_job, is_known, is_idle, is_running, is_deferred, is_over, is_ready, told_by, own_outcome, outcome_by}
use Rattle.vf_journal.specs.Laws.{IsDone, IsWhole, EndsWhole}
use Rattle.vf_journal.proofs.JobLemmas.{none_passes, planned, reaches, parent_reached}
use Rattle.vf_journal.proofs.JournalLemmas.{Kept, ToldOk, all_kept}

module _ {S : Type 0} (f : Farm S) (plan : IsPlan f.nodes) (r : Records) (kept : Kept f r) (done : IsDone f r) where
  abbrev known : ℕ → Bool
  known n = is_known (r.kinds n)

  -- a job that waits for nothing is over
  over_by : (job : Job) (s : Stage) → r.stages job ≡ s → is_job f.nodes job ≡ true → jobs.is_ready f.nodes known job ≡ true → is_over s ≡ true
  over_by job idle e is waits =
      let ready : is_ready f r job ≡ true = and_from (is_job f.nodes job) (is_idle (r.stages job) && jobs.is_ready f.nodes known job) is
      (and_from (is_idle (r.stages job)) (jobs.is_ready f.nodes known job) (ap is_idle e) waits) in
      absurd (false≢true (sym (none_passes (is_ready f r) job (jobs.jobs f.nodes) done.ready is) ∙ ready))
  over_by job (running a) e is waits =
      absurd (false≢true (sym (none_passes (λ j. is_running (r.stages j)) job (jobs.jobs f.nodes) done.running is) ∙ ap is_running e))
  over_by job deferred e is waits =
      absurd (false≢true (sym (none_passes (λ j. is_deferred (r.stages j)) job (jobs.jobs f.nodes) done.deferred is) ∙ ap is_deferred e))
  over_by job (over t) e is waits = refl

  abbrev ReachOver : NodeNo → Type 0
  ReachOver n = is_job f.nodes (Reach n) ≡ true → is_over (r.stages (Reach n)) ≡ true

  -- the parent's kind is known, where all that reach nodes above are over
  open_by : (n : ℕ) (node : Node) (parent : Option NodeNo) → slice_get f.nodes n ≡ Some node → node.parent ≡ parent → ((m : NodeNo) → m.0 < n → ReachOver m)
      → elim parent as (λ _. Bool) [ None ↦ true | Some p ↦ known p.0 ] ≡ true
  open_by n node None e p above = refl
  open_by n node (Some parent) e p above =
      let up = parent_reached f.nodes n node parent plan e p in
      kept.known parent (above parent up.0 up.1)

  opens : (n : ℕ) (node : Node) → slice_get f.nodes n ≡ Some node → ((m : NodeNo) → m.0 < n → ReachOver m) → is_open known (slice_get f.nodes n) ≡ true
  opens n node e above = ap (is_open known) e ∙ open_by n node node.parent e refl above

  reach_over : (n : NodeNo) → ((m : NodeNo) → m.0 < n.0 → ReachOver m) → ReachOver n
  reach_over n above is =
      let p = planned f.nodes (Reach n) is in
      over_by (Reach n) (r.stages (Reach n)) refl is (opens n.0 p.node p.stands above)

  all_reached : (bound : ℕ) (n : NodeNo) → n.0 < bound → ReachOver n
  all_reached zero n h is = absurd (omega (arith, h))
  all_reached (suc bound) n h is = reach_over n (λ m less at. all_reached bound m (omega (arith, h, less)) at) is

  reached : (n : NodeNo) → ReachOver n
  reached n is = all_reached (suc n.0) n (omega arith) is

  finish_by : (n : NodeNo) (child : Bool) (node : Node) → slice_get f.nodes n.0 ≡ Some node → has_child f.nodes n.0 ≡ child
      → (if child then known n.0 else is_open known (slice_get f.nodes n.0)) ≡ true
  finish_by n true node e c = kept.known n (reached n (reaches f.nodes n node e c))
  finish_by n false node e c = opens n.0 node e (λ m less is. reached m is)

  all_over : (job : Job) → is_job f.nodes job ≡ true → is_over (r.stages job) ≡ true
  all_over (Reach n) is = reached n is
  all_over (Finish n) is =
      let p = planned f.nodes (Finish n) is in
      over_by (Finish n) (r.stages (Finish n)) refl is (finish_by n (has_child f.nodes n.0) p.node p.stands refl)

  -- ---- outcomes

  told_at : (n : NodeNo) (t : Option Told) → ToldOk f r (Finish n) t → (t ≡ None → ⊥) → (t ≡ Some told.Lost) ⊎ (is_some (outcome_by r t) ≡ true)
  told_at n None ok some = absurd (some refl)
  told_at n (Some (told.Own o)) ok some = inr refl
  told_at n (Some (told.Copied m)) ok some = inr (ap (λ s. is_some (own_outcome (told_by s))) ok.0)
  told_at n (Some told.Lost) ok some = inl refl

  over_told : (s : Stage) → is_over s ≡ true → told_by s ≡ None → s ≡ over None
  over_told idle h e = absurd (false≢true h)
  over_told (running a) h e = absurd (false≢true h)
  over_told deferred h e = absurd (false≢true h)
  over_told (over t) h e = ap over e

  whole : IsWhole f r
  whole = record {
    over = all_over;
    told = λ n is. told_at n (told_by (r.stages (Finish n))) (kept.told (Finish n))
        (λ none. kept.finishes n (over_told (r.stages (Finish n)) (all_over (Finish n) is) none));
  }

pub ends_whole : {S : Type 0} (f : Farm S) → EndingIsCopied f.machine → PassingIsCopied f.machine → EndsWhole f
ends_whole f ends passes plan choice js r journal done = whole f plan r (all_kept f plan ends passes journal) done
