-- Over every run of the farm: the journal tells the solo runs, and images and running jobs are at points of them.
use Rattle.std.proofs.Common.{◌≡◌, ℕ, suc, ◌+◌, ◌<◌, ◌≤◌, ◌==◌, Bool, true, false, cond, not, if◌then◌else◌, List, [], ◌∷◌, ◌++◌, append-nil, Option, Some, None, option_map, option_and_then, refl, sym, ◌∙◌, ap, ap₂, subst, arith}
use Rattle.std.specs.List.{All}
use Rattle.std.proofs.lemmas.Bool.{eq-eqb}
use Rattle.std.proofs.lemmas.List.Elements.{All-nil, All-same, All-filter, All-push, All-weaker}
use Rattle.vf_base.specs.declared.names.Job.{Job}
use Rattle.vf_base.specs.declared.names.Job.TheVariants.{Reach, Finish}
use Rattle.vf_base.specs.declared.names.NodeNo.{NodeNo}
use Rattle.vf_base.specs.declared.run.Header.{Header}
use Rattle.vf_base.specs.declared.run.Outcome.{Outcome}
use Rattle.vf_base.specs.declared.run.Outcome.TheVariants as outcomes
use Rattle.vf_base.specs.declared.run.SaveKind.{SaveKind}
use Rattle.vf_base.specs.declared.run.SaveKind.TheVariants.{Full, Incr}
use Rattle.vf_machine.specs.Run.{turn_at, mark_at, text_at, is_ending}
use Rattle.vf_machine.specs.Solo.{ending_of}
use Rattle.vf_plan.specs.Rules.{IsPlan}
use Rattle.vf_jobs.specs.Jobs.{node_of, fits}
use Rattle.vf_jobs.specs.Copies.{EndingIsCopied, PassingIsCopied}
use Rattle.vf_jobs.specs.Kinds as solo
use Rattle.vf_jobs.specs.Subtree.{is_below}
use Rattle.vf_journal.specs.declared.entry.Entry.{Entry}
use Rattle.vf_journal.specs.declared.entry.Entry.TheVariants.{Start, Saved, Pass, End, Pages, Copy, Lost, Short, Evict, Retire, Rest}
use Rattle.vf_journal.specs.declared.entry.Kind.{Kind}
use Rattle.vf_journal.specs.declared.entry.Kind.TheVariants as kinds
use Rattle.vf_journal.specs.declared.entry.Told.{Told}
use Rattle.vf_journal.specs.declared.entry.Told.TheVariants as told
use Rattle.vf_journal.specs.Farm.{Farm, Point, stimulus, limits, point_zero, point_after, point_in, next_turn, count_pages, own_pages, is_at_save, is_at_pass, is_decided, done_at}
use Rattle.vf_journal.specs.Records.{Held, Attempt, attempt_from, Stage, idle, running, deferred, over, Records, same_job, image_of}
use Rattle.vf_journal.specs.Effects.{Seen, Guard, IsRunning, Spread, spread_of, with_over, with_copies, without_unneeded, ready_again, started_from, origin_of, is_copied, is_needed, after, consequences}
use Rattle.vf_journal.specs.Journal as journal
use Rattle.vf_journal.specs.Journal.{IsJournal, free, of_solo, IsOfSolo, ReachesKind, held_point, base_for, still_held, pages_in}
use Rattle.vf_journal.specs.Machine as farm
use Rattle.vf_journal.specs.Machine.{World, Event, turned, made, Runs, MayCome, MayMake, MayTurn, MaySave, MayPass, MayEnd, MayPassBudget, seen_in, image_point, outcome_at, pages_next, point_from, put_run, with_points, with_event, turns_at}
use Rattle.vf_journal.specs.Laws.{ReadsGoOn, IsSavePoint, CoreLaw}
use Rattle.vf_journal.proofs.JournalLemmas.{tells_solo}
use Rattle.vf_journal.proofs.WholeLemmas.{ends_whole}
use Rattle.vf_journal.proofs.JobLemmas.{same_node, same_job-true}
use Rattle.vf_journal.proofs.PointLemmas.{IsRunAt, point_in-suc, run_at_zero, run_at-suc, turns_at_point, turns_within}
use Rattle.vf_journal.proofs.DecisionLemmas.{SavesAt, Stands, savepoint_is, save_unique, kind_saved, kind_passed, kind_over, kind_ended, outcome_ended, outcome_passed, passing_goes, ends_at}
use Rattle.vf_journal.proofs.StartLemmas.{run_from_image, find_holds, origin_serves, origin_alike}

-- ---- a job that runs after an entry has run before, or starts with it

pub over_by : (b : Bool) (tells : Option Told) (s : Stage) (a : Attempt) → (if b then over tells else s) ≡ running a → s ≡ running a
over_by true tells s a h = cc
over_by false tells s a h = h

pub deferred_by : (b : Bool) (s : Stage) (a : Attempt) → (if b then deferred else s) ≡ running a → s ≡ running a
deferred_by true s a h = cc
deferred_by false s a h = h

pub again_by : (s : Stage) (a : Attempt) → ready_again s ≡ running a → s ≡ running a
again_by idle a h = h
again_by (running b) a h = h
again_by deferred a h = cc
again_by (over tells) a h = h

over_running : (other : Job) (tells : Option Told) (kind : Kind) (r : Records) (job : Job) (a : Attempt) → (with_over other tells kind r).stages job ≡ running a → r.stages job ≡ running a
over_running (Reach n) tells kind r job a h = over_by (same_job job (Reach n)) tells (r.stages job) a h
over_running (Finish n) tells kind r job a h = over_by (same_job job (Finish n)) tells (r.stages job) a h

copies_running : {S : Type 0} (f : Farm S) (s : Option Spread) (r : Records) (job : Job) (a : Attempt) → (with_copies f s r).stages job ≡ running a → r.stages job ≡ running a
copies_running f None r job a h = h
copies_running f (Some s) r job a h = over_by (is_copied f r s job) _ (r.stages job) a h

pub over_held : (job : Job) (tells : Option Told) (kind : Kind) (r : Records) → (with_over job tells kind r).held ≡ r.held
over_held (Reach n) tells kind r = refl
over_held (Finish n) tells kind r = refl

pub copies_held : {S : Type 0} (f : Farm S) (s : Option Spread) (r : Records) → (with_copies f s r).held ≡ r.held
copies_held f None r = refl
copies_held f (Some s) r = refl

-- ---- what is kept

pub record RunKept {S : Type 0} (f : Farm S) (job : Job) (a : Attempt) (now : Point S) : Type 0 where
  pub turns : ℕ
  pub run : IsRunAt f job turns now
  pub since : a.since ≤ turns

pub record ImageKept {S : Type 0} (f : Farm S) (images : ℕ → Point S) (h : Held) : Type 0 where
  pub run : IsRunAt f (Reach h.node) h.turn (images h.node.0)
  pub saved : SavesAt f h.node h.turn

abbrev pub RunsKept : {S : Type 0} → Farm S → Records → (Job → Point S) → Type 0
RunsKept f r runs = (job : Job) (a : Attempt) → IsRunning r job a → RunKept f job a (runs job)

pub record Kept {S : Type 0} (f : Farm S) (js : List Entry) (w : World S) : Type 0 where
  pub journal : IsJournal f free js w.records
  pub images : All (ImageKept f w.images) w.records.held
  pub runs : RunsKept f w.records w.runs

-- an entry in the farm, where the points of its runs tell what the solo runs tell
pub record Alike {S : Type 0} (f : Farm S) (seen : Seen) (r : Records) (e : Entry) : Type 0 where
  pub records : after f seen r e ≡ after f (of_solo f) r e
  pub entries : consequences f seen r e ≡ consequences f (of_solo f) r e

abbrev pub journal_on : {S : Type 0} → Farm S → List Entry → Seen → Records → Entry → Type 0
journal_on f js seen r e = IsJournal f free (js ++ e ∷ consequences f seen r e) (after f seen r e)

goes_on_with : {S : Type 0} (f : Farm S) (js : List Entry) (seen : Seen) (r : Records) (e : Entry) → IsJournal f free js r → Guard f (of_solo f) r e → IsOfSolo f r e → Alike f seen r e
    → journal_on f js seen r e
goes_on_with f js seen r e kept guard solo alike =
    subst (λ more. IsJournal f free (js ++ e ∷ more) (after f seen r e)) (sym alike.entries)
    (subst (IsJournal f free (js ++ e ∷ consequences f (of_solo f) r e)) (sym alike.records) (journal.next e kept guard tt solo))

module _ {S : Type 0} (f : Farm S) (plan : IsPlan f.nodes) (stands : Stands f.machine) (reads : ReadsGoOn f) (js : List Entry) (w : World S) (kept : Kept f js w) where
  abbrev r : Records
  r = w.records

  abbrev seen : Seen
  seen = seen_in f w

  abbrev ImagesKept : Records → Type 0
  ImagesKept new = All (ImageKept f w.images) new.held

  -- images after a job is over
  images_over : (job : Job) (tells : Option Told) (kind : Kind) (s : Option Spread) → ImagesKept (without_unneeded f (with_copies f s (with_over job tells kind r)))
  images_over job tells kind s =
      let new = with_copies f s (with_over job tells kind r) in
      All-filter (λ h. is_needed f new h.node) (ImageKept f w.images) new.held
      (All-same (ImageKept f w.images) new.held r.held (copies_held f s (with_over job tells kind r) ∙ over_held job tells kind r) kept.images)

  runs_over : (job : Job) (tells : Option Told) (kind : Kind) (s : Option Spread) → RunsKept f (without_unneeded f (with_copies f s (with_over job tells kind r))) w.runs
  runs_over job tells kind s other a h =
      kept.runs other a (over_running job tells kind r other a (copies_running f s (with_over job tells kind r) other a h))

  image_kept : (node : NodeNo) (h : Held) → image_of r node ≡ Some h → ImageKept f w.images h × (h.node ≡ node)
  image_kept node h e =
      let found = find_holds (ImageKept f w.images) (λ i. i.node.0 == node.0) r.held h e kept.images in
      (found.0, same_node h.node node found.1)

  counts_alike : (node : NodeNo) (h : Held) → image_of r node ≡ Some h → seen.counts h ≡ (of_solo f).counts h
  counts_alike node h e = ap (λ (p : Point S). p.moment.header) (image_kept node h e).0.run.at

  -- ---- a start

  from_held : (job : Job) (node : NodeNo) (o : Option Held) (h : Held) → o ≡ Some h → image_of r node ≡ Some h → is_below f.nodes node.0 (node_of job) ≡ true → fits (limits f job) (seen.counts h) ≡ true
      → RunKept f job (attempt_from o) (w.images node.0)
  from_held job node o h same e is fit =
      let image = image_kept node h e in
      let here = ap (λ (n : NodeNo). n.0) image.1 in
      let run = run_from_image f plan h.node job h.turn (w.images h.node.0) image.0.run image.0.saved
      (subst (λ n. is_below f.nodes n (node_of job) ≡ true) (sym here) is)
      (subst (λ header. fits (limits f job) header ≡ true) (counts_alike node h e) fit) in
      let from : RunKept f job (attempt_from (Some h)) (w.images node.0) =
      record { turns = h.turn; run = subst (λ n. IsRunAt f job h.turn (w.images n)) here run; since = omega arith } in
      subst (λ o. RunKept f job (attempt_from o) (w.images node.0)) (sym same) from

  started : (job : Job) (origin : Option NodeNo) → origin ≡ origin_of f seen r job → RunKept f job (started_from r origin) (point_from f w origin)
  started job None e = record { turns = 0; run = run_at_zero f job; since = omega arith }
  started job (Some node) e =
      let served = origin_serves f seen r job node (sym e) in
      from_held job node (image_of r node) served.held served.found served.found served.below served.fit

  start_by : (b : Bool) (job other : Job) (origin : Option NodeNo) (a : Attempt) → same_job other job ≡ b → origin ≡ origin_of f seen r job
      → (if b then running (started_from r origin) else r.stages other) ≡ running a → RunKept f other a (if b then point_from f w origin else w.runs other)
  start_by false job other origin a e from h = kept.runs other a h
  start_by true job other origin a e from h =
      let same : started_from r origin ≡ a = cc in
      subst (λ j. RunKept f j a (point_from f w origin)) (sym (same_job-true other job e))
      (subst (λ a. RunKept f job a (point_from f w origin)) same (started job origin from))

  on_start : (job : Job) (origin : Option NodeNo) → MayCome f w (made (Start job origin)) → Kept f (js ++ farm.written f w (made (Start job origin))) (with_event f w (made (Start job origin)))
  on_start job origin may = record {
    journal = goes_on_with f js seen r (Start job origin) kept.journal
        (may.0.0, may.0.1 ∙ origin_alike f seen (of_solo f) r job counts_alike) tt (record { records = refl; entries = refl });
    images = kept.images;
    runs = λ other a h. start_by (same_job other job) job other origin a refl may.0.1 h;
  }

  -- ---- a save

  base_by : (s : Stage) (h : Held) → still_held r s ≡ Some h → ImageKept f w.images h
  base_by idle h e = cc
  base_by (running a) h e = by a.full e
    where
      by : (full : Option NodeNo) → option_and_then (image_of r) full ≡ Some h → ImageKept f w.images h
      by None g = cc
      by (Some node) g = (image_kept node h g).0
  base_by deferred h e = cc
  base_by (over tells) h e = cc

  base_kept : (node : NodeNo) (save : SaveKind) (h : Held) → base_for r node save ≡ Some h → ImageKept f w.images h
  base_kept node Full h e = cc
  base_kept node Incr h e = base_by (r.stages (Reach node)) h e

  base_alike : (o : Option Held) → ((h : Held) → o ≡ Some h → ImageKept f w.images h) → option_map (image_point w) o ≡ option_map (held_point f) o
  base_alike None all = refl
  base_alike (Some h) all = ap Some (all h refl).run.at

  -- the run of a running job, at as many turns as it has counted
  run_now : (job : Job) (a : Attempt) → IsRunning r job a → IsRunAt f job (turns_at w job) (w.runs job)
  run_now job a h =
      let at = kept.runs job a h in
      subst (λ k. IsRunAt f job k (w.runs job)) (sym (turns_at_point f job at.turns (w.runs job) at.run)) at.run

  since_now : (job : Job) (a : Attempt) → IsRunning r job a → a.since ≤ turns_at w job
  since_now job a h =
      let at = kept.runs job a h in
      let e = turns_at_point f job at.turns (w.runs job) at.run in
      let since = at.since in
      omega (arith, e, since)

  solo_save : (node : NodeNo) (turn pages : ℕ) (base : Option NodeNo) (a : Attempt) → IsRunning r (Reach node) a → MaySave f w node turn pages base
      → journal.SavesSolo f r node turn pages base
  solo_save node turn pages base a runs may =
      let run = run_now (Reach node) a runs in
      let k = turns_at w (Reach node) in
      let saved : SavesAt f node k = ap (is_at_save f (Reach node)) (sym run.at) ∙ may.at_save in
      let asked = ap (λ (p : Point S). p.saved) (sym run.at) ∙ may.asked in
      record {
        save = may.save;
        kind = kind_saved f node k (w.runs (Reach node)) may.save run saved asked ∙ ap (λ t. Some (solo.saved t may.save)) (sym may.now);
        based = may.based;
        counted = may.counted ∙ ap₂ (own_pages f) (run.at ∙ ap (point_in f (Reach node)) (sym may.now)) (base_alike (base_for r node may.save) (λ h e. base_kept node may.save h e));
      }

  image_by : (b : Bool) (node : NodeNo) (turn : ℕ) (h : Held) → (h.node.0 == node.0) ≡ b → IsRunAt f (Reach node) turn (w.runs (Reach node)) → SavesAt f node turn
      → ImageKept f w.images h → ImageKept f (λ n. if n == node.0 then w.runs (Reach node) else w.images n) h
  image_by false node turn h e run saved image = record {
    run = subst (IsRunAt f (Reach h.node) h.turn) (ap (λ c. cond c (w.runs (Reach node)) (w.images h.node.0)) (sym e)) image.run;
    saved = image.saved;
  }
  image_by true node turn h e run saved image =
      let here = same_node h.node node e in
      let run_there : IsRunAt f (Reach h.node) turn (w.runs (Reach node)) = subst (λ n. IsRunAt f (Reach n) turn (w.runs (Reach node))) (sym here) run in
      let saved_there : SavesAt f h.node turn = subst (λ n. SavesAt f n turn) (sym here) saved in
      let same = save_unique f h.node turn h.turn (w.runs (Reach node)) (w.images h.node.0) run_there image.run saved_there image.saved in
      record {
        run = subst (IsRunAt f (Reach h.node) h.turn) (ap (λ c. cond c (w.runs (Reach node)) (w.images h.node.0)) (sym e))
            (subst (λ t. IsRunAt f (Reach h.node) t (w.runs (Reach node))) same run_there);
        saved = image.saved;
      }

  new_image : (node : NodeNo) (turn pages : ℕ) (base : Option NodeNo) → IsRunAt f (Reach node) turn (w.runs (Reach node)) → SavesAt f node turn
      → ImageKept f (λ n. if n == node.0 then w.runs (Reach node) else w.images n) (record { node = node; turn = turn; pages = pages; base = base })
  new_image node turn pages base run saved = record {
    run = subst (IsRunAt f (Reach node) turn) (ap (λ c. cond c (w.runs (Reach node)) (w.images node.0)) (sym (eq-eqb node.0 node.0 refl))) run;
    saved = saved;
  }

  on_save : (node : NodeNo) (turn pages : ℕ) (base : Option NodeNo) → MayCome f w (made (Saved node turn pages base))
      → Kept f (js ++ farm.written f w (made (Saved node turn pages base))) (with_event f w (made (Saved node turn pages base)))
  on_save node turn pages base may =
      let a = may.0.0 in
      let runs = may.0.1 in
      let save = may.1 in
      let now = run_now (Reach node) a runs in
      let run : IsRunAt f (Reach node) turn (w.runs (Reach node)) = subst (λ k. IsRunAt f (Reach node) k (w.runs (Reach node))) (sym save.now) now in
      let saved : SavesAt f node turn = ap (is_at_save f (Reach node)) (sym run.at) ∙ save.at_save in
      let images = λ (n : ℕ). if n == node.0 then w.runs (Reach node) else w.images n in
      let more = r.held ++ record { node = node; turn = turn; pages = pages; base = base } ∷ [] in
      let new = with_over (Reach node) None (kinds.Saved turn) (record r { held = more }) in
      record {
        journal = goes_on_with f js seen r (Saved node turn pages base) kept.journal (a, runs) (solo_save node turn pages base a runs save) (record { records = refl; entries = refl });
        images = All-filter (λ h. is_needed f new h.node) (ImageKept f images) more
            (All-push (ImageKept f images) r.held (record { node = node; turn = turn; pages = pages; base = base })
            (All-weaker (ImageKept f w.images) (ImageKept f images) (λ h image. image_by (h.node.0 == node.0) node turn h refl run saved image) r.held kept.images)
            (new_image node turn pages base run saved));
        runs = λ other b h. kept.runs other b (over_running (Reach node) None (kinds.Saved turn) (record r { held = more }) other b h);
      }

  -- ---- a pass, an end, a passing of the budget

  on_pass : (node : NodeNo) (turn : ℕ) → MayCome f w (made (Pass node turn)) → Kept f (js ++ farm.written f w (made (Pass node turn))) (with_event f w (made (Pass node turn)))
  on_pass node turn may =
      let run = run_now (Reach node) may.0.0 may.0.1 in
      let kind = kind_passed f node (turns_at w (Reach node)) (w.runs (Reach node)) run
      (ap (is_at_save f (Reach node)) (sym run.at) ∙ may.1.unsaved) (ap (is_at_pass f (Reach node)) (sym run.at) ∙ may.1.at_pass) in
      record {
        journal = goes_on_with f js seen r (Pass node turn) kept.journal may.0 (kind ∙ ap (λ t. Some (solo.passed t)) (sym may.1.now)) (record { records = refl; entries = refl });
        images = images_over (Reach node) None kinds.Passed None;
        runs = runs_over (Reach node) None kinds.Passed None;
      }

  abbrev mark_now : Job → Bool
  mark_now job = is_ending (mark_at f.machine (stimulus f job) (limits f job) (turns_at w job))

  ends_now : (job : Job) (turn : ℕ) (a : Attempt) → IsRunning r job a → MayEnd f w job turn → mark_now job ≡ true
  ends_now job turn a runs may = ap (λ p. is_ending (next_turn f job p).mark) (sym (run_now job a runs).at) ∙ may.ends

  turn_is : (job : Job) (turn : ℕ) (a : Attempt) → IsRunning r job a → MayEnd f w job turn
      → turn ≡ (turn_at f.machine (stimulus f job) (limits f job) (turns_at w job)).after.header.turns
  turn_is job turn a runs may = may.now ∙ ap (λ p. (next_turn f job p).after.header.turns) (run_now job a runs).at

  solo_end_kind : (job : Job) (turn : ℕ) (a : Attempt) → IsRunning r job a → MayEnd f w job turn → ReachesKind f job (solo.ended turn)
  solo_end_kind (Finish n) turn a runs may = tt
  solo_end_kind (Reach n) turn a runs may =
      let run = run_now (Reach n) a runs in
      kind_ended f n (turns_at w (Reach n)) (w.runs (Reach n)) (reads (Reach n) (turns_at w (Reach n))) run (ap (is_decided f (Reach n)) (sym run.at) ∙ may.undecided) (ends_now (Reach n) turn a runs may)
      ∙ ap (λ t. Some (solo.ended t)) (sym (turn_is (Reach n) turn a runs may))

  solo_end : (job : Job) (turn : ℕ) (a : Attempt) → IsRunning r job a → MayEnd f w job turn → journal.EndsSolo f job turn
  solo_end job turn a runs may =
      let k = turns_at w job in
      record {
        ending = ending_of (mark_at f.machine (stimulus f job) (limits f job) k);
        text = text_at f.machine (stimulus f job) (limits f job) k;
        outcome = outcome_ended f job k (w.runs job) (run_now job a runs) (ends_now job turn a runs may)
            ∙ ap (outcomes.Done (ending_of (mark_at f.machine (stimulus f job) (limits f job) k)) (text_at f.machine (stimulus f job) (limits f job) k)) (sym (turn_is job turn a runs may));
        kind = solo_end_kind job turn a runs may;
      }

  outcome_at_end : (job : Job) (turn : ℕ) (a : Attempt) → IsRunning r job a → MayEnd f w job turn → seen.outcome job ≡ (of_solo f).outcome job
  outcome_at_end job turn a runs may =
      let run = run_now job a runs in
      let p = point_in f job (turns_at w job) in
      let ends = ends_now job turn a runs may in
      ap (outcome_at f job) run.at
      ∙ ap (λ b. if b then done_at f job p else outcomes.Pages (pages_next f job p)) ends
      ∙ sym (outcome_ended f job (turns_at w job) (w.runs job) run ends)

  ending_at_end : (job : Job) (turn : ℕ) (a : Attempt) → IsRunning r job a → MayEnd f w job turn → seen.ending job ≡ (of_solo f).ending job
  ending_at_end job turn a runs may =
      let run = run_now job a runs in
      ap (λ p. (next_turn f job p).after.header) run.at
      ∙ ap (λ k. (turn_at f.machine (stimulus f job) (limits f job) k).after.header) (sym (ends_at f.machine (stimulus f job) (limits f job) (turns_at w job) run.goes (ends_now job turn a runs may)))

  tells : Header → Outcome → Seen
  tells header outcome = record { counts = seen.counts; ending = λ job. header; outcome = λ job. outcome }

  alike_end : (job : Job) (turn : ℕ) (a : Attempt) → IsRunning r job a → MayEnd f w job turn → Alike f seen r (End job turn)
  unfolding tells
  alike_end (Reach n) turn a runs may = record {
    records = ap₂ (λ h o. after f (tells h o) r (End (Reach n) turn)) (ending_at_end (Reach n) turn a runs may) (outcome_at_end (Reach n) turn a runs may);
    entries = ap₂ (λ h o. consequences f (tells h o) r (End (Reach n) turn)) (ending_at_end (Reach n) turn a runs may) (outcome_at_end (Reach n) turn a runs may);
  }
  alike_end (Finish n) turn a runs may = record {
    records = ap₂ (λ h o. after f (tells h o) r (End (Finish n) turn)) (ending_at_end (Finish n) turn a runs may) (outcome_at_end (Finish n) turn a runs may);
    entries = ap₂ (λ h o. consequences f (tells h o) r (End (Finish n) turn)) (ending_at_end (Finish n) turn a runs may) (outcome_at_end (Finish n) turn a runs may);
  }

  on_end : (job : Job) (turn : ℕ) → MayCome f w (made (End job turn)) → Kept f (js ++ farm.written f w (made (End job turn))) (with_event f w (made (End job turn)))
  on_end job turn may =
      let a = may.0.0 in
      let runs = may.0.1 in
      record {
        journal = goes_on_with f js seen r (End job turn) kept.journal (a, runs) (solo_end job turn a runs may.1) (alike_end job turn a runs may.1);
        images = images_over job (Some (told.Own (seen.outcome job))) kinds.Ended (spread_of f seen (End job turn));
        runs = runs_over job (Some (told.Own (seen.outcome job))) kinds.Ended (spread_of f seen (End job turn));
      }

  -- the pages with the next turn are those of the solo run
  pages_are : (job : Job) (a : Attempt) → IsRunning r job a → pages_next f job (w.runs job) ≡ pages_in f job (suc (turns_at w job))
  pages_are job a runs =
      ap (pages_next f job) (run_now job a runs).at ∙ ap (λ (p : Point S). count_pages f p.touched) (sym (point_in-suc f job (turns_at w job)))

  passes_now : (job : Job) (turn pages : ℕ) (a : Attempt) → IsRunning r job a → MayPassBudget f w job turn pages → f.budget < pages_in f job (suc (turns_at w job))
  passes_now job turn pages a runs may = let e = pages_are job a runs in let passes = may.passes in omega (arith, e, passes)

  solo_over_kind : (job : Job) (turn pages : ℕ) (a : Attempt) → IsRunning r job a → MayPassBudget f w job turn pages → ReachesKind f job (solo.over turn)
  solo_over_kind (Finish n) turn pages a runs may = tt
  solo_over_kind (Reach n) turn pages a runs may =
      let run = run_now (Reach n) a runs in
      let passes = passes_now (Reach n) turn pages a runs may in
      kind_over f n (turns_at w (Reach n)) (w.runs (Reach n)) run (ap (is_decided f (Reach n)) (sym run.at) ∙ may.undecided)
      (passing_goes f (Reach n) (turns_at w (Reach n)) (w.runs (Reach n)) stands run passes) passes
      ∙ ap (λ t. Some (solo.over t)) (sym may.now)

  solo_over : (job : Job) (turn pages : ℕ) (a : Attempt) → IsRunning r job a → MayPassBudget f w job turn pages → journal.PassesSolo f job turn pages
  solo_over job turn pages a runs may =
      let k = turns_at w job in
      let passes = passes_now job turn pages a runs may in
      let run = run_now job a runs in
      let both = outcome_passed f job k (w.runs job) run (passing_goes f job k (w.runs job) stands run passes) passes in
      record {
        outcome = both.0 ∙ ap outcomes.Pages (sym (may.counted ∙ pages_are job a runs));
        passes = both.1 ∙ ap Some (let e : suc k ≡ turn + 1 = let now = may.now in omega (arith, now) in e);
        kind = solo_over_kind job turn pages a runs may;
      }

  outcome_at_pages : (job : Job) (turn pages : ℕ) (a : Attempt) → IsRunning r job a → MayPassBudget f w job turn pages → seen.outcome job ≡ (of_solo f).outcome job
  outcome_at_pages job turn pages a runs may =
      let run = run_now job a runs in
      let k = turns_at w job in
      let p = w.runs job in
      let passes = passes_now job turn pages a runs may in
      let goes : is_ending (next_turn f job p).mark ≡ false = ap (λ q. is_ending (next_turn f job q).mark) run.at ∙ passing_goes f job k p stands run passes in
      ap (λ b. if b then done_at f job p else outcomes.Pages (pages_next f job p)) goes
      ∙ ap outcomes.Pages (pages_are job a runs) ∙ sym (outcome_passed f job k p run (passing_goes f job k p stands run passes) passes).0

  tells_outcome : Outcome → Seen
  tells_outcome outcome = record { counts = seen.counts; ending = seen.ending; outcome = λ job. outcome }

  alike_pages : (job : Job) (turn pages : ℕ) (a : Attempt) → IsRunning r job a → MayPassBudget f w job turn pages → Alike f seen r (Pages job turn pages)
  unfolding tells_outcome
  alike_pages (Reach n) turn pages a runs may = record {
    records = ap (λ o. after f (tells_outcome o) r (Pages (Reach n) turn pages)) (outcome_at_pages (Reach n) turn pages a runs may);
    entries = ap (λ o. consequences f (tells_outcome o) r (Pages (Reach n) turn pages)) (outcome_at_pages (Reach n) turn pages a runs may);
  }
  alike_pages (Finish n) turn pages a runs may = record {
    records = ap (λ o. after f (tells_outcome o) r (Pages (Finish n) turn pages)) (outcome_at_pages (Finish n) turn pages a runs may);
    entries = ap (λ o. consequences f (tells_outcome o) r (Pages (Finish n) turn pages)) (outcome_at_pages (Finish n) turn pages a runs may);
  }

  on_pages : (job : Job) (turn pages : ℕ) → MayCome f w (made (Pages job turn pages)) → Kept f (js ++ farm.written f w (made (Pages job turn pages))) (with_event f w (made (Pages job turn pages)))
  on_pages job turn pages may =
      let a = may.0.0.attempt in
      let runs = may.0.0.runs in
      record {
        journal = goes_on_with f js seen r (Pages job turn pages) kept.journal may.0 (solo_over job turn pages a runs may.1) (alike_pages job turn pages a runs may.1);
        images = images_over job (Some (told.Own (seen.outcome job))) kinds.Over (spread_of f seen (Pages job turn pages));
        runs = runs_over job (Some (told.Own (seen.outcome job))) kinds.Over (spread_of f seen (Pages job turn pages));
      }

  -- ---- what gives an attempt up, and what changes images alone

  given_up : (job : Job) (turn : ℕ) (s : Stage) → r.stages job ≡ s → farm.TellsTurn w job turn s → journal.IsGivenUp f job turn s
  given_up job turn idle e at = at
  given_up job turn (running a) e at =
      let since = since_now job a e in
      let within = turns_within f job (turns_at w job) (run_now job a e).goes in
      (omega (arith, at, since), omega (arith, at, within))
  given_up job turn deferred e at = tt
  given_up job turn (over tells) e at = tt

  on_lost : (job : Job) (turn : ℕ) → MayCome f w (made (Lost job turn)) → Kept f (js ++ farm.written f w (made (Lost job turn))) (with_event f w (made (Lost job turn)))
  on_lost job turn may = record {
    journal = goes_on_with f js seen r (Lost job turn) kept.journal may.0 (given_up job turn (r.stages job) refl may.1) (record { records = refl; entries = refl });
    images = images_over job (Some told.Lost) kinds.Lost None;
    runs = runs_over job (Some told.Lost) kinds.Lost None;
  }

  on_short : (job : Job) (turn : ℕ) → MayCome f w (made (Short job turn)) → Kept f (js ++ farm.written f w (made (Short job turn))) (with_event f w (made (Short job turn)))
  on_short job turn may = record {
    journal = goes_on_with f js seen r (Short job turn) kept.journal may.0 (given_up job turn (r.stages job) refl may.1) (record { records = refl; entries = refl });
    images = kept.images;
    runs = λ other a h. kept.runs other a (deferred_by (same_job other job) (r.stages other) a h);
  }

  on_evict : (node : NodeNo) → MayCome f w (made (Evict node)) → Kept f (js ++ farm.written f w (made (Evict node))) (with_event f w (made (Evict node)))
  on_evict node may = record {
    journal = goes_on_with f js seen r (Evict node) kept.journal may.0 tt (record { records = refl; entries = refl });
    images = All-filter (λ h. not (h.node.0 == node.0)) (ImageKept f w.images) r.held kept.images;
    runs = kept.runs;
  }

  on_rest : MayCome f w (made Rest) → Kept f (js ++ farm.written f w (made Rest)) (with_event f w (made Rest))
  on_rest may = record {
    journal = goes_on_with f js seen r Rest kept.journal may.0 tt (record { records = refl; entries = refl });
    images = All-nil (ImageKept f w.images);
    runs = λ job a h. kept.runs job a (again_by (r.stages job) a h);
  }

  -- ---- a turn

  turned_by : (b : Bool) (job other : Job) (a : Attempt) → same_job other job ≡ b → MayTurn f w job → IsRunning r other a
      → RunKept f other a (if b then point_after f job (w.runs job) else w.runs other)
  turned_by false job other a e may h = kept.runs other a h
  turned_by true job other a e may h =
      let same = same_job-true other job e in
      let at = kept.runs job a (ap r.stages (sym same) ∙ h) in
      subst (λ j. RunKept f j a (point_after f job (w.runs job))) (sym same) (record {
        turns = suc at.turns;
        run = run_at-suc f job at.turns (w.runs job) at.run may.goes may.undecided may.within;
        since = let since = at.since in omega (arith, since);
      })

  on_turn : (job : Job) → MayTurn f w job → Kept f (js ++ []) (with_event f w (turned job))
  on_turn job may = record {
    journal = subst (λ es. IsJournal f free es r) (sym (append-nil js)) kept.journal;
    images = kept.images;
    runs = λ other a h. turned_by (same_job other job) job other a refl may h;
  }

  on_event : (e : Event) → MayCome f w e → Kept f (js ++ farm.written f w e) (with_event f w e)
  on_event (turned job) may = on_turn job may
  on_event (made (Start job origin)) may = on_start job origin may
  on_event (made (Saved node turn pages base)) may = on_save node turn pages base may
  on_event (made (Pass node turn)) may = on_pass node turn may
  on_event (made (End job turn)) may = on_end job turn may
  on_event (made (Pages job turn pages)) may = on_pages job turn pages may
  on_event (made (Copy job node)) may = absurd may.0
  on_event (made (Lost job turn)) may = on_lost job turn may
  on_event (made (Short job turn)) may = on_short job turn may
  on_event (made (Evict node)) may = on_evict node may
  on_event (made (Retire node)) may = absurd may.0
  on_event (made Rest) may = on_rest may

begun_kept : {S : Type 0} (f : Farm S) → Kept f [] (farm.world_at_first f)
begun_kept f = record {
  journal = journal.begun;
  images = All-nil (ImageKept f (λ n. point_zero f));
  runs = λ job a h. let e : idle ≡ running a = h in cc;
}

all_kept : {S : Type 0} (f : Farm S) → IsPlan f.nodes → Stands f.machine → ReadsGoOn f → {es : List Event} {js : List Entry} {w : World S} → Runs f es js w → Kept f js w
all_kept f plan stands reads farm.begun = begun_kept f
all_kept f plan stands reads (farm.next {es} {js} {w} e runs may) = on_event f plan stands reads js w (all_kept f plan stands reads runs) e may

pub core : {S : Type 0} (f : Farm S) → Stands f.machine → EndingIsCopied f.machine → PassingIsCopied f.machine → CoreLaw f
core f stands ends passes plan reads es js w runs =
    let kept = all_kept f plan stands reads runs in
    record {
      journal = kept.journal;
      told = tells_solo f ends passes plan free js w.records kept.journal;
      whole = ends_whole f ends passes plan free js w.records kept.journal;
      images =
          All-weaker (ImageKept f w.images) (IsSavePoint f w)
          (λ h image. record { point = image.run.at; at_save = savepoint_is f h.node h.turn (w.images h.node.0) image.run image.saved })
          w.records.held kept.images;
      runs = λ job a h. (run_now f plan stands reads js w kept job a h).at;
    }
