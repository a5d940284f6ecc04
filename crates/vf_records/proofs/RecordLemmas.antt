-- What an entry makes of the records of a farm.
use Rattle.std.proofs.Common.{◌≡◌, ℕ, ◌<◌, Bool, true, false, List, [], ◌∷◌, ◌++◌, length, option_map, Option, Some, None, IfSome, refl, sym, ◌∙◌, ap, ap₂, subst, arith, ⊎_elim, if◌then◌else◌, slice_get, get_or}
use Rattle.std.proofs.lemmas.Bool.{false≢true, or_cases}
use Rattle.std.specs.Arc.{arc_value}
use Rattle.vf_base.specs.declared.names.Job.{Job}
use Rattle.vf_base.specs.declared.names.Job.TheVariants.{Reach, Finish}
use Rattle.vf_base.specs.declared.run.Header.{Header}
use Rattle.vf_base.specs.declared.run.Limits.{Limits}
use Rattle.vf_jobs.specs.Jobs.{node_of}
use Rattle.vf_base.specs.declared.names.NodeNo.{NodeNo}
use Rattle.vf_design.specs.Words.{machine_of}
use Rattle.vf_jobs.specs.Setup.{Conditions, IsSetup}
use Rattle.vf_jobs.proofs.CallerLemmas.{endings_copied, passings_copied}
use Rattle.vf_journal.specs.declared.entry.Told.{Told}
use Rattle.vf_journal.specs.declared.entry.Entry.{Entry}
use Rattle.vf_journal.specs.declared.entry.Entry.TheVariants.{End, Pages, Lost}
use Rattle.vf_journal.specs.declared.entry.Kind.{Kind}
use Rattle.vf_journal.specs.declared.entry.Kind.TheVariants as kinds
use Rattle.vf_journal.specs.Farm.{limits}
use Rattle.vf_journal.specs.Records.{Held, Records, Attempt, Stage, idle, running, deferred, over, is_job, is_ready, is_running, is_deferred, is_over}
use Rattle.vf_journal.proofs.CallerLemmas.{holds_images, some_can_go, tells_solo}
use Rattle.vf_journal.specs.Effects.{after, consequences, spread_of}
use Rattle.vf_journal.specs.Journal.{IsJournal, ordered, next_evicted}
use Rattle.vf_records.specs.declared.records.Records.TheInside.{Inside}
use Rattle.vf_records.specs.declared.row.Progress.{Progress}
use Rattle.vf_records.specs.declared.row.Progress.TheVariants as rows
use Rattle.vf_records.specs.declared.spread.Reached.{Reached}
use Rattle.vf_records.specs.declared.spread.Reached.TheVariants.{Ending, Passing}
use Rattle.vf_records.specs.declared.spread.Spread.{Spread}
use Rattle.vf_records.specs.declared.tables.Tables.{Tables}
use Rattle.vf_records.specs.Account.{Account, farm_of, solo_of, records_in, records_after, with_entry, IsAccount, IsLawful, AllServe}
use Rattle.vf_records.specs.Inner.{account_of, IsKept}
use Rattle.vf_records.specs.Spreads.{spread_seen, spread_from}
use Rattle.vf_records.specs.Layout.{place_in}
use Rattle.vf_records.specs.Tables.{stage_of, stands_at, records_of, AreTables}
use Rattle.vf_records.proofs.TableLemmas.{running_job}
use Rattle.vf_records.proofs.EventLemmas.{placed_job, ready_job, ready_open}
use Rattle.vf_records.proofs.JournalLemmas.{come_to, journal_next}
use Rattle.vf_records.proofs.ServeLemmas.{all_serve}

pub setup_is : (inside : Inside) (a : Account) → account_of inside ≡ a → (d : Conditions) → d ≡ arc_value inside.setup → d ≡ a.setup
setup_is inside a view d is = is ∙ ap (λ (a : Account). a.setup) view

pub records_is : (inside : Inside) (a : Account) → account_of inside ≡ a → IsKept inside → records_of inside.tables ≡ records_in a
records_is inside a view kept = sym (come_to (account_of inside) (records_of inside.tables) kept.lawful) ∙ ap records_in view

pub tables_at : (inside : Inside) → IsKept inside → (d : Conditions) → d ≡ arc_value inside.setup → AreTables d.plan (solo_of d).counts inside.tables
tables_at inside kept d is = subst (λ (s : Conditions). AreTables s.plan (solo_of s).counts inside.tables) (sym is) kept.tables

-- each image serves a job that is left
pub serve_at : (inside : Inside) → IsKept inside → (d : Conditions) → d ≡ arc_value inside.setup → AllServe d (records_of inside.tables)
serve_at inside kept d is = subst (λ (s : Conditions). AllServe s (records_of inside.tables)) (sym is) (all_serve (arc_value inside.setup) ordered inside.tables.journal.items (records_of inside.tables) kept.lawful)

-- ---- what an account keeps

undeferred_stage : (p : Progress) (t : Option Told) → is_deferred (stage_of p t) ≡ false
undeferred_stage rows.Idle t = refl
undeferred_stage (rows.Running attempt) t = refl
undeferred_stage rows.Over t = refl

undeferred_by : (b : Bool) (s : Stage) → is_deferred s ≡ false → is_deferred (if b then s else idle) ≡ false
undeferred_by true s h = h
undeferred_by false s h = refl

undeferred : (t : Tables) (job : Job) → is_deferred ((records_of t).stages job) ≡ false
undeferred t job =
    let p = place_in t.layout.places.items job in
    undeferred_by (stands_at (slice_get t.layout.jobs.items p) job) (stage_of (get_or t.progress.items p rows.Idle) (get_or t.told.items p None))
    (undeferred_stage (get_or t.progress.items p rows.Idle) (get_or t.told.items p None))

pub account_kept : (inside : Inside) (a : Account) → account_of inside ≡ a → IsKept inside → IsSetup a.setup → IsAccount a
account_kept inside a view kept setup =
    let f = farm_of a.setup in
    let m = machine_of a.setup.design in
    let come = records_is inside a view kept in
    let law : IsJournal f ordered a.journal (records_in a) =
    subst (IsJournal f ordered a.journal) come (subst (λ (b : Account). IsJournal (farm_of b.setup) ordered b.journal (records_of inside.tables)) view kept.lawful) in
    record {
      setup = setup;
      journal = law;
      images = holds_images f setup.plan ordered a.journal (records_in a) law;
      told = tells_solo f (endings_copied m) (passings_copied m) setup.plan ordered a.journal (records_in a) law;
      undeferred = λ job. ap (λ (r : Records). is_deferred (r.stages job)) (sym come) ∙ undeferred inside.tables job;
    }

none_next : (o : Option Held) → option_map (λ (h : Held). h.node) o ≡ None → o ≡ None
none_next None e = refl
none_next (Some h) e = cc

-- where no image is chosen none is held
pub none_held : (a : Account) (chosen : Option NodeNo) → IsAccount a → chosen ≡ option_map (λ (h : Held). h.node) (next_evicted (farm_of a.setup) (records_in a)) → chosen ≡ None
    → (records_in a).held ≡ []
none_held a chosen kept is none =
    some_can_go (farm_of a.setup) kept.setup.plan ordered a.journal (records_in a) kept.journal (none_next (next_evicted (farm_of a.setup) (records_in a)) (sym is ∙ none))

-- the records with an entry more
pub record IsMade (inside : Inside) (a : Account) (e : Entry) (new : Tables) : Type 0 where
  pub kept : IsKept (record { setup = inside.setup; tables = new })
  pub journal : account_of (record { setup = inside.setup; tables = new }) ≡ with_entry e a
  pub records : records_in (account_of (record { setup = inside.setup; tables = new })) ≡ records_after e a

pub made : (inside : Inside) (a : Account) → account_of inside ≡ a → IsKept inside → (e : Entry) (d : Conditions) → d ≡ arc_value inside.setup → (new : Tables)
    → records_of new ≡ after (farm_of d) (solo_of d) (records_of inside.tables) e
    → new.journal.items ≡ inside.tables.journal.items ++ e ∷ consequences (farm_of d) (solo_of d) (records_of inside.tables) e
    → AreTables d.plan (solo_of d).counts new → IsLawful a e → IsMade inside a e new
made inside a view kept e d is new records journal tables may =
    let s = arc_value inside.setup in
    let r = records_of inside.tables in
    let old = account_of inside in
    let js = inside.tables.journal.items in
    let come : records_in old ≡ r = come_to old r kept.lawful in
    let come_new : records_of new ≡ after (farm_of s) (solo_of s) r e = subst (λ (d : Conditions). records_of new ≡ after (farm_of d) (solo_of d) r e) is records in
    let written : new.journal.items ≡ js ++ e ∷ consequences (farm_of s) (solo_of s) r e =
    subst (λ (d : Conditions). new.journal.items ≡ js ++ e ∷ consequences (farm_of d) (solo_of d) r e) is journal in
    let law : IsJournal (farm_of s) ordered new.journal.items (records_of new) =
    journal_next old r kept.lawful e (subst (λ (a : Account). IsLawful a e) (sym view) may) new.journal.items (records_of new) written come_new in
    let new_account : Account = record { setup = s; journal = new.journal.items } in
    record {
      kept = record { lawful = law; tables = subst (λ (s : Conditions). AreTables s.plan (solo_of s).counts new) is tables };
      journal = ap (λ (es : List Entry). record { setup = s; journal = es }) (written ∙ ap (λ (x : Records). js ++ e ∷ consequences (farm_of s) (solo_of s) x e) (sym come)) ∙ ap (with_entry e) view;
      records = come_to new_account (records_of new) law ∙ come_new ∙ ap (λ (x : Records). after (farm_of s) (solo_of s) x e) (sym come) ∙ ap (records_after e) view;
    }

-- ---- a job that an entry ends

pub record IsEnded (d : Conditions) (t : Tables) (job : Job) : Type 0 where
  pub is : is_job d.plan job ≡ true
  pub node : node_of job < length d.plan
  pub left : is_over ((records_of t).stages job) ≡ false

-- the attempt of a job that runs
attempt_in : (stage : Stage) → is_running stage ≡ true → (attempt : Attempt) × (stage ≡ running attempt)
attempt_in idle h = absurd (false≢true h)
attempt_in (running attempt) h = (attempt, refl)
attempt_in deferred h = absurd (false≢true h)
attempt_in (over tells) h = absurd (false≢true h)

module _ (inside : Inside) (a : Account) (view : account_of inside ≡ a) (kept : IsKept inside) (d : Conditions) (is : d ≡ arc_value inside.setup) where
  ended_by : (job : Job) → is_job d.plan job ≡ true → is_over ((records_of inside.tables).stages job) ≡ false → IsEnded d inside.tables job
  ended_by job h left =
      let tables = tables_at inside kept d is in
      let placed = placed_job d (solo_of d).counts inside.tables tables job h in
      let node = placed.node in
      let long = tables.layout.long in
      record { is = h; node = omega (arith, node, long); left = left }

  pub ended_running : (job : Job) (attempt : Attempt) → (records_in a).stages job ≡ running attempt → IsEnded d inside.tables job
  ended_running job attempt e =
      let t = inside.tables in
      let runs = ap (λ (r : Records). r.stages job) (records_is inside a view kept) ∙ e in
      ended_by job (running_job d.plan t.layout.jobs.items t.layout.places.items (tables_at inside kept d is).layout t.progress.items t.told.items job attempt runs) (ap is_over runs)

  pub ended_ready : (job : Job) → is_ready (farm_of a.setup) (records_in a) job ≡ true → IsEnded d inside.tables job
  ended_ready job h =
      let tables = tables_at inside kept d is in
      let ready : is_ready (farm_of d) (records_of inside.tables) job ≡ true =
      ap₂ (λ (s : Conditions) (r : Records). is_ready (farm_of s) r job) (setup_is inside a view d is) (records_is inside a view kept) ∙ h in
      ended_by job (ready_job d (solo_of d).counts inside.tables tables job ready) (ready_open d (solo_of d).counts inside.tables tables job ready)

  pub ended_lost : (job : Job) (turn : ℕ) → IsLawful a (Lost job turn) → IsEnded d inside.tables job
  ended_lost job turn may =
      ⊎_elim
      (λ runs. let found = attempt_in ((records_in a).stages job) runs in ended_running job found.0 found.1)
      (λ ready. ended_ready job ready)
      (or_cases (is_running ((records_in a).stages job)) (is_ready (farm_of a.setup) (records_in a) job) may.guard)

-- ---- what the end of a run spreads

pub spread_end : (s : Conditions) (job : Job) (counts : Header) (turn : ℕ) → counts ≡ (solo_of s).ending job
    → option_map (spread_seen s) (spread_from job kinds.Ended (Ending counts)) ≡ spread_of (farm_of s) (solo_of s) (End job turn)
spread_end s (Reach n) counts turn e = ap (λ (h : Header). option_map (spread_seen s) (spread_from (Reach n) kinds.Ended (Ending h))) e
spread_end s (Finish n) counts turn e = refl

pub spread_pass : (s : Conditions) (job : Job) (of_run : Limits) (turn pages : ℕ) → of_run ≡ limits (farm_of s) job
    → option_map (spread_seen s) (spread_from job kinds.Over (Passing turn of_run)) ≡ spread_of (farm_of s) (solo_of s) (Pages job turn pages)
spread_pass s (Reach n) of_run turn pages e = ap (λ (l : Limits). option_map (spread_seen s) (spread_from (Reach n) kinds.Over (Passing turn l))) e
spread_pass s (Finish n) of_run turn pages e = refl

pub spread_node : (job : Job) (spread : Option Spread) (kind : Kind) (reached : Reached) → spread ≡ spread_from job kind reached → IfSome spread (λ s. s.node.0 ≡ node_of job)
spread_node (Reach n) spread kind reached e = subst (λ o. IfSome o (λ (s : Spread). s.node.0 ≡ n.0)) (sym e) refl
spread_node (Finish n) spread kind reached e = subst (λ o. IfSome o (λ (s : Spread). s.node.0 ≡ n.0)) (sym e) tt
