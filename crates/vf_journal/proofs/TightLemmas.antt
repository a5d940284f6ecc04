-- A journal that grows stays tight, and the turns of a farm are those of its attempts.
use Rattle.std.proofs.Common.{◌≡◌, ℕ, ◌+◌, ◌-◌, ◌<◌, ◌≤◌, Bool, true, false, if◌then◌else◌, List, [], ◌∷◌, ◌++◌, map, Option, Some, None, refl, sym, ◌∙◌, ap, subst, arith, sum_by, append_assoc, append-nil}
use Rattle.std.proofs.lemmas.Bool.{false≢true, false_from_ne_true}
use Rattle.std.proofs.lemmas.List.Sums.{sum_by-cons}
use Rattle.vf_base.specs.declared.names.Job.{Job}
use Rattle.vf_base.specs.declared.names.NodeNo.{NodeNo}
use Rattle.vf_machine.proofs.CallerLemmas.{touched_pages_grow_lem}
use Rattle.vf_jobs.specs.Jobs as jobs
use Rattle.vf_jobs.specs.Jobs.{node_no}
use Rattle.vf_journal.specs.declared.entry.Entry.{Entry}
use Rattle.vf_journal.specs.declared.entry.Entry.TheVariants.{Start, Saved, Pass, End, Pages, Copy, Lost, Short, Evict, Retire, Rest}
use Rattle.vf_journal.specs.Farm.{Farm, stimulus, limits}
use Rattle.vf_journal.specs.Records.{Held, Stage, idle, running, deferred, over, Records, same_job, is_running}
use Rattle.vf_journal.specs.Effects.{IsAlone, after, consequences, copies, retirings, spread_of, by_itself, with_its_copies, ends_job, Spread}
use Rattle.vf_journal.specs.Journal.{of_solo, replay, closing_of, is_ended_by, pages_in, pages_past, last_pages, turns_since, running_turns, IsWanted, IsTightAt, IsTight}
use Rattle.vf_journal.specs.Holding.{NoneRuns}
use Rattle.vf_journal.proofs.JobLemmas.{same_job-true}
use Rattle.vf_journal.proofs.AfterLemmas.{same_itself}

-- ---- pages of attempts

-- how far attempts had come before, and how far they come by more entries
abbrev pub Reaches : {S : Type 0} → Farm S → (Job → ℕ) → (Job → ℕ) → List Entry → Type 0
Reaches f before at more = (job : Job) → pages_in f job (before job + 1) ≤ last_pages f at job more

past_by : {S : Type 0} (f : Farm S) (before at : Job → ℕ) (job : Job) (es more : List Entry) (p : Option ℕ) → last_pages f before job es ≤ last_pages f at job (es ++ more)
    → elim p as (λ _. ℕ) [ Some pages ↦ pages | None ↦ last_pages f before job es ] ≤ elim p as (λ _. ℕ) [ Some pages ↦ pages | None ↦ last_pages f at job (es ++ more) ]
past_by f before at job es more None h = h
past_by f before at job es more (Some pages) h = omega arith

last_grows : {S : Type 0} (f : Farm S) (before at : Job → ℕ) (job : Job) (es more : List Entry) → pages_in f job (before job + 1) ≤ last_pages f at job more
    → last_pages f before job es ≤ last_pages f at job (es ++ more)
last_grows f before at job [] more h = h
last_grows f before at job (e ∷ es) more h = past_by f before at job es more (pages_past f job (is_ended_by e) (closing_of e)) (last_grows f before at job es more h)

-- ---- tight journals

wanted_still : {S : Type 0} (f : Farm S) (before at : Job → ℕ) (r : Records) (es more : List Entry) → Reaches f before at more → IsWanted f before r es → IsWanted f at r (es ++ more)
wanted_still f before at r es more far is =
    let grows = last_grows f before at is.job es more (far is.job) in
    let full = is.full in
    record { job = is.job; runs = is.runs; full = omega (arith, full, grows) }

tight_still : {S : Type 0} (f : Farm S) (before at : Job → ℕ) (r : Records) (e : Entry) (es more : List Entry) → Reaches f before at more → IsTightAt f before r e es → IsTightAt f at r e (es ++ more)
tight_still f before at r (Evict node) es more far is = wanted_still f before at r es more far is
tight_still f before at r (Start job origin) es more far is = tt
tight_still f before at r (Saved node turn pages base) es more far is = tt
tight_still f before at r (Pass node turn) es more far is = tt
tight_still f before at r (End job turn) es more far is = tt
tight_still f before at r (Pages job turn pages) es more far is = tt
tight_still f before at r (Copy job node) es more far is = tt
tight_still f before at r (Lost job turn) es more far is = tt
tight_still f before at r (Short job turn) es more far is = tt
tight_still f before at r (Retire node) es more far is = tt
tight_still f before at r Rest es more far is = tt

-- a tight journal stays tight with more entries that are tight, where no attempt has come less far by them
pub tight-append : {S : Type 0} (f : Farm S) (before at : Job → ℕ) (r : Records) (es more : List Entry) → Reaches f before at more → IsTight f before r es
    → IsTight f at (replay f (of_solo f) r es) more → IsTight f at r (es ++ more)
unfolding IsTight replay
tight-append f before at r [] more far tight rest = rest
tight-append f before at r (e ∷ es) more far tight rest =
    (tight_still f before at r e es more far tight.0, tight-append f before at (after f (of_solo f) r e) es more far tight.1 rest)

pub tight_nil : {S : Type 0} (f : Farm S) (at : Job → ℕ) (r : Records) → IsTight f at r []
unfolding IsTight
tight_nil f at r = tt

pub tight-cons : {S : Type 0} (f : Farm S) (at : Job → ℕ) (r : Records) (e : Entry) (es : List Entry) → IsTightAt f at r e es → IsTight f at (after f (of_solo f) r e) es → IsTight f at r (e ∷ es)
unfolding IsTight
tight-cons f at r e es here rest = (here, rest)

-- a run that goes on touches no fewer pages
pub pages_later : {S : Type 0} (f : Farm S) (job : Job) (j k : ℕ) → j ≤ k → pages_in f job j ≤ pages_in f job k
pages_later f job j k h = touched_pages_grow_lem f.machine (stimulus f job) (limits f job) j k h

-- ---- what follows from an entry

-- entries that close no attempt, and at which no image is evicted
record IsIdle {S : Type 0} (f : Farm S) (at : Job → ℕ) (es : List Entry) : Type 0 where
  tight : (r : Records) → IsTight f at r es
  pages : (job : Job) (more : List Entry) → last_pages f at job (es ++ more) ≡ last_pages f at job more

idle_nil : {S : Type 0} (f : Farm S) (at : Job → ℕ) → IsIdle f at []
unfolding IsTight
idle_nil f at = record { tight = λ r. tt; pages = λ job more. refl }

idle_copies : {S : Type 0} (f : Farm S) (at : Job → ℕ) (node : NodeNo) (xs : List Job) → IsIdle f at (map (λ job. Copy job node) xs)
unfolding IsTight
idle_copies f at node [] = record { tight = λ r. tt; pages = λ job more. refl }
idle_copies f at node (x ∷ xs) =
    let rest = idle_copies f at node xs in
    record { tight = λ r. (tt, rest.tight (after f (of_solo f) r (Copy x node))); pages = λ job more. rest.pages job more }

idle_retirings : {S : Type 0} (f : Farm S) (at : Job → ℕ) (ns : List ℕ) → IsIdle f at (map (λ n. Retire (node_no n)) ns)
unfolding IsTight
idle_retirings f at [] = record { tight = λ r. tt; pages = λ job more. refl }
idle_retirings f at (n ∷ ns) =
    let rest = idle_retirings f at ns in
    record { tight = λ r. (tt, rest.tight (after f (of_solo f) r (Retire (node_no n)))); pages = λ job more. rest.pages job more }

idle-append : {S : Type 0} (f : Farm S) (at : Job → ℕ) (a b : List Entry) → IsIdle f at a → IsIdle f at b → IsIdle f at (a ++ b)
idle-append f at a b ia ib = record {
  tight = λ r. tight-append f at at r a b
      (λ job. let none = ib.pages job [] in let same = ap (last_pages f at job) (append-nil b) in omega (arith, none, same))
      (ia.tight r) (ib.tight (replay f (of_solo f) r a));
  pages = λ job more. ap (last_pages f at job) (append_assoc a b more) ∙ ia.pages job (b ++ more) ∙ ib.pages job more;
}

copies_by : {S : Type 0} (f : Farm S) (at : Job → ℕ) (s : Option Spread) (r : Records) → IsIdle f at (copies f s r)
copies_by f at None r = idle_nil f at
copies_by f at (Some s) r = idle_copies f at s.node _

retirings_by : {S : Type 0} (f : Farm S) (at : Job → ℕ) (b : Bool) (r : Records) → IsIdle f at (if b then retirings f r else [])
retirings_by f at false r = idle_nil f at
retirings_by f at true r = idle_retirings f at _

idle_consequences : {S : Type 0} (f : Farm S) (at : Job → ℕ) (r : Records) (e : Entry) → IsIdle f at (consequences f (of_solo f) r e)
idle_consequences f at r e =
    idle-append f at (copies f (spread_of f (of_solo f) e) (by_itself f (of_solo f) r e)) (if ends_job e then retirings f (with_its_copies f (of_solo f) r e) else [])
    (copies_by f at (spread_of f (of_solo f) e) (by_itself f (of_solo f) r e)) (retirings_by f at (ends_job e) (with_its_copies f (of_solo f) r e))

-- how many pages an entry tells of a job: those of the attempt that it closes, or those of an attempt that has come as far as told
abbrev pub pages_with : {S : Type 0} → Farm S → (Job → ℕ) → Job → Entry → ℕ
pages_with f at job e = elim (pages_past f job (is_ended_by e) (closing_of e)) as (λ _. ℕ) [ Some pages ↦ pages | None ↦ pages_in f job (at job + 1) ]

told_by : {S : Type 0} (f : Farm S) (at : Job → ℕ) (job : Job) (es : List Entry) (p : Option ℕ) → last_pages f at job es ≡ pages_in f job (at job + 1)
    → elim p as (λ _. ℕ) [ Some pages ↦ pages | None ↦ last_pages f at job es ] ≡ elim p as (λ _. ℕ) [ Some pages ↦ pages | None ↦ pages_in f job (at job + 1) ]
told_by f at job es None h = h
told_by f at job es (Some pages) h = refl

pages_told : {S : Type 0} (f : Farm S) (at : Job → ℕ) (r : Records) (e : Entry) (job : Job) → last_pages f at job (e ∷ consequences f (of_solo f) r e) ≡ pages_with f at job e
pages_told f at r e job =
    let es = consequences f (of_solo f) r e in
    told_by f at job es (pages_past f job (is_ended_by e) (closing_of e))
    (ap (last_pages f at job) (sym (append-nil es)) ∙ (idle_consequences f at r e).pages job [])

-- A tight journal stays tight with an entry and what follows from it. Where it is an Evict, an image must be wanted there; and no attempt has
-- come less far than it had.
pub tight_next : {S : Type 0} (f : Farm S) (before at : Job → ℕ) (start r : Records) (js : List Entry) (e : Entry) → IsTight f before start js → replay f (of_solo f) start js ≡ r
    → ((job : Job) → pages_in f job (before job + 1) ≤ pages_with f at job e) → IsTightAt f at r e (consequences f (of_solo f) r e)
    → IsTight f at start (js ++ e ∷ consequences f (of_solo f) r e)
tight_next f before at start r js e tight come far here =
    let es = consequences f (of_solo f) r e in
    tight-append f before at start js (e ∷ es)
    (λ job. let told = pages_told f at r e job in let less = far job in omega (arith, told, less)) tight
    (subst (λ x. IsTight f at x (e ∷ es)) (sym come) (tight-cons f at r e es here ((idle_consequences f at r e).tight (after f (of_solo f) r e))))

-- ---- turns

pub no_turns : (s : Stage) (turn : ℕ) → is_running s ≡ false → turns_since s turn ≡ 0
no_turns idle turn h = refl
no_turns (running a) turn h = absurd (false≢true (sym h))
no_turns deferred turn h = refl
no_turns (over t) turn h = refl

-- where no job runs, no attempt has turns that are not counted yet
pub none_running : {S : Type 0} (f : Farm S) (r : Records) (at : Job → ℕ) → NoneRuns r → running_turns f r at ≡ 0
none_running f r at none = by (jobs.jobs f.nodes)
  where
    by : (xs : List Job) → sum_by (λ job. turns_since (r.stages job) (at job)) xs ≡ 0
    by [] = refl
    by (x ∷ xs) =
        let sum = sum_by-cons (λ job. turns_since (r.stages job) (at job)) x xs in
        let rest = by xs in
        let here = no_turns (r.stages x) (at x) (none x) in
        omega (arith, sum, rest, here)

-- ---- one job at a time

-- the one job has come so far, and every other has not started
abbrev pub far_at : Job → ℕ → Job → ℕ
far_at job turns other = if same_job other job then turns else 0

abbrev pub none_far : Job → ℕ
none_far other = 0

far_later : (b : Bool) (j k : ℕ) → j ≤ k → (if b then j else 0) ≤ (if b then k else 0)
far_later true j k h = h
far_later false j k h = omega arith

-- the job has gone on
pub tight_later : {S : Type 0} (f : Farm S) (start : Records) (js : List Entry) (job : Job) (j k : ℕ) → j ≤ k → IsTight f (far_at job j) start js → IsTight f (far_at job k) start js
tight_later f start js job j k h tight =
    subst (IsTight f (far_at job k) start) (append-nil js)
    (tight-append f (far_at job j) (far_at job k) start js []
    (λ other.
    let far = far_later (same_job other job) j k h in
    pages_later f other (far_at job j other + 1) (far_at job k other + 1) (omega (arith, far)))
    tight (tight_nil f (far_at job k) (replay f (of_solo f) start js)))

-- the job starts
pub tight_started : {S : Type 0} (f : Farm S) (start r : Records) (js : List Entry) (job : Job) (origin : Option NodeNo) (since : ℕ) → IsTight f none_far start js → replay f (of_solo f) start js ≡ r
    → IsTight f (far_at job since) start (js ++ Start job origin ∷ consequences f (of_solo f) r (Start job origin))
tight_started f start r js job origin since tight come =
    tight_next f none_far (far_at job since) start r js (Start job origin) tight come
    (λ other. pages_later f other (0 + 1) (far_at job since other + 1) (omega arith)) tt

-- an image is evicted for the job, whose next turn would pass the budget with the images that are held
pub tight_evicted : {S : Type 0} (f : Farm S) (start r : Records) (js : List Entry) (job : Job) (turns : ℕ) (node : NodeNo) → IsTight f (far_at job turns) start js → replay f (of_solo f) start js ≡ r
    → IsAlone r job → f.budget < sum_by (λ (h : Held). h.pages) r.held + pages_in f job (turns + 1)
    → IsTight f (far_at job turns) start (js ++ Evict node ∷ consequences f (of_solo f) r (Evict node))
tight_evicted f start r js job turns node tight come alone full =
    let at = far_at job turns in
    let es = consequences f (of_solo f) r (Evict node) in
    let told : last_pages f at job es ≡ pages_in f job (at job + 1) =
    ap (last_pages f at job) (sym (append-nil es)) ∙ (idle_consequences f at r (Evict node)).pages job [] in
    let here : at job ≡ turns = ap (λ b. if b then turns else 0) (same_itself job) in
    let pages = ap (λ n. pages_in f job (n + 1)) here in
    tight_next f at at start r js (Evict node) tight come (λ other. omega arith)
    (record { job = job; runs = alone; full = omega (arith, full, told, pages) })

-- what the entry that closes a job's attempt tells of its pages
pub pages_closed : {S : Type 0} (f : Farm S) (at : Job → ℕ) (job : Job) (e : Entry) (turn : ℕ) → closing_of e ≡ Some (record { job = job; turn = turn })
    → pages_with f at job e ≡ pages_in f job (if is_ended_by e then turn else turn + 1)
pages_closed f at job e turn is =
    ap (λ o. elim (pages_past f job (is_ended_by e) o) as (λ _. ℕ) [ Some pages ↦ pages | None ↦ pages_in f job (at job + 1) ]) is
    ∙ ap (λ b. elim (if b then Some (pages_in f job (if is_ended_by e then turn else turn + 1)) else None) as (λ _. ℕ) [ Some pages ↦ pages | None ↦ pages_in f job (at job + 1) ])
    (same_itself job)

apart_back : (job other : Job) → same_job other job ≡ false → same_job job other ≡ false
apart_back job other h =
    false_from_ne_true (same_job job other)
    (λ same. let one = same_job-true job other same in false≢true (sym h ∙ ap (λ j. same_job other j) one ∙ same_itself other))

-- the entry that closes the job's attempt
close_by : {S : Type 0} (f : Farm S) (job other : Job) (j : ℕ) (e : Entry) (turn : ℕ) (b : Bool) → same_job other job ≡ b → closing_of e ≡ Some (record { job = job; turn = turn })
    → pages_in f job (j + 1) ≤ pages_with f none_far job e → pages_in f other ((if b then j else 0) + 1) ≤ pages_with f none_far other e
close_by f job other j e turn true same is far =
    let one = same_job-true other job same in
    subst (λ x. pages_in f x (j + 1) ≤ pages_with f none_far x e) (sym one) far
close_by f job other j e turn false same is far =
    let apart : same_job job other ≡ false = apart_back job other same in
    let none : pages_past f other (is_ended_by e) (closing_of e) ≡ None =
    ap (pages_past f other (is_ended_by e)) is ∙ ap (λ b. if b then Some (pages_in f other (if is_ended_by e then turn else turn + 1)) else None) apart in
    let told = ap (λ o. elim o as (λ _. ℕ) [ Some pages ↦ pages | None ↦ pages_in f other (0 + 1) ]) none in
    omega (arith, told)

pub tight_closed : {S : Type 0} (f : Farm S) (start r : Records) (js : List Entry) (job : Job) (turns : ℕ) (e : Entry) (turn : ℕ) → IsTight f (far_at job turns) start js
    → replay f (of_solo f) start js ≡ r → closing_of e ≡ Some (record { job = job; turn = turn }) → pages_in f job (turns + 1) ≤ pages_with f none_far job e
    → IsTightAt f none_far r e (consequences f (of_solo f) r e) → IsTight f none_far start (js ++ e ∷ consequences f (of_solo f) r e)
tight_closed f start r js job turns e turn tight come is far here =
    tight_next f (far_at job turns) none_far start r js e tight come
    (λ other. close_by f job other turns e turn (same_job other job) refl is far) here

-- a job is lost before it starts
pub tight_unstarted : {S : Type 0} (f : Farm S) (start r : Records) (js : List Entry) (job : Job) → IsTight f none_far start js → replay f (of_solo f) start js ≡ r
    → IsTight f none_far start (js ++ Lost job 0 ∷ consequences f (of_solo f) r (Lost job 0))
tight_unstarted f start r js job tight come =
    tight_next f none_far none_far start r js (Lost job 0) tight come
    (λ other. by other (same_job job other)) tt
  where
    by : (other : Job) (b : Bool) → pages_in f other (0 + 1) ≤ elim (if b then Some (pages_in f other (0 + 1)) else None) as (λ _. ℕ) [ Some pages ↦ pages | None ↦ pages_in f other (0 + 1) ]
    by other true = omega arith
    by other false = omega arith
