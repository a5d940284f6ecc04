-- What an entry, with what follows from it, leaves of jobs and images.
use Rattle.std.proofs.Common.{◌≡◌, ℕ, ◌<◌, ◌≤◌, ◌==◌, ◌||◌, Bool, true, false, cond, not, if◌then◌else◌, List, [], ◌∷◌, ◌++◌, Option, Some, None, option_and_then, refl, sym, ◌∙◌, ap, subst, arith, ⊎_elim, inl, inr, ◌⊎◌, length, is_some}
use Rattle.std.specs.List.{list_any, find, filter, All}
use Rattle.std.proofs.lemmas.Bool.{false≢true, eq-eqb, or_cases, or_from, false_from_ne_true}
use Rattle.std.proofs.lemmas.List.Elements.{All-head, All-tail}
use Rattle.vf_base.specs.declared.names.Job.{Job}
use Rattle.vf_base.specs.declared.names.Job.TheVariants.{Reach, Finish}
use Rattle.vf_base.specs.declared.names.NodeNo.{NodeNo}
use Rattle.vf_base.specs.declared.run.SaveKind.{SaveKind}
use Rattle.vf_base.specs.declared.run.SaveKind.TheVariants.{Full, Incr}
use Rattle.vf_jobs.specs.Jobs as jobs
use Rattle.vf_jobs.specs.declared.setup.Order.{Order}
use Rattle.vf_jobs.specs.declared.setup.Order.TheVariants.{Oldest, Deepest, Widest}
use Rattle.vf_plan.specs.Paths.{path}
use Rattle.vf_journal.specs.declared.entry.Entry.{Entry}
use Rattle.vf_journal.specs.declared.entry.Entry.TheVariants.{Start, Saved, Pass, End, Pages, Copy, Lost, Short, Evict, Retire, Rest}
use Rattle.vf_journal.specs.declared.entry.Kind.{Kind}
use Rattle.vf_journal.specs.declared.entry.Kind.TheVariants as kinds
use Rattle.vf_journal.specs.declared.entry.Told.{Told}
use Rattle.vf_journal.specs.declared.entry.Told.TheVariants as told
use Rattle.vf_journal.specs.Farm.{Farm}
use Rattle.vf_journal.specs.Records.{Held, Attempt, Stage, running, deferred, over, Records, same_job, is_job, is_running, is_deferred, is_over, is_ready, some_job, image_of, is_pinned}
use Rattle.vf_journal.specs.Effects.{Seen, Guard, IsRunning, IsAlone, Spread, spread_of, with_over, with_copies, without_unneeded, started_from, is_copied, is_needed, after}
use Rattle.vf_journal.specs.Journal.{base_for, still_held, goes_before, earlier_of, most, chosen, next_evicted, first_ready}
use Rattle.vf_journal.specs.Laws.{IsDone}
use Rattle.vf_journal.specs.Holding.{IsHeld, ServesOn, AreHeld, saved_image, ended_job, NoneRuns, jobs_left}
use Rattle.vf_journal.proofs.JobLemmas.{same_node, same_job-true}
use Rattle.vf_journal.proofs.JournalLemmas.{running_alive, runs_alive, ready_alive}
use Rattle.vf_journal.proofs.StartLemmas.{find_holds}
use Rattle.vf_journal.proofs.FarmLemmas.{over_held, copies_held}
use Rattle.vf_journal.proofs.HoldingLemmas.{still_over, over_still, again_over}
use Rattle.vf_journal.proofs.ImageLists.{find_filtered, find_last, all_filtered}

-- ---- images

last_kept : (o : Option Held) (h : Held) (b : Bool) → cond b o None ≡ Some h → o ≡ Some h
last_kept o h true e = e
last_kept o h false e = cc

last_unneeded : {S : Type 0} (f : Farm S) (r : Records) (n : NodeNo) (h : Held) → image_of (without_unneeded f r) n ≡ Some h → image_of r n ≡ Some h
last_unneeded f r n h e = last_kept (image_of r n) h (is_needed f r n) (sym (find_filtered (is_needed f r) n r.held) ∙ e)

last_over : {S : Type 0} (f : Farm S) (r : Records) (job : Job) (tells : Option Told) (kind : Kind) (s : Option Spread) (n : NodeNo) (h : Held)
    → image_of (without_unneeded f (with_copies f s (with_over job tells kind r))) n ≡ Some h → image_of r n ≡ Some h
last_over f r job tells kind s n h e =
    ap (find (λ (x : Held). x.node.0 == n.0)) (sym (copies_held f s (with_over job tells kind r) ∙ over_held job tells kind r))
    ∙ last_unneeded f (with_copies f s (with_over job tells kind r)) n h e

-- no entry but a Saved brings an image
pub image_last : {S : Type 0} (f : Farm S) (seen : Seen) (r : Records) (e : Entry) (n : NodeNo) (h : Held) → image_of (after f seen r e) n ≡ Some h
    → (image_of r n ≡ Some h) ⊎ ((saved_image e ≡ Some h) × (h.node ≡ n))
image_last f seen r (Start job origin) n h e = inl e
image_last f seen r (Saved node turn pages base) n h e =
    let image : Held = record { node = node; turn = turn; pages = pages; base = base } in
    let more : find (λ (x : Held). x.node.0 == n.0) (r.held ++ record { node = node; turn = turn; pages = pages; base = base } ∷ []) ≡ Some h =
    last_unneeded f (with_over (Reach node) None (kinds.Saved turn) (record r { held = r.held ++ record { node = node; turn = turn; pages = pages; base = base } ∷ [] })) n h e in
    ⊎_elim (λ there. inl there) (λ here. inr (ap Some here.0, ap (λ (x : Held). x.node) (sym here.0) ∙ same_node node n here.1))
    (find_last (λ (x : Held). x.node.0 == n.0) r.held image h more)
image_last f seen r (Pass node turn) n h e = inl (last_over f r (Reach node) None kinds.Passed None n h e)
image_last f seen r (End job turn) n h e = inl (last_over f r job (Some (told.Own (seen.outcome job))) kinds.Ended (spread_of f seen (End job turn)) n h e)
image_last f seen r (Pages job turn pages) n h e = inl (last_over f r job (Some (told.Own (seen.outcome job))) kinds.Over (spread_of f seen (Pages job turn pages)) n h e)
image_last f seen r (Copy job node) n h e = inl e
image_last f seen r (Lost job turn) n h e = inl (last_over f r job (Some told.Lost) kinds.Lost None n h e)
image_last f seen r (Short job turn) n h e = inl e
image_last f seen r (Evict node) n h e = inl (last_kept (image_of r n) h (not (n.0 == node.0)) (sym (find_filtered (λ (m : NodeNo). not (m.0 == node.0)) n r.held) ∙ e))
image_last f seen r (Retire node) n h e = inl e
image_last f seen r Rest n h e = cc

-- after an Evict a node has the image that it had, or none where it is the node
pub evict_leaves : {S : Type 0} (f : Farm S) (seen : Seen) (r : Records) (node n : NodeNo) → image_of (after f seen r (Evict node)) n ≡ (if n.0 == node.0 then None else image_of r n)
evict_leaves f seen r node n = find_filtered (λ (m : NodeNo). not (m.0 == node.0)) n r.held ∙ turned (n.0 == node.0) (image_of r n)
  where
    turned : (b : Bool) (o : Option Held) → cond (not b) o None ≡ (if b then None else o)
    turned true o = refl
    turned false o = refl

shorter : {X : Type 0} (p : X → Bool) (xs : List X) → length (filter p xs) ≤ length xs
shorter p [] = omega arith
shorter p (x ∷ xs) = by (p x) (shorter p xs)
  where
    by : (b : Bool) → length (filter p xs) ≤ length xs → length (cond b (x ∷ filter p xs) (filter p xs)) ≤ length (x ∷ xs)
    by true rest = omega (arith, rest)
    by false rest = omega (arith, rest)

one_less : {X : Type 0} (p : X → Bool) (xs : List X) → is_some (find p xs) ≡ true → length (filter (λ x. not (p x)) xs) < length xs
one_less p [] h = absurd (false≢true h)
one_less p (x ∷ xs) h = by (p x) h (shorter (λ x. not (p x)) xs) (one_less p xs)
  where
    by : (b : Bool) → is_some (cond b (Some x) (find p xs)) ≡ true → length (filter (λ x. not (p x)) xs) ≤ length xs
        → (is_some (find p xs) ≡ true → length (filter (λ x. not (p x)) xs) < length xs)
        → length (cond (not b) (x ∷ filter (λ x. not (p x)) xs) (filter (λ x. not (p x)) xs)) < length (x ∷ xs)
    by true g less rest = omega (arith, less)
    by false g less rest = let one = rest g in omega (arith, one)

-- fewer images are held after an Evict
pub evict_falls : {S : Type 0} (f : Farm S) (seen : Seen) (r : Records) (node : NodeNo) → is_some (image_of r node) ≡ true → length (after f seen r (Evict node)).held < length r.held
evict_falls f seen r node h = one_less (λ (x : Held). x.node.0 == node.0) r.held h

-- an image that is found is held
pub found_held : {S : Type 0} (f : Farm S) (r : Records) (n : NodeNo) (h : Held) → AreHeld f r → image_of r n ≡ Some h → IsHeld f r h × (h.node ≡ n)
found_held f r n h held e =
    let both = find_holds (IsHeld f r) (λ x. x.node.0 == n.0) r.held h e held.each in (both.0, same_node h.node n both.1)

-- a node that a running job reaches has no image
pub running_free : {S : Type 0} (f : Farm S) (r : Records) (node : NodeNo) (attempt : Attempt) → AreHeld f r → IsRunning r (Reach node) attempt → image_of r node ≡ None
running_free f r node attempt held runs = by (image_of r node) refl
  where
    by : (o : Option Held) → image_of r node ≡ o → o ≡ None
    by None e = refl
    by (Some h) e =
        let found = found_held f r node h held e in
        absurd (false≢true (sym (running_alive (r.stages (Reach node)) attempt runs) ∙ ap (λ n. is_over (r.stages (Reach n))) (sym found.1) ∙ found.0.over))

-- ---- the base of an image that is saved

held_by : {S : Type 0} (f : Farm S) (r : Records) (full : Option NodeNo) (h : Held) → AreHeld f r → option_and_then (image_of r) full ≡ Some h → IsHeld f r h
held_by f r None h held e = cc
held_by f r (Some node) h held e = (found_held f r node h held e).0

-- it is held, and serves the job
pub base_serves : {S : Type 0} (f : Farm S) (r : Records) (node : NodeNo) (attempt : Attempt) (save : SaveKind) (h : Held) → AreHeld f r → IsRunning r (Reach node) attempt
    → base_for r node save ≡ Some h → IsHeld f r h × ServesOn f (Reach node) attempt h
base_serves f r node attempt Full h held runs e = cc
base_serves f r node attempt Incr h held runs e =
    let full : option_and_then (image_of r) attempt.full ≡ Some h = sym (ap (still_held r) runs) ∙ e in
    (held_by f r attempt.full h held full, held.full (Reach node) attempt h runs full)

-- ---- the image that is evicted

most_holds : (P : Held → Type 0) (much : Held → ℕ) (held : List Held) (h : Held) → All P held → most much held ≡ Some h → P h
most_holds P much [] h all e = cc
most_holds P much (x ∷ xs) h all e = by (most much xs) refl e (λ y g. most_holds P much xs y (All-tail P x xs all) g)
  where
    pick : (b : Bool) (y : Held) → P y → Some (cond b x y) ≡ Some h → P h
    pick true y p g = let same : x ≡ h = cc in subst P same (All-head P x xs all)
    pick false y p g = let same : y ≡ h = cc in subst P same p

    by : (o : Option Held) → most much xs ≡ o → Some (earlier_of much x o) ≡ Some h → ((y : Held) → most much xs ≡ Some y → P y) → P h
    by None f g rest = let same : x ≡ h = cc in subst P same (All-head P x xs all)
    by (Some y) f g rest = pick (goes_before much x y) y (rest y f) g

chosen_holds : {S : Type 0} (f : Farm S) (P : Held → Type 0) (order : Order) (held : List Held) (h : Held) → All P held → chosen f order held ≡ Some h → P h
chosen_holds f P Oldest [] h all e = cc
chosen_holds f P Oldest (x ∷ xs) h all e = let same : x ≡ h = cc in subst P same (All-head P x xs all)
chosen_holds f P Deepest held h all e = most_holds P (λ h. length (path f.nodes h.node.0)) held h all e
chosen_holds f P Widest held h all e = most_holds P (λ h. h.pages) held h all e

-- it is held, and not pinned
pub evicted_is : {S : Type 0} (f : Farm S) (r : Records) (h : Held) → AreHeld f r → next_evicted f r ≡ Some h → (image_of r h.node ≡ Some h) × (is_pinned r h.node ≡ false)
evicted_is f r h held e =
    chosen_holds f (λ (x : Held). (image_of r x.node ≡ Some x) × (is_pinned r x.node ≡ false)) f.order (filter (λ (x : Held). not (is_pinned r x.node)) r.held) h
    (all_filtered (IsHeld f r) (λ (x : Held). (image_of r x.node ≡ Some x) × (is_pinned r x.node ≡ false)) (λ (x : Held). not (is_pinned r x.node))
    (λ x is free. (is.found, unpinned (is_pinned r x.node) free)) r.held held.each)
    e
  where
    unpinned : (b : Bool) → not b ≡ true → b ≡ false
    unpinned true h = absurd (false≢true h)
    unpinned false h = refl

-- ---- jobs

over_over : (r : Records) (job other : Job) (tells : Option Told) (kind : Kind) → is_over (r.stages other) ≡ true → is_over ((with_over job tells kind r).stages other) ≡ true
over_over r (Reach n) other tells kind h = over_still (same_job other (Reach n)) tells (r.stages other) h
over_over r (Finish n) other tells kind h = over_still (same_job other (Finish n)) tells (r.stages other) h

over_copies : {S : Type 0} (f : Farm S) (r : Records) (s : Option Spread) (other : Job) → is_over (r.stages other) ≡ true → is_over ((with_copies f s r).stages other) ≡ true
over_copies f r None other h = h
over_copies f r (Some s) other h = over_still (is_copied f r s other) (Some (told.Copied s.node)) (r.stages other) h

over_ended : {S : Type 0} (f : Farm S) (r : Records) (job other : Job) (tells : Option Told) (kind : Kind) (s : Option Spread) → is_over (r.stages other) ≡ true
    → is_over ((with_copies f s (with_over job tells kind r)).stages other) ≡ true
over_ended f r job other tells kind s h = over_copies f (with_over job tells kind r) s other (over_over r job other tells kind h)

-- a job that is over stays over
pub over_stays : {S : Type 0} (f : Farm S) (seen : Seen) (r : Records) (e : Entry) (job : Job) → Guard f seen r e → is_over (r.stages job) ≡ true → is_over ((after f seen r e).stages job) ≡ true
over_stays f seen r (Start other origin) job guard h = still_over r (same_job job other) other job (running (started_from r origin)) refl (ready_alive f r other guard.0) h
over_stays f seen r (Saved node turn pages base) job guard h = over_still (same_job job (Reach node)) None (r.stages job) h
over_stays f seen r (Pass node turn) job guard h = over_still (same_job job (Reach node)) None (r.stages job) h
over_stays f seen r (End other turn) job guard h = over_ended f r other job (Some (told.Own (seen.outcome other))) kinds.Ended (spread_of f seen (End other turn)) h
over_stays f seen r (Pages other turn pages) job guard h = over_ended f r other job (Some (told.Own (seen.outcome other))) kinds.Over (spread_of f seen (Pages other turn pages)) h
over_stays f seen r (Copy other node) job guard h = absurd guard
over_stays f seen r (Lost other turn) job guard h = over_over r other job (Some told.Lost) kinds.Lost h
over_stays f seen r (Short other turn) job guard h = still_over r (same_job job other) other job deferred refl (running_alive (r.stages other) guard.0.0 guard.0.1) h
over_stays f seen r (Evict node) job guard h = h
over_stays f seen r (Retire node) job guard h = absurd guard
over_stays f seen r Rest job guard h = again_over (r.stages job) h

pub same_itself : (job : Job) → same_job job job ≡ true
same_itself (Reach n) = eq-eqb n.0 n.0 refl
same_itself (Finish n) = eq-eqb n.0 n.0 refl

own_over : (r : Records) (job : Job) (tells : Option Told) (kind : Kind) → is_over ((with_over job tells kind r).stages job) ≡ true
own_over r (Reach n) tells kind = ap (λ b. is_over (if b then over tells else r.stages (Reach n))) (same_itself (Reach n))
own_over r (Finish n) tells kind = ap (λ b. is_over (if b then over tells else r.stages (Finish n))) (same_itself (Finish n))

same_some : (a b : Job) → Some a ≡ Some b → a ≡ b
same_some a b e = cc

-- the job of the entry is over
pub ended_over : {S : Type 0} (f : Farm S) (seen : Seen) (r : Records) (e : Entry) (job : Job) → ended_job e ≡ Some job → is_over ((after f seen r e).stages job) ≡ true
ended_over f seen r (Start other origin) job e = cc
ended_over f seen r (Saved node turn pages base) job e =
    ap (λ j. is_over (if same_job j (Reach node) then over None else r.stages j)) (sym (same_some (Reach node) job e)) ∙ own_over r (Reach node) None (kinds.Saved turn)
ended_over f seen r (Pass node turn) job e =
    ap (λ j. is_over (if same_job j (Reach node) then over None else r.stages j)) (sym (same_some (Reach node) job e)) ∙ own_over r (Reach node) None kinds.Passed
ended_over f seen r (End other turn) job e =
    ap (λ j. is_over ((after f seen r (End other turn)).stages j)) (sym (same_some other job e))
    ∙ over_copies f (with_over other (Some (told.Own (seen.outcome other))) kinds.Ended r) (spread_of f seen (End other turn)) other (own_over r other (Some (told.Own (seen.outcome other))) kinds.Ended)
ended_over f seen r (Pages other turn pages) job e =
    ap (λ j. is_over ((after f seen r (Pages other turn pages)).stages j)) (sym (same_some other job e))
    ∙ over_copies f (with_over other (Some (told.Own (seen.outcome other))) kinds.Over r) (spread_of f seen (Pages other turn pages)) other (own_over r other (Some (told.Own (seen.outcome other))) kinds.Over)
ended_over f seen r (Copy other node) job e = cc
ended_over f seen r (Lost other turn) job e =
    ap (λ j. is_over ((with_over other (Some told.Lost) kinds.Lost r).stages j)) (sym (same_some other job e)) ∙ own_over r other (Some told.Lost) kinds.Lost
ended_over f seen r (Short other turn) job e = cc
ended_over f seen r (Evict node) job e = cc
ended_over f seen r (Retire node) job e = cc
ended_over f seen r Rest job e = cc

-- ---- which jobs run

ran_by : (b : Bool) (t : Option Told) (s : Stage) → is_running (if b then over t else s) ≡ true → is_running s ≡ true
ran_by true t s h = absurd (false≢true h)
ran_by false t s h = h

ran_over : (r : Records) (job other : Job) (tells : Option Told) (kind : Kind) → is_running ((with_over job tells kind r).stages other) ≡ true → is_running (r.stages other) ≡ true
ran_over r (Reach n) other tells kind h = ran_by (same_job other (Reach n)) tells (r.stages other) h
ran_over r (Finish n) other tells kind h = ran_by (same_job other (Finish n)) tells (r.stages other) h

ran_copies : {S : Type 0} (f : Farm S) (r : Records) (s : Option Spread) (other : Job) → is_running ((with_copies f s r).stages other) ≡ true → is_running (r.stages other) ≡ true
ran_copies f r None other h = h
ran_copies f r (Some s) other h = ran_by (is_copied f r s other) (Some (told.Copied s.node)) (r.stages other) h

-- a job that runs after the end of another has run before
ran_ended : {S : Type 0} (f : Farm S) (seen : Seen) (r : Records) (e : Entry) (job other : Job) → ended_job e ≡ Some job → is_running ((after f seen r e).stages other) ≡ true → is_running (r.stages other) ≡ true
ran_ended f seen r (Start j origin) job other is h = cc
ran_ended f seen r (Saved node turn pages base) job other is h = ran_by (same_job other (Reach node)) None (r.stages other) h
ran_ended f seen r (Pass node turn) job other is h = ran_by (same_job other (Reach node)) None (r.stages other) h
ran_ended f seen r (End j turn) job other is h =
    ran_over r j other (Some (told.Own (seen.outcome j))) kinds.Ended (ran_copies f (with_over j (Some (told.Own (seen.outcome j))) kinds.Ended r) (spread_of f seen (End j turn)) other h)
ran_ended f seen r (Pages j turn pages) job other is h =
    ran_over r j other (Some (told.Own (seen.outcome j))) kinds.Over (ran_copies f (with_over j (Some (told.Own (seen.outcome j))) kinds.Over r) (spread_of f seen (Pages j turn pages)) other h)
ran_ended f seen r (Copy j node) job other is h = cc
ran_ended f seen r (Lost j turn) job other is h = ran_over r j other (Some told.Lost) kinds.Lost h
ran_ended f seen r (Short j turn) job other is h = cc
ran_ended f seen r (Evict node) job other is h = cc
ran_ended f seen r (Retire node) job other is h = cc
ran_ended f seen r Rest job other is h = cc

-- where one job runs, none runs after its end
pub none_runs_after : {S : Type 0} (f : Farm S) (seen : Seen) (r : Records) (e : Entry) (job : Job) → IsAlone r job → ended_job e ≡ Some job → NoneRuns (after f seen r e)
none_runs_after f seen r e job alone is other =
    false_from_ne_true (is_running ((after f seen r e).stages other))
    (λ h.
    let same = alone.only other (ran_ended f seen r e job other is h) in
    let ended = ended_over f seen r e job is in
    let alive = runs_alive ((after f seen r e).stages other) h in
    false≢true (sym alive ∙ ap (λ j. is_over ((after f seen r e).stages j)) same ∙ ended))

-- and where none runs, none does after the loss of a job that has not started
pub none_runs_still : {S : Type 0} (f : Farm S) (seen : Seen) (r : Records) (e : Entry) (job : Job) → NoneRuns r → ended_job e ≡ Some job → NoneRuns (after f seen r e)
none_runs_still f seen r e job none is other =
    false_from_ne_true (is_running ((after f seen r e).stages other))
    (λ h. false≢true (sym (none other) ∙ ran_ended f seen r e job other is h))

-- the job that starts where none runs
pub alone_started : {S : Type 0} (f : Farm S) (seen : Seen) (r : Records) (job : Job) (origin : Option NodeNo) → NoneRuns r → IsAlone (after f seen r (Start job origin)) job
alone_started f seen r job origin none = record {
  attempt = started_from r origin;
  runs = ap (λ b. if b then running (started_from r origin) else r.stages job) (same_itself job);
  only = λ other h. by other (same_job other job) refl h;
}
  where
    by : (other : Job) (b : Bool) → same_job other job ≡ b → is_running (if b then running (started_from r origin) else r.stages other) ≡ true → other ≡ job
    by other true e h = same_job-true other job e
    by other false e h = absurd (false≢true (sym (none other) ∙ h))

-- ---- which job comes first

found_none : {X : Type 0} (p : X → Bool) (xs : List X) → find p xs ≡ None → list_any p xs ≡ false
found_none p [] h = refl
found_none p (x ∷ xs) h = by (p x) refl h (found_none p xs)
  where
    by : (b : Bool) → p x ≡ b → cond b (Some x) (find p xs) ≡ None → (find p xs ≡ None → list_any p xs ≡ false) → (p x || list_any p xs) ≡ false
    by true e g rest = cc
    by false e g rest = or_from (p x) (list_any p xs) e (rest g)

pub none_ready : {S : Type 0} (f : Farm S) (r : Records) → first_ready f r ≡ None → some_job f (is_ready f r) ≡ false
none_ready f r h = found_none (is_ready f r) (jobs.jobs f.nodes) h

no_job : {S : Type 0} (f : Farm S) (test : Job → Bool) → ((job : Job) → test job ≡ false) → some_job f test ≡ false
no_job f test none = by (jobs.jobs f.nodes)
  where
    by : (xs : List Job) → list_any test xs ≡ false
    by [] = refl
    by (x ∷ xs) = or_from (test x) (list_any test xs) (none x) (by xs)

-- where no job is ready, runs or is deferred the farm has done its work
pub is_done : {S : Type 0} (f : Farm S) (r : Records) → first_ready f r ≡ None → NoneRuns r → ((job : Job) → is_deferred (r.stages job) ≡ false) → IsDone f r
is_done f r ready runs waits = record { ready = none_ready f r ready; running = no_job f (λ job. is_running (r.stages job)) runs; deferred = no_job f (λ job. is_deferred (r.stages job)) waits }

-- ---- how many jobs are left

fewer_by : {X : Type 0} (a b : Bool) (x : X) (now was : List X) → (b ≡ true → a ≡ true) → length now ≤ length was → length (cond b (x ∷ now) now) ≤ length (cond a (x ∷ was) was)
fewer_by true true x now was h rest = omega (arith, rest)
fewer_by true false x now was h rest = omega (arith, rest)
fewer_by false true x now was h rest = absurd (false≢true (h refl))
fewer_by false false x now was h rest = rest

pub filter_fewer : {X : Type 0} (was now : X → Bool) (xs : List X) → ((x : X) → now x ≡ true → was x ≡ true) → length (filter now xs) ≤ length (filter was xs)
filter_fewer was now [] stays = omega arith
filter_fewer was now (x ∷ xs) stays = fewer_by (was x) (now x) x (filter now xs) (filter was xs) (stays x) (filter_fewer was now xs stays)

less_here : {X : Type 0} (a b : Bool) (x : X) (now was : List X) → a ≡ true → b ≡ false → length now ≤ length was → length (cond b (x ∷ now) now) < length (cond a (x ∷ was) was)
less_here true true x now was ea eb rest = absurd (false≢true (sym eb))
less_here true false x now was ea eb rest = omega (arith, rest)
less_here false b x now was ea eb rest = absurd (false≢true ea)

less_there : {X : Type 0} (a b : Bool) (x : X) (now was : List X) → (b ≡ true → a ≡ true) → length now < length was → length (cond b (x ∷ now) now) < length (cond a (x ∷ was) was)
less_there true true x now was h rest = omega (arith, rest)
less_there true false x now was h rest = omega (arith, rest)
less_there false true x now was h rest = absurd (false≢true (h refl))
less_there false false x now was h rest = rest

filter_less : (was now : Job → Bool) (job : Job) (xs : List Job) → ((x : Job) → now x ≡ true → was x ≡ true) → was job ≡ true → now job ≡ false → list_any (same_job job) xs ≡ true
    → length (filter now xs) < length (filter was xs)
filter_less was now job [] stays before ended is = absurd (false≢true is)
filter_less was now job (x ∷ xs) stays before ended is =
    ⊎_elim
    (λ here.
    let same = same_job-true job x here in
    less_here (was x) (now x) x (filter now xs) (filter was xs) (ap was (sym same) ∙ before) (ap now (sym same) ∙ ended) (filter_fewer was now xs stays))
    (λ there. less_there (was x) (now x) x (filter now xs) (filter was xs) (stays x) (filter_less was now job xs stays before ended there))
    (or_cases (same_job job x) (list_any (same_job job) xs) is)

turn_back : (a b : Bool) → (a ≡ true → b ≡ true) → not b ≡ true → not a ≡ true
turn_back true true h e = e
turn_back true false h e = absurd (false≢true (h refl))
turn_back false b h e = refl

-- with the end of a job of the plan fewer jobs are left
pub left_falls : {S : Type 0} (f : Farm S) (seen : Seen) (r : Records) (e : Entry) (job : Job) → Guard f seen r e → ended_job e ≡ Some job → is_job f.nodes job ≡ true → is_over (r.stages job) ≡ false
    → jobs_left f (after f seen r e) < jobs_left f r
left_falls f seen r e job guard is planned before =
    filter_less (λ j. not (is_over (r.stages j))) (λ j. not (is_over ((after f seen r e).stages j))) job (jobs.jobs f.nodes)
    (λ j h. turn_back (is_over (r.stages j)) (is_over ((after f seen r e).stages j)) (over_stays f seen r e j guard) h) (ap not before)
    (ap not (ended_over f seen r e job is)) planned
