-- Each image that is held serves a job that is left; so what is retired where jobs are over stood above one of them.
use Rattle.std.proofs.Common.{◌≡◌, ℕ, zero, suc, ◌+◌, ◌-◌, ◌<◌, ◌≤◌, Bool, true, false, ◌&&◌, ◌||◌, ◌==◌, nat_lt, not, cond, if◌then◌else◌, List, [], ◌∷◌, ◌++◌, length, Option, Some, None, is_some, IfSome, refl, sym, ◌∙◌, ap, subst, arith, ⊎_elim, slice_get}
use Rattle.std.specs.List.{list_any, find}
use Rattle.std.proofs.lemmas.Bool.{false≢true, and_parts, or_parts, or_cases, ne_eqb, eqb-true, eqb-false, eq-eqb, ltb-true, ltb-false}
use Rattle.vf_base.specs.declared.names.Job.{Job}
use Rattle.vf_base.specs.declared.names.Job.TheVariants.{Reach, Finish}
use Rattle.vf_base.specs.declared.names.NodeNo.{NodeNo}
use Rattle.vf_plan.specs.declared.plan.Node.{Node}
use Rattle.vf_plan.specs.Rules.{IsPlan}
use Rattle.vf_plan.proofs.CallerLemmas.{path-at, path-past}
use Rattle.vf_jobs.specs.Jobs as jobs
use Rattle.vf_jobs.specs.Jobs.{node_of, node_no}
use Rattle.vf_jobs.specs.Setup.{Conditions}
use Rattle.vf_jobs.specs.Subtree.{is_below}
use Rattle.vf_jobs.proofs.CallerLemmas.{descends, further_below, stands_before}
use Rattle.vf_journal.specs.declared.entry.Entry.{Entry}
use Rattle.vf_journal.specs.declared.entry.Entry.TheVariants.{Start, Saved, Pass, End, Pages, Copy, Lost, Short, Evict, Retire, Rest}
use Rattle.vf_journal.specs.declared.entry.Kind.{Kind}
use Rattle.vf_journal.specs.declared.entry.Told.{Told}
use Rattle.vf_journal.specs.declared.entry.Told.TheVariants as told
use Rattle.vf_journal.specs.Records.{Held, Stage, idle, running, deferred, over, Records, same_job, is_over, image_of}
use Rattle.vf_journal.specs.Effects as effects
use Rattle.vf_journal.specs.Effects.{Guard, after, by_itself, with_its_copies, with_stage, with_over, with_copies, without_unneeded, ready_again, started_from, is_copied, is_needed, is_retired}
use Rattle.vf_journal.specs.Journal.{Choice, IsJournal, begun, next}
use Rattle.vf_journal.proofs.CallerLemmas.{find_filtered}
use Rattle.vf_records.specs.Account.{farm_of, solo_of, AllServe, parent_of, node_before}
use Rattle.vf_records.proofs.CopyLemmas.{and_false, is_under}
use Rattle.vf_records.proofs.ReadyLemmas.{above, height, standing}
use Rattle.vf_records.proofs.TableLemmas.{same_is}

-- ---- what an image served, and does not any more

is_not : (b : Bool) → not b ≡ true → b ≡ false
is_not true h = absurd (false≢true h)
is_not false h = refl

is_so : (b : Bool) → not b ≡ false → b ≡ true
is_so true h = refl
is_so false h = absurd (false≢true (sym h))

so_not : (b o : Bool) → b ≡ true → (b && not o) ≡ false → o ≡ true
so_not b o is h = is_so o (ap (λ x. x && not o) (sym is) ∙ h)

-- of these one was left, and none is
lost_in : {X : Type 0} (below was now : X → Bool) (xs : List X) → list_any (λ x. below x && not (was x)) xs ≡ true → list_any (λ x. below x && not (now x)) xs ≡ false
    → (x : X) × (below x ≡ true) × (was x ≡ false) × (now x ≡ true)
lost_in below was now [] some none = absurd (false≢true some)
lost_in below was now (x ∷ xs) some none =
    let two = or_parts (below x && not (now x)) (list_any (λ x. below x && not (now x)) xs) none in
    ⊎_elim
    (λ here. let parts = and_parts (below x) (not (was x)) here in (x, parts.0, is_not (was x) parts.1, so_not (below x) (now x) parts.0 two.0))
    (λ there. lost_in below was now xs there two.1)
    (or_cases (below x && not (was x)) (list_any (λ x. below x && not (was x)) xs) some)

-- a job below the node that was left and is over
pub record IsLost (s : Conditions) (r new : Records) (n : ℕ) : Type 0 where
  pub job : Job
  pub below : is_below s.plan n (node_of job) ≡ true
  pub was : is_over (r.stages job) ≡ false
  pub now : is_over (new.stages job) ≡ true

module _ (s : Conditions) (r new : Records) (n : ℕ) where
  pub lost : (is_some (image_of new (node_no n)) ≡ true → is_some (image_of r (node_no n)) ≡ true) → is_retired (farm_of s) r (node_no n) ≡ false
      → is_retired (farm_of s) new (node_no n) ≡ true → IsLost s r new n
  lost images served gone =
      let parts = and_parts (is_some (image_of new (node_no n))) (not (is_needed (farm_of s) new (node_no n))) gone in
      let needed = so_not (is_some (image_of r (node_no n))) (is_needed (farm_of s) r (node_no n)) (images parts.0) served in
      let found = lost_in (λ job. is_below s.plan n (node_of job)) (λ job. is_over (r.stages job)) (λ job. is_over (new.stages job)) (jobs.jobs s.plan) needed
      (is_not (is_needed (farm_of s) new (node_no n)) parts.1) in
      record { job = found.0; below = found.1; was = found.2; now = found.3 }

-- where a stage is written, or stays
turned : (b : Bool) (old new : Stage) → is_over old ≡ false → is_over (if b then new else old) ≡ true → b ≡ true
turned true old new was now = refl
turned false old new was now = absurd (false≢true (sym was ∙ now))

-- where a job is over
pub closed_way : (s : Conditions) (r : Records) (job : Job) (tells : Option Told) (kind : Kind) → AllServe s r → (n : ℕ) → is_retired (farm_of s) (with_over job tells kind r) (node_no n) ≡ true
    → is_below s.plan n (node_of job) ≡ true
closed_way s r (Reach m) tells kind serve n gone =
    let l = lost s r (with_over (Reach m) tells kind r) n (λ h. h) (serve n) gone in
    ap (λ j. is_below s.plan n (node_of j)) (sym (same_is l.job (Reach m) (turned (same_job l.job (Reach m)) (r.stages l.job) (over tells) l.was l.now))) ∙ l.below
closed_way s r (Finish m) tells kind serve n gone =
    let l = lost s r (with_over (Finish m) tells kind r) n (λ h. h) (serve n) gone in
    ap (λ j. is_below s.plan n (node_of j)) (sym (same_is l.job (Finish m) (turned (same_job l.job (Finish m)) (r.stages l.job) (over tells) l.was l.now))) ∙ l.below

find_other : (n : ℕ) (held : List Held) (last : Held) → (last.node.0 == n) ≡ false → find (λ (h : Held). h.node.0 == n) (held ++ last ∷ []) ≡ find (λ (h : Held). h.node.0 == n) held
find_other n [] last e = ap (λ b. if b then Some last else None) e
find_other n (x ∷ held) last e = ap (λ o. if x.node.0 == n then Some x else o) (find_other n held last e)

-- where a job that reaches a node is over and its image is held
pub saved_way : (s : Conditions) (r : Records) (image : Held) (kind : Kind) → AllServe s r → (n : ℕ)
    → is_retired (farm_of s) (record (with_over (Reach image.node) None kind r) { held = r.held ++ image ∷ [] }) (node_no n) ≡ true → (image.node.0 ≡ n → ⊥)
    → is_below s.plan n image.node.0 ≡ true
saved_way s r image kind serve n gone other =
    let l = lost s r (record (with_over (Reach image.node) None kind r) { held = r.held ++ image ∷ [] }) n
    (λ h. ap is_some (sym (find_other n r.held image (ne_eqb image.node.0 n other))) ∙ h) (serve n) gone in
    ap (λ j. is_below s.plan n (node_of j))
    (sym (same_is l.job (Reach image.node) (turned (same_job l.job (Reach image.node)) (r.stages l.job) (over None) l.was l.now))) ∙ l.below

pub below_within : (nodes : List Node) (top n : ℕ) → is_below nodes top n ≡ true → n < length nodes
below_within nodes top n is = by (nat_lt n (length nodes)) refl
  where
    by : (b : Bool) → nat_lt n (length nodes) ≡ b → n < length nodes
    by true e = ltb-true n (length nodes) e
    by false e = absurd (false≢true (ap (list_any (λ a. a == top)) (sym (path-past nodes n (ltb-false n (length nodes) e))) ∙ is))

-- ---- of two nodes on one way the first stands above the other

module _ (nodes : List Node) (plan : IsPlan nodes) where
  below_here : (n at : ℕ) (node : Node) → slice_get nodes at ≡ Some node → is_below nodes n at ≡ ((at == n) || list_any (λ a. a == n) (above nodes node.parent))
  below_here n at node e = ap (list_any (λ a. a == n)) (path-at nodes at node e (descends nodes plan at node e))

  pub below_up : (n at : ℕ) (node : Node) → slice_get nodes at ≡ Some node → is_below nodes n at ≡ true → (at ≡ n → ⊥) → list_any (λ a. a == n) (above nodes node.parent) ≡ true
  below_up n at node e is differs =
      ap (λ b. b || list_any (λ a. a == n) (above nodes node.parent)) (sym (ne_eqb at n differs)) ∙ sym (below_here n at node e) ∙ is

  pub on_way : (bound n mid at : ℕ) → at < bound → is_below nodes n at ≡ true → is_below nodes mid at ≡ true → n < mid → is_below nodes n mid ≡ true
  on_way zero n mid at less is higher first = absurd (omega (arith, less))
  on_way (suc bound) n mid at less is higher first = by (on_way bound n mid) (nat_lt at (length nodes)) refl
    where
      Upward : Type 0
      Upward = (up : ℕ) → up < bound → is_below nodes n up ≡ true → is_below nodes mid up ≡ true → n < mid → is_below nodes n mid ≡ true

      further : Upward → (node : Node) → slice_get nodes at ≡ Some node → (parent : Option NodeNo) → node.parent ≡ parent → (at ≡ mid → ⊥) → is_below nodes n mid ≡ true
      further upward node e None p differs = absurd (false≢true (ap (λ o. list_any (λ a. a == mid) (above nodes o)) (sym p) ∙ below_up mid at node e higher differs))
      further upward node e (Some parent) p differs =
          let down : parent.0 < at = subst (λ o. IfSome o (λ q. q.0 < at)) p (descends nodes plan at node e) in
          let after = stands_before nodes mid at plan higher in
          let apart : at ≡ n → ⊥ = λ same. omega (arith, same, after, first) in
          upward parent.0 (omega (arith, less, down))
          (ap (λ o. list_any (λ a. a == n) (above nodes o)) (sym p) ∙ below_up n at node e is apart)
          (ap (λ o. list_any (λ a. a == mid) (above nodes o)) (sym p) ∙ below_up mid at node e higher differs)
          first

      at_mid : Upward → (node : Node) → slice_get nodes at ≡ Some node → (b : Bool) → (at == mid) ≡ b → is_below nodes n mid ≡ true
      at_mid upward node e true same = ap (is_below nodes n) (sym (eqb-true at mid same)) ∙ is
      at_mid upward node e false differs = further upward node e node.parent refl (eqb-false at mid differs)

      by : Upward → (b : Bool) → nat_lt at (length nodes) ≡ b → is_below nodes n mid ≡ true
      by upward true e = let st = standing nodes at (ltb-true at (length nodes) e) in at_mid upward st.0 st.1 (at == mid) refl
      by upward false e = absurd (false≢true (ap (list_any (λ a. a == n)) (sym (path-past nodes at (ltb-false at (length nodes) e))) ∙ is))

  -- below itself
  pub below_self : (at : ℕ) → at < length nodes → is_below nodes at at ≡ true
  below_self at inside = let st = standing nodes at inside in below_here at at st.0 st.1 ∙ ap (λ b. b || list_any (λ a. a == at) (above nodes st.0.parent)) (eq-eqb at at refl)

  -- from a node on the way of another, the next one up stands above all those between them
  pub none_between : (node at : ℕ) → at < length nodes → (at ≤ node → is_below nodes at node ≡ true) → (n : ℕ) → height (node_before nodes node at) ≤ n → n < at
      → (n < node → is_below nodes n node ≡ true) → ⊥
  none_between node at inside on n low high way = by (nat_lt node at) refl
    where
      st : (x : Node) × (slice_get nodes at ≡ Some x)
      st = standing nodes at inside

      further : (parent : Option NodeNo) → st.0.parent ≡ parent → height parent ≤ n → is_below nodes n at ≡ true → ⊥
      further None p h is = false≢true (ap (λ o. list_any (λ a. a == n) (above nodes o)) (sym p) ∙ below_up n at st.0 st.1 is (λ same. omega (arith, same, high)))
      further (Some parent) p h is =
          let first = stands_before nodes n parent.0 plan (ap (λ o. list_any (λ a. a == n) (above nodes o)) (sym p) ∙ below_up n at st.0 st.1 is (λ same. omega (arith, same, high))) in
          omega (arith, first, h)

      by : (b : Bool) → nat_lt node at ≡ b → ⊥
      by true e =
          let up : height (node_before nodes node at) ≡ at - 1 + 1 = ap (λ b. height (if b then Some (node_no (at - 1)) else parent_of (slice_get nodes at))) e in
          omega (arith, up, low, high)
      by false e =
          let least = ltb-false node at e in
          let up : height (node_before nodes node at) ≡ height st.0.parent =
          ap (λ b. height (if b then Some (node_no (at - 1)) else parent_of (slice_get nodes at))) e ∙ ap (λ o. height (parent_of o)) st.1 in
          further st.0.parent refl (omega (arith, up, low)) (on_way (node + 1) n at node (omega arith) (way (omega (arith, least, high))) (on (omega (arith, least))) high)

  -- and the next one up is of the plan and on the way too
  pub record IsNext (node at : ℕ) (up : Option NodeNo) : Type 0 where
    pub there : IfSome up (λ a. a.0 < length nodes)
    pub on : IfSome up (λ a. a.0 ≤ node → is_below nodes a.0 node ≡ true)
    pub lower : height up < at + 1

  pub next_up : (node at : ℕ) → at < length nodes → (at ≤ node → is_below nodes at node ≡ true) → IsNext node at (node_before nodes node at)
  next_up node at inside on = by (nat_lt node at) refl
    where
      st : (x : Node) × (slice_get nodes at ≡ Some x)
      st = standing nodes at inside

      or_true : (b : Bool) → (b || true) ≡ true
      or_true true = refl
      or_true false = refl

      upward : (parent : Option NodeNo) → st.0.parent ≡ parent → at ≤ node → IsNext node at parent
      upward None p h = record { there = tt; on = tt; lower = omega arith }
      upward (Some parent) p h =
          let down : parent.0 < at = subst (λ o. IfSome o (λ q. q.0 < at)) p (descends nodes plan at st.0 st.1) in
          let self = below_self parent.0 (omega (arith, down, inside)) in
          let is : is_below nodes parent.0 at ≡ true =
          below_here parent.0 at st.0 st.1 ∙ ap (λ o. (at == parent.0) || list_any (λ a. a == parent.0) (above nodes o)) p ∙ ap (λ b. (at == parent.0) || b) self ∙ or_true (at == parent.0) in
          record {
            there = omega (arith, down, inside);
            on = λ _. further_below nodes parent.0 at node plan inside is (on h);
            lower = omega (arith, down);
          }

      by : (b : Bool) → nat_lt node at ≡ b → IsNext node at (node_before nodes node at)
      by true e =
          let less = ltb-true node at e in
          subst (λ b. IsNext node at (if b then Some (node_no (at - 1)) else parent_of (slice_get nodes at))) (sym e)
          (record {
            there = omega (arith, less, inside);
            on = λ h. (let same : at - 1 ≡ node = omega (arith, h, less) in ap (λ k. is_below nodes k node) same ∙ below_self node (omega (arith, less, inside)));
            lower = omega (arith, less);
          })
      by false e =
          subst (λ b. IsNext node at (if b then Some (node_no (at - 1)) else parent_of (slice_get nodes at))) (sym e)
          (subst (λ o. IsNext node at (parent_of o)) (sym st.1) (upward st.0.parent refl (ltb-false node at e)))

-- ---- where copies follow

-- what is retired where jobs are over by copies stands in the node's subtree, not after the last of them, or on the node's way
pub copied_from : (s : Conditions) → IsPlan s.plan → (r : Records) (spread : effects.Spread) (node last : ℕ) → spread.node.0 ≡ node
    → ((job : Job) → is_copied (farm_of s) r spread job ≡ true → node_of job ≤ last) → ((n : ℕ) → is_retired (farm_of s) r (node_no n) ≡ true → is_below s.plan n node ≡ true)
    → (n : ℕ) → is_retired (farm_of s) (with_copies (farm_of s) (Some spread) r) (node_no n) ≡ true → (node ≤ n → n ≤ last → ⊥) → is_below s.plan n node ≡ true
copied_from s plan r spread node last same most way n gone other = by (is_retired (farm_of s) r (node_no n)) refl
  where
    by : (b : Bool) → is_retired (farm_of s) r (node_no n) ≡ b → is_below s.plan n node ≡ true
    by true e = way n e
    by false e =
        let l = lost s r (with_copies (farm_of s) (Some spread) r) n (λ h. h) e gone in
        let is = turned (is_copied (farm_of s) r spread l.job) (r.stages l.job) (over (Some (told.Copied spread.node))) l.was l.now in
        let under : is_below s.plan node (node_of l.job) ≡ true = ap (λ k. is_below s.plan k (node_of l.job)) (sym same) ∙ is_under s spread r l.job is in
        let first = stands_before s.plan n (node_of l.job) plan l.below in
        let end = most l.job is in
        first_of (nat_lt n node) refl l.job under l.below (omega (arith, first, end))
      where
        first_of : (b : Bool) → nat_lt n node ≡ b → (job : Job) → is_below s.plan node (node_of job) ≡ true → is_below s.plan n (node_of job) ≡ true → n ≤ last → is_below s.plan n node ≡ true
        first_of true less job under is inside = on_way s.plan plan (node_of job + 1) n node (node_of job) (omega arith) is under (ltb-true n node less)
        first_of false most job under is inside = absurd (other (ltb-false n node most) inside)

-- ---- in each journal all images serve

module _ (s : Conditions) where
  serve_left : (r : Records) → AllServe s (without_unneeded (farm_of s) r)
  serve_left r n = by (is_needed (farm_of s) r (node_no n)) refl
    where
      by : (b : Bool) → is_needed (farm_of s) r (node_no n) ≡ b → is_retired (farm_of s) (without_unneeded (farm_of s) r) (node_no n) ≡ false
      by true e = ap (λ b. is_some (image_of (without_unneeded (farm_of s) r) (node_no n)) && not b) e ∙ and_false (is_some (image_of (without_unneeded (farm_of s) r) (node_no n)))
      by false e =
          ap (λ (o : Option Held). is_some o && not (is_needed (farm_of s) r (node_no n)))
          (find_filtered (is_needed (farm_of s) r) (node_no n) r.held ∙ ap (λ b. cond b (find (λ (h : Held). h.node.0 == n) r.held) None) e)

  serve_still : (r new : Records) → AllServe s r → ((n : ℕ) → is_some (image_of new (node_no n)) ≡ true → is_some (image_of r (node_no n)) ≡ true)
      → ((job : Job) → is_over (new.stages job) ≡ true → is_over (r.stages job) ≡ true) → AllServe s new
  serve_still r new serve images past n = by (is_retired (farm_of s) new (node_no n)) refl
    where
      by : (b : Bool) → is_retired (farm_of s) new (node_no n) ≡ b → is_retired (farm_of s) new (node_no n) ≡ false
      by true e = let l = lost s r new n (images n) (serve n) e in absurd (false≢true (sym l.was ∙ past l.job l.now))
      by false e = e

  not_turned : (b : Bool) (old new : Stage) → is_over new ≡ false → is_over (if b then new else old) ≡ true → is_over old ≡ true
  not_turned true old new left h = absurd (false≢true (sym left ∙ h))
  not_turned false old new left h = h

  not_again : (stage : Stage) → is_over (ready_again stage) ≡ true → is_over stage ≡ true
  not_again idle h = h
  not_again (running attempt) h = h
  not_again deferred h = absurd (false≢true h)
  not_again (over tells) h = h

  some_of : (b : Bool) (o : Option Held) → is_some (cond b o None) ≡ true → is_some o ≡ true
  some_of true o h = h
  some_of false o h = absurd (false≢true h)

  serve_after : (r : Records) (e : Entry) → AllServe s r → Guard (farm_of s) (solo_of s) r e → AllServe s (after (farm_of s) (solo_of s) r e)
  serve_after r (Saved node turn pages base) serve guard = serve_left (with_its_copies (farm_of s) (solo_of s) r (Saved node turn pages base))
  serve_after r (Pass node turn) serve guard = serve_left (with_its_copies (farm_of s) (solo_of s) r (Pass node turn))
  serve_after r (End job turn) serve guard = serve_left (with_its_copies (farm_of s) (solo_of s) r (End job turn))
  serve_after r (Pages job turn pages) serve guard = serve_left (with_its_copies (farm_of s) (solo_of s) r (Pages job turn pages))
  serve_after r (Lost job turn) serve guard = serve_left (with_its_copies (farm_of s) (solo_of s) r (Lost job turn))
  serve_after r (Start job origin) serve guard =
      serve_still r (with_stage job (running (started_from r origin)) r) serve (λ n h. h)
      (λ other. not_turned (same_job other job) (r.stages other) (running (started_from r origin)) refl)
  serve_after r (Short job turn) serve guard =
      serve_still r (with_stage job deferred r) serve (λ n h. h) (λ other. not_turned (same_job other job) (r.stages other) deferred refl)
  serve_after r (Evict node) serve guard =
      serve_still r (by_itself (farm_of s) (solo_of s) r (Evict node)) serve
      (λ n h. some_of (not (n == node.0)) (image_of r (node_no n)) (ap is_some (sym (find_filtered (λ m. not (m.0 == node.0)) (node_no n) r.held)) ∙ h)) (λ job h. h)
  serve_after r Rest serve guard = serve_still r (by_itself (farm_of s) (solo_of s) r Rest) serve (λ n h. absurd (false≢true h)) (λ job. not_again (r.stages job))
  serve_after r (Copy job node) serve guard = absurd guard
  serve_after r (Retire node) serve guard = absurd guard

  pub all_serve : (choice : Choice) (js : List Entry) (r : Records) → IsJournal (farm_of s) choice js r → AllServe s r
  all_serve choice [] r begun = λ n. refl
  all_serve choice js r (next {js = before} {r = old} e lawful guard chosen solo) = serve_after old e (all_serve choice before old lawful) guard
