-- A job that starts from an image goes on from a point of its own solo run.
use Rattle.std.proofs.Common.{◌≡◌, ℕ, zero, suc, ◌+◌, ◌-◌, ◌<◌, ◌≤◌, ◌==◌, ◌&&◌, ◌||◌, Bool, true, false, cond, if◌then◌else◌, List, [], ◌∷◌, length, length-append, drop, Option, Some, None, is_some, IfSome, slice_get, option_map, refl, sym, ◌∙◌, ap, ap₂, subst, arith}
use Rattle.std.specs.List.{list_any, find, All}
use Rattle.std.proofs.Math.Path.{fun_ext}
use Rattle.std.proofs.lemmas.Bool.{false≢true, eqb-true, eq-eqb, and_parts, or_left, or_right}
use Rattle.std.proofs.lemmas.List.Elements.{All-head, All-tail}
use Rattle.vf_base.specs.declared.names.Job.{Job}
use Rattle.vf_base.specs.declared.names.Job.TheVariants.{Reach, Finish}
use Rattle.vf_base.specs.declared.names.NodeNo.{NodeNo}
use Rattle.vf_base.specs.declared.run.Header.{Header}
use Rattle.vf_base.specs.declared.run.Limits.{Limits}
use Rattle.vf_machine.specs.Run.{Moment, moment_at, reads_next, is_ending}
use Rattle.vf_machine.specs.Pages.{page_count, page_differs, is_touched}
use Rattle.vf_machine.specs.Laws.{SameFor}
use Rattle.vf_machine.proofs.CallerLemmas.{is_touched-zero, is_touched-suc, later, reads_grow, same_read, count_below-ext, prefix, run_ends_lem}
use Rattle.vf_plan.specs.declared.plan.Node.{Node}
use Rattle.vf_plan.specs.Paths.{path, at_parent, grown, with_number}
use Rattle.vf_plan.proofs.CallerLemmas.{path-at}
use Rattle.vf_plan.specs.Rules.{IsPlan}
use Rattle.vf_jobs.specs.Jobs as jobs
use Rattle.vf_jobs.specs.Jobs.{node_of, node_no, fits, holds_fitting, first_fitting, sources}
use Rattle.vf_jobs.specs.Kinds.{save_of}
use Rattle.vf_jobs.specs.Subtree.{is_below}
use Rattle.vf_jobs.proofs.CallerLemmas.{begins, below, descends, stands_before, shares_save_point}
use Rattle.vf_journal.specs.Farm.{Farm, Point, stimulus, limits, point_in, last_save, has_read_all, is_decided}
use Rattle.vf_journal.specs.Records.{Held, Records, is_job, image_of}
use Rattle.vf_journal.specs.Effects.{Seen, origin_of}
use Rattle.vf_journal.proofs.JobLemmas.{planned}
use Rattle.vf_journal.proofs.PointLemmas.{IsRunAt}
use Rattle.vf_journal.proofs.DecisionLemmas.{SavesAt, savepoint_is}

-- ---- the run of a job below an image

decided_less : (above below save pass reads : Bool) → (below ≡ true → (above ≡ true) × (reads ≡ pass)) → ((above && save) || (above && pass)) ≡ false
    → ((below && save) || (below && reads)) ≡ false
decided_less above false save pass reads same h = refl
decided_less above true save pass reads same h = let both = same refl in ap₂ (λ a r. (a && save) || (a && r)) (sym both.0) both.1 ∙ h

module _ {S : Type 0} (f : Farm S) (plan : IsPlan f.nodes) (n : NodeNo) (job : Job) (t : ℕ) (now : Point S) (run : IsRunAt f (Reach n) t now) (saved : SavesAt f n t)
    (is : is_below f.nodes n.0 (node_of job) ≡ true) (fit : fits (limits f job) (point_in f (Reach n) t).moment.header ≡ true) where
  same : (k : ℕ) → k ≤ t → SameFor f.machine (stimulus f (Reach n)) (limits f (Reach n)) (stimulus f job) (limits f job) k
  same k h =
      shares_save_point f.machine (prefix f.machine) (λ stim lim. run_ends_lem f.machine stim lim) f.nodes n.0 (node_of job) (limits f (Reach n)) (limits f job) t k
      plan is (savepoint_is f n t now run saved) fit h

  touched_same : (k : ℕ) → k ≤ t → (page : ℕ)
      → is_touched f.machine (stimulus f (Reach n)) (limits f (Reach n)) k page ≡ is_touched f.machine (stimulus f job) (limits f job) k page
  touched_same zero h page =
      is_touched-zero f.machine (stimulus f (Reach n)) (limits f (Reach n)) page ∙ sym (is_touched-zero f.machine (stimulus f job) (limits f job) page)
  touched_same (suc k) h page =
      let m = f.machine in
      let before = ap (λ (x : Moment S). m.words x.state) (same k (omega (arith, h))).moment in
      let after = ap (λ (x : Moment S). m.words x.state) (same (suc k) h).moment in
      is_touched-suc m (stimulus f (Reach n)) (limits f (Reach n)) k page
      ∙ ap₂ ◌||◌ (touched_same k (omega (arith, h)) page) (ap₂ (λ x y. page_differs x y page) before after)
      ∙ sym (is_touched-suc m (stimulus f job) (limits f job) k page)

  saves_same : (k : ℕ) → k ≤ t
      → last_save f.machine (stimulus f (Reach n)) (limits f (Reach n)) k ≡ last_save f.machine (stimulus f job) (limits f job) k
  saves_same zero h = refl
  saves_same (suc k) h = ap save_of ((same (suc k) h).marks k (omega arith))

  points_same : (k : ℕ) → k ≤ t → point_in f (Reach n) k ≡ point_in f job k
  points_same k h =
      let moments = (same k h).moment in
      let texts = (same k h).text in
      let saves = saves_same k h in
      let pages = fun_ext (touched_same k h) in
      λ x. record { moment = moments x; text = texts x; saved = saves x; touched = pages x }

  long : length (stimulus f (Reach n)) ≤ length (stimulus f job)
  long =
      let more = begins f.nodes n.0 (node_of job) plan (below f.nodes n.0 (descends f.nodes plan) (node_of job) is) in
      let e = ap length more.1 in
      let sum = length-append (stimulus f (Reach n)) more.0 in
      omega (arith, e, sum)

  reads_below : (k : ℕ) → k ≤ t → (point_in f (Reach n) k).moment.header.reads ≤ length (stimulus f (Reach n))
  reads_below k h =
      let m = f.machine in
      let stim = stimulus f (Reach n) in
      let lim = limits f (Reach n) in
      let grown = later (λ (x : Moment S). x.header.reads) m stim lim (λ x. reads_grow m stim lim x) k (t - k) in
      let end = ap (λ j. (moment_at m stim lim j).header.reads) (let j : k + (t - k) ≡ t = omega (arith, h) in j) in
      let whole = eqb-true (moment_at m stim lim t).header.reads (length stim)
      (and_parts (has_read_all f (Reach n) (point_in f (Reach n) t)) (is_some (point_in f (Reach n) t).saved) saved).0 in
      omega (arith, grown, end, whole)

  undecided_by : (other : Job) → length (stimulus f (Reach n)) ≤ length (stimulus f other) → (k : ℕ) → k < t → is_decided f other (point_in f (Reach n) k) ≡ false
  undecided_by (Finish other) more k h = refl
  undecided_by (Reach other) more k h =
      let p = point_in f (Reach n) k in
      let within = reads_below k (omega (arith, h)) in
      let s = stimulus f (Reach n) in
      let t = stimulus f (Reach other) in
      decided_less (has_read_all f (Reach n) p) (has_read_all f (Reach other) p) (is_some p.saved) (reads_next f.machine s p.moment) (reads_next f.machine t p.moment)
      (λ e.
      let all = eqb-true p.moment.header.reads (length t) e in
      (eq-eqb p.moment.header.reads (length s) (omega (arith, all, within, more)), same_read f.machine t s p.moment (omega (arith, all)) within))
      (run.undecided k h)

  pub run_from_image : IsRunAt f job t now
  run_from_image = record {
    at = run.at ∙ points_same t (omega arith);
    goes = λ j h. ap is_ending (sym ((same t (omega arith)).marks j h)) ∙ run.goes j h;
    undecided = λ j h. ap (is_decided f job) (sym (points_same j (omega (arith, h)))) ∙ undecided_by job long j h;
    within =
        let pages = count_below-ext (is_touched f.machine (stimulus f (Reach n)) (limits f (Reach n)) t) (is_touched f.machine (stimulus f job) (limits f job) t)
        (page_count (f.machine.words f.machine.start)) (λ page _. touched_same t (omega arith) page) in
        omega (arith, pages, run.within);
  }

-- ---- the origin of a job

found_by : (limits : Limits) (held : ℕ → Option Header) (x n : ℕ) (more : List ℕ) (here : Bool) → holds_fitting limits (held x) ≡ here
    → (first_fitting limits held more ≡ Some n → (holds_fitting limits (held n) ≡ true) × (list_any (λ a. a == n) more ≡ true))
    → (if here then Some x else first_fitting limits held more) ≡ Some n → (holds_fitting limits (held n) ≡ true) × (((x == n) || list_any (λ a. a == n) more) ≡ true)
found_by limits held x n more true e rest h =
    let same : x ≡ n = cc in
    (ap (λ i. holds_fitting limits (held i)) (sym same) ∙ e, or_left (x == n) (list_any (λ a. a == n) more) (eq-eqb x n same))
found_by limits held x n more false e rest h =
    let r = rest h in (r.0, or_right (x == n) (list_any (λ a. a == n) more) r.1)

first_fitting_finds : (limits : Limits) (held : ℕ → Option Header) (ns : List ℕ) (n : ℕ) → first_fitting limits held ns ≡ Some n
    → (holds_fitting limits (held n) ≡ true) × (list_any (λ a. a == n) ns ≡ true)
first_fitting_finds limits held [] n h = cc
first_fitting_finds limits held (x ∷ more) n h =
    found_by limits held x n more (holds_fitting limits (held x)) refl (first_fitting_finds limits held more n) h

any_dropped : (p : ℕ → Bool) (xs : List ℕ) → list_any p (drop 1 xs) ≡ true → list_any p xs ≡ true
any_dropped p [] h = h
any_dropped p (x ∷ more) h = or_right (p x) (list_any p more) h

source_above : {S : Type 0} (f : Farm S) (job : Job) (n : ℕ) → list_any (λ a. a == n) (sources f.nodes job) ≡ true → is_below f.nodes n (node_of job) ≡ true
source_above f (Reach top) n h = any_dropped (λ a. a == n) (path f.nodes top.0) h
source_above f (Finish top) n h = h

-- what a search finds passes its test, and has what all have
pub find_holds : {X : Type 0} (P : X → Type 0) (p : X → Bool) (xs : List X) (x : X) → find p xs ≡ Some x → All P xs → (P x × (p x ≡ true))
find_holds P p [] x h all = cc
find_holds P p (y ∷ more) x h all = by (p y) refl h (λ e. find_holds P p more x e (All-tail P y more all))
  where
    by : (here : Bool) → p y ≡ here → cond here (Some y) (find p more) ≡ Some x → (find p more ≡ Some x → (P x × (p x ≡ true))) → (P x × (p x ≡ true))
    by true e g rest = let same : y ≡ x = cc in (subst P same (All-head P y more all), ap p (sym same) ∙ e)
    by false e g rest = rest g

-- an image that serves a job: held, on the job's way, and within its limits
pub record IsServed {S : Type 0} (f : Farm S) (seen : Seen) (r : Records) (job : Job) (node : NodeNo) : Type 0 where
  pub held : Held
  pub found : image_of r node ≡ Some held
  pub below : is_below f.nodes node.0 (node_of job) ≡ true
  pub fit : fits (limits f job) (seen.counts held) ≡ true

served_by : {S : Type 0} (f : Farm S) (seen : Seen) (r : Records) (job : Job) (node : NodeNo) (image : Option Held) → image_of r node ≡ image
    → is_below f.nodes node.0 (node_of job) ≡ true → holds_fitting (limits f job) (option_map seen.counts image) ≡ true → IsServed f seen r job node
served_by f seen r job node None e is h = absurd (false≢true h)
served_by f seen r job node (Some held) e is h = record { held = held; found = e; below = is; fit = h }

origin_by : {S : Type 0} (f : Farm S) (seen : Seen) (r : Records) (job : Job) (node : NodeNo) (found : Option ℕ)
    → jobs.origin f.given f.nodes (λ n. option_map seen.counts (image_of r (node_no n))) job ≡ found → option_map node_no found ≡ Some node → IsServed f seen r job node
origin_by f seen r job node None e h = cc
origin_by f seen r job node (Some n) e h =
    let found = first_fitting_finds (limits f job) (λ n. option_map seen.counts (image_of r (node_no n))) (sources f.nodes job) n e in
    let same : node_no n ≡ node = cc in
    subst (IsServed f seen r job) same
    (served_by f seen r job (node_no n) (image_of r (node_no n)) refl (source_above f job n found.1) found.0)

pub origin_serves : {S : Type 0} (f : Farm S) (seen : Seen) (r : Records) (job : Job) (node : NodeNo) → origin_of f seen r job ≡ Some node → IsServed f seen r job node
origin_serves f seen r job node h =
    origin_by f seen r job node (jobs.origin f.given f.nodes (λ n. option_map seen.counts (image_of r (node_no n))) job) refl h

-- the images that may serve a job that reaches a node are those of nodes above it
source_proper : (nodes : List Node) (x n : ℕ) (node : Node) → IsPlan nodes → slice_get nodes n ≡ Some node → list_any (λ a. a == x) (drop 1 (path nodes n)) ≡ true → x < n
source_proper nodes x n node plan e h = by node.parent refl
  where
    down : IfSome node.parent (λ p. p.0 < n)
    down = descends nodes plan n node e

    by : (parent : Option NodeNo) → node.parent ≡ parent → x < n
    by None p = absurd (false≢true (sym (ap (λ o. list_any (λ a. a == x) (at_parent [] (grown with_number [] nodes) o)) p)
        ∙ sym (ap (λ ns. list_any (λ a. a == x) (drop 1 ns)) (path-at nodes n node e down)) ∙ h))
    by (Some parent) p =
        let up : is_below nodes x parent.0 ≡ true =
        sym (ap (λ o. list_any (λ a. a == x) (at_parent [] (grown with_number [] nodes) o)) p)
        ∙ sym (ap (λ ns. list_any (λ a. a == x) (drop 1 ns)) (path-at nodes n node e down)) ∙ h in
        let first = stands_before nodes x parent.0 plan up in
        let less : parent.0 < n = subst (λ o. IfSome o (λ q. q.0 < n)) p down in
        omega (arith, first, less)

pub origin_proper : {S : Type 0} (f : Farm S) (seen : Seen) (r : Records) (n node : NodeNo) → IsPlan f.nodes → is_job f.nodes (Reach n) ≡ true
    → origin_of f seen r (Reach n) ≡ Some node → node.0 < n.0
origin_proper f seen r n node plan is h = by (jobs.origin f.given f.nodes held (Reach n)) refl h
  where
    held : ℕ → Option Header
    held = λ n. option_map seen.counts (image_of r (node_no n))

    by : (found : Option ℕ) → jobs.origin f.given f.nodes (λ n. option_map seen.counts (image_of r (node_no n))) (Reach n) ≡ found → option_map node_no found ≡ Some node → node.0 < n.0
    by None e g = cc
    by (Some x) e g =
        let p = planned f.nodes (Reach n) is in
        let found = first_fitting_finds (limits f (Reach n)) (λ n. option_map seen.counts (image_of r (node_no n))) (sources f.nodes (Reach n)) x e in
        let less = source_proper f.nodes x n.0 p.node plan p.stands found.1 in
        let same : node_no x ≡ node = cc in
        let number = ap (λ (m : NodeNo). m.0) same in
        omega (arith, less, number)

map_alike : {A : Type 0} (c d : Held → A) (o : Option Held) → ((h : Held) → o ≡ Some h → c h ≡ d h) → option_map c o ≡ option_map d o
map_alike c d None alike = refl
map_alike c d (Some h) alike = ap Some (alike h refl)

-- the origin depends on the counts of held images alone
pub origin_alike : {S : Type 0} (f : Farm S) (a b : Seen) (r : Records) (job : Job) → ((node : NodeNo) (h : Held) → image_of r node ≡ Some h → a.counts h ≡ b.counts h)
    → origin_of f a r job ≡ origin_of f b r job
origin_alike f a b r job alike =
    ap (λ held. option_map node_no (jobs.origin f.given f.nodes held job))
    (fun_ext (λ n. map_alike a.counts b.counts (image_of r (node_no n)) (λ h e. alike (node_no n) h e)))
