-- What is held in each journal of a farm.
use Rattle.std.proofs.Common.{◌≡◌, ℕ, ◌<◌, ◌==◌, ◌&&◌, ◌||◌, Bool, true, false, cond, not, if◌then◌else◌, List, [], ◌∷◌, ◌++◌, length, Option, Some, None, unwrap_or, option_map, option_and_then, refl, sym, ◌∙◌, ap, subst, arith, ⊎_elim}
use Rattle.std.specs.List.{find, filter, All}
use Rattle.std.proofs.lemmas.Bool.{false≢true, eq-eqb, ne_eqb, and_parts, and_from, or_cases}
use Rattle.std.proofs.lemmas.List.Elements.{All-nil, All-same, All-head, All-weaker, All-push}
use Rattle.std.proofs.lemmas.Option.{slice_get_within}
use Rattle.vf_base.specs.declared.names.Job.{Job}
use Rattle.vf_base.specs.declared.names.Job.TheVariants.{Reach, Finish}
use Rattle.vf_base.specs.declared.names.NodeNo.{NodeNo}
use Rattle.vf_base.specs.declared.run.SaveKind.{SaveKind}
use Rattle.vf_base.specs.declared.run.SaveKind.TheVariants.{Full, Incr}
use Rattle.vf_machine.proofs.CallerLemmas.{prefix, run_ends_lem}
use Rattle.vf_plan.specs.declared.plan.Node.{Node}
use Rattle.vf_plan.specs.Rules.{IsPlan}
use Rattle.vf_jobs.specs.Jobs as jobs
use Rattle.vf_jobs.specs.Jobs.{node_of, fits}
use Rattle.vf_jobs.specs.Kinds as solo
use Rattle.vf_jobs.specs.Kinds.{savepoint_of_node}
use Rattle.vf_jobs.specs.Subtree.{is_below}
use Rattle.vf_jobs.proofs.CallerLemmas.{further_below, stands_before, saved_is, upper_first}
use Rattle.vf_jobs.specs.declared.setup.Order.{Order}
use Rattle.vf_jobs.specs.declared.setup.Order.TheVariants.{Oldest, Deepest, Widest}
use Rattle.vf_journal.specs.declared.entry.Entry.{Entry}
use Rattle.vf_journal.specs.declared.entry.Entry.TheVariants.{Start, Saved, Pass, End, Pages, Copy, Lost, Short, Evict, Retire, Rest}
use Rattle.vf_journal.specs.declared.entry.Kind.{Kind}
use Rattle.vf_journal.specs.declared.entry.Kind.TheVariants as kinds
use Rattle.vf_journal.specs.declared.entry.Told.{Told}
use Rattle.vf_journal.specs.declared.entry.Told.TheVariants as told
use Rattle.vf_journal.specs.Farm.{Farm, stimulus, limits}
use Rattle.vf_journal.specs.Records.{Held, Attempt, attempt_from, full_of, Stage, idle, running, deferred, over, Records, at_first, same_job, is_job, is_known, is_idle, is_running, is_over, is_ready, image_of, is_base, is_pinned}
use Rattle.vf_journal.specs.Effects.{Guard, IsRunning, Spread, spread_of, with_stage, with_over, with_copies, without_unneeded, started_from, origin_of, is_copied, is_needed, ready_again, after}
use Rattle.vf_journal.specs.Journal.{IsJournal, Choice, begun, next, of_solo, IsOfSolo, SavesSolo, kind_of, base_for, still_held, chosen}
use Rattle.vf_journal.specs.Holding.{AreDistinct, HasBase, IsBased, IsHeld, ServesOn, AreHeld, HoldsImages, SomeCanGo}
use Rattle.vf_journal.proofs.JobLemmas.{same_node, same_job-true, planned}
use Rattle.vf_journal.proofs.JournalLemmas.{running_alive, ready_alive}
use Rattle.vf_journal.proofs.StartLemmas.{find_holds, origin_serves, origin_proper}
use Rattle.vf_journal.proofs.FarmLemmas.{over_by, deferred_by, again_by}
use Rattle.vf_journal.proofs.ImageLists.{all_both, none_any, any_holds, any_weaker, all_filtered, empty_filter, distinct_filtered, find_filtered, find_more, find_last, distinct_more, found_itself}

-- ---- what is kept

pub record ImageOk {S : Type 0} (f : Farm S) (r : Records) (h : Held) : Type 0 where
  pub save : SaveKind
  pub kind : kind_of f h.node ≡ Some (solo.saved h.turn save)
  pub over : is_over (r.stages (Reach h.node)) ≡ true
  pub based : IsBased f r h h.base

-- the full image of an attempt is of a node that is reached, and serves the job where it is still held
pub record AttemptOk {S : Type 0} (f : Farm S) (r : Records) (job : Job) (attempt : Attempt) (node : NodeNo) : Type 0 where
  pub over : is_over (r.stages (Reach node)) ≡ true
  pub serves : (image : Held) → image_of r node ≡ Some image → ServesOn f job attempt image

pub record Holds {S : Type 0} (f : Farm S) (r : Records) : Type 0 where
  pub distinct : AreDistinct r.held
  pub images : All (ImageOk f r) r.held
  pub attempts : (job : Job) (attempt : Attempt) (node : NodeNo) → IsRunning r job attempt → attempt.full ≡ Some node → AttemptOk f r job attempt node
  pub begun : (job : Job) → is_idle (r.stages job) ≡ false → is_job f.nodes job ≡ true

based_by : {S : Type 0} (f : Farm S) (r new : Records) (h : Held) (base : Option NodeNo)
    → ((b : NodeNo) (image : Held) → base ≡ Some b → image_of r b ≡ Some image → image_of new b ≡ Some image) → IsBased f r h base → IsBased f new h base
based_by f r new h None finds is = tt
based_by f r new h (Some b) finds is = record {
  image = is.image;
  found = finds b is.image refl is.found;
  full = is.full;
  above = is.above;
  proper = is.proper;
  earlier = is.earlier;
  serves = is.serves;
}

-- ---- jobs move on, and images stay

pub record Moves {S : Type 0} (f : Farm S) (r new : Records) : Type 0 where
  pub held : new.held ≡ r.held
  pub over : (job : Job) → is_over (r.stages job) ≡ true → is_over (new.stages job) ≡ true
  pub runs : (job : Job) (attempt : Attempt) → IsRunning new job attempt → IsRunning r job attempt
  pub begun : (job : Job) → is_idle (new.stages job) ≡ false → is_job f.nodes job ≡ true

moved : {S : Type 0} (f : Farm S) (r new : Records) → Holds f r → Moves f r new → Holds f new
moved f r new holds moves =
    let same = λ (n : NodeNo). ap (find (λ (h : Held). h.node.0 == n.0)) moves.held in
    record {
      distinct = subst AreDistinct (sym moves.held) holds.distinct;
      images = All-same (ImageOk f new) new.held r.held moves.held
          (All-weaker (ImageOk f r) (ImageOk f new)
          (λ h ok. record { save = ok.save; kind = ok.kind; over = moves.over (Reach h.node) ok.over; based = based_by f r new h h.base (λ b image e found. same b ∙ found) ok.based })
          r.held holds.images);
      attempts = λ job a node runs full.
          let ok = holds.attempts job a node (moves.runs job a runs) full in
          record { over = moves.over (Reach node) ok.over; serves = λ image found. ok.serves image (sym (same node) ∙ found) };
      begun = moves.begun;
    }

-- a job that is not over moves, and another that is over stays
pub still_over : (r : Records) (b : Bool) (job other : Job) (new : Stage) → same_job other job ≡ b → is_over (r.stages job) ≡ false → is_over (r.stages other) ≡ true
    → is_over (if b then new else r.stages other) ≡ true
still_over r false job other new e alive h = h
still_over r true job other new e alive h = absurd (false≢true (sym alive ∙ ap (λ j. is_over (r.stages j)) (sym (same_job-true other job e)) ∙ h))

pub over_still : (b : Bool) (t : Option Told) (s : Stage) → is_over s ≡ true → is_over (if b then over t else s) ≡ true
over_still true t s h = refl
over_still false t s h = h

begun_by : (nodes : List Node) (b : Bool) (new s : Stage) (job : Job) → (b ≡ true → is_job nodes job ≡ true) → (is_idle s ≡ false → is_job nodes job ≡ true)
    → is_idle (if b then new else s) ≡ false → is_job nodes job ≡ true
begun_by nodes true new s job here there h = here refl
begun_by nodes false new s job here there h = there h

job_same : (nodes : List Node) (job other : Job) → is_job nodes job ≡ true → same_job other job ≡ true → is_job nodes other ≡ true
job_same nodes job other is same = ap (is_job nodes) (same_job-true other job same) ∙ is

moves_over : {S : Type 0} (f : Farm S) (r : Records) (job : Job) (tells : Option Told) (kind : Kind) → Holds f r → is_job f.nodes job ≡ true → Moves f r (with_over job tells kind r)
moves_over f r (Reach n) tells kind holds is = record {
  held = refl;
  over = λ job h. over_still (same_job job (Reach n)) tells (r.stages job) h;
  runs = λ job a h. over_by (same_job job (Reach n)) tells (r.stages job) a h;
  begun = λ job h. begun_by f.nodes (same_job job (Reach n)) (over tells) (r.stages job) job (job_same f.nodes (Reach n) job is) (holds.begun job) h;
}
moves_over f r (Finish n) tells kind holds is = record {
  held = refl;
  over = λ job h. over_still (same_job job (Finish n)) tells (r.stages job) h;
  runs = λ job a h. over_by (same_job job (Finish n)) tells (r.stages job) a h;
  begun = λ job h. begun_by f.nodes (same_job job (Finish n)) (over tells) (r.stages job) job (job_same f.nodes (Finish n) job is) (holds.begun job) h;
}

moves_copies : {S : Type 0} (f : Farm S) (r : Records) (s : Option Spread) → Holds f r → Moves f r (with_copies f s r)
moves_copies f r None holds = record { held = refl; over = λ job h. h; runs = λ job a h. h; begun = holds.begun }
moves_copies f r (Some s) holds = record {
  held = refl;
  over = λ job h. over_still (is_copied f r s job) (Some (told.Copied s.node)) (r.stages job) h;
  runs = λ job a h. over_by (is_copied f r s job) (Some (told.Copied s.node)) (r.stages job) a h;
  begun = λ job h. begun_by f.nodes (is_copied f r s job) (over (Some (told.Copied s.node))) (r.stages job) job
      (λ copied. (and_parts (is_job f.nodes job) (is_below f.nodes s.node.0 (node_of job) && (not (is_over (r.stages job)) && s.fits job)) copied).0)
      (holds.begun job) h;
}

-- ---- images are given back

filtered : {S : Type 0} (f : Farm S) (r : Records) (keep : NodeNo → Bool) → Holds f r
    → All (λ h. (b : NodeNo) → h.base ≡ Some b → keep h.node ≡ true → keep b ≡ true) r.held → Holds f (record r { held = filter (λ h. keep h.node) r.held })
filtered f r keep holds bases = record {
  distinct = distinct_filtered (λ h. keep h.node) r.held holds.distinct;
  images = all_filtered (λ h. ImageOk f r h × ((b : NodeNo) → h.base ≡ Some b → keep h.node ≡ true → keep b ≡ true)) (ImageOk f new) (λ h. keep h.node)
      (λ h both kept. record {
        save = both.0.save;
        kind = both.0.kind;
        over = both.0.over;
        based = based_by f r new h h.base (λ b image e found. stays b (both.1 b e kept) ∙ found) both.0.based;
      })
      r.held (all_both (ImageOk f r) (λ h. (b : NodeNo) → h.base ≡ Some b → keep h.node ≡ true → keep b ≡ true) r.held holds.images bases);
  attempts = λ job a node runs full.
      let ok = holds.attempts job a node runs full in
      record { over = ok.over; serves = λ image found. ok.serves image (before node image (keep node) (sym (find_filtered keep node r.held) ∙ found)) };
  begun = holds.begun;
}
  where
    new : Records
    new = record r { held = filter (λ (h : Held). keep h.node) r.held }

    stays : (n : NodeNo) → keep n ≡ true → find (λ (h : Held). h.node.0 == n.0) (filter (λ (h : Held). keep h.node) r.held) ≡ image_of r n
    stays n kept = find_filtered keep n r.held ∙ ap (λ b. cond b (image_of r n) None) kept

    before : (n : NodeNo) (image : Held) (b : Bool) → cond b (image_of r n) None ≡ Some image → image_of r n ≡ Some image
    before n image true h = h
    before n image false h = cc

module _ {S : Type 0} (f : Farm S) (plan : IsPlan f.nodes) (r : Records) (holds : Holds f r) where
  inside : (n : NodeNo) → is_over (r.stages (Reach n)) ≡ true → n.0 < length f.nodes
  inside n is = by (r.stages (Reach n)) refl is
    where
      by : (s : Stage) → r.stages (Reach n) ≡ s → is_over s ≡ true → n.0 < length f.nodes
      by idle e h = absurd (false≢true h)
      by (running a) e h = absurd (false≢true h)
      by deferred e h = absurd (false≢true h)
      by (over t) e h = let p = planned f.nodes (Reach n) (holds.begun (Reach n) (ap is_idle e)) in slice_get_within f.nodes n.0 p.node p.stands

  base_of : (h : Held) (b : NodeNo) → ImageOk f r h → h.base ≡ Some b → HasBase f r h b
  base_of h b ok e = subst (IsBased f r h) e ok.based

  -- what an image needs, its base needs
  needed_above : (h : Held) → ImageOk f r h → (b : NodeNo) → h.base ≡ Some b → is_needed f r h.node ≡ true → is_needed f r b ≡ true
  needed_above h ok b e needed =
      let base = base_of h b ok e in
      any_weaker (λ job. is_below f.nodes h.node.0 (node_of job) && not (is_over (r.stages job))) (λ job. is_below f.nodes b.0 (node_of job) && not (is_over (r.stages job)))
      (jobs.jobs f.nodes)
      (λ job both.
      let two = and_parts (is_below f.nodes h.node.0 (node_of job)) (not (is_over (r.stages job))) both in
      and_from (is_below f.nodes b.0 (node_of job)) (not (is_over (r.stages job)))
      (further_below f.nodes b.0 h.node.0 (node_of job) plan (inside h.node ok.over) base.above two.0) two.1)
      needed

  retired : Holds f (without_unneeded f r)
  retired =
      filtered f r (is_needed f r) holds
      (All-weaker (ImageOk f r) (λ h. (b : NodeNo) → h.base ≡ Some b → is_needed f r h.node ≡ true → is_needed f r b ≡ true) needed_above r.held holds.images)

  -- an image that is not pinned is evicted
  evicted : (node : NodeNo) → is_pinned r node ≡ false → Holds f (record r { held = filter (λ h. not (h.node.0 == node.0)) r.held })
  evicted node free =
      filtered f r (λ n. not (n.0 == node.0)) holds
      (All-weaker (λ (h : Held). is_base node h.base ≡ false) (λ h. (b : NodeNo) → h.base ≡ Some b → not (h.node.0 == node.0) ≡ true → not (b.0 == node.0) ≡ true)
      (λ h other b e kept. ap not (sym (ap (is_base node) e) ∙ other))
      r.held (none_any (λ h. is_base node h.base) r.held free))

  -- ---- a job starts

  image_found : (n : NodeNo) (image : Held) → image_of r n ≡ Some image → ImageOk f r image × (image.node ≡ n)
  image_found n image found =
      let both = find_holds (ImageOk f r) (λ h. h.node.0 == n.0) r.held image found holds.images in
      (both.0, same_node image.node n both.1)

  one_image : (n : NodeNo) (a b : Held) → image_of r n ≡ Some a → image_of r n ≡ Some b → a ≡ b
  one_image n a b ea eb = let both : Some a ≡ Some b = sym ea ∙ eb in cc

  record Serving (job : Job) (h : Held) (node : NodeNo) : Type 0 where
    over : is_over (r.stages (Reach node)) ≡ true
    serves : (image : Held) → image_of r node ≡ Some image → ServesOn f job (attempt_from (Some h)) image

  serving : (job : Job) (h : Held) (base : Option NodeNo) → h.base ≡ base → ImageOk f r h → image_of r h.node ≡ Some h → is_below f.nodes h.node.0 (node_of job) ≡ true
      → ((node : NodeNo) → job ≡ Reach node → h.node.0 < node.0) → fits (limits f job) ((of_solo f).counts h) ≡ true → Serving job h (unwrap_or base h.node)
  serving job h None e ok found is proper fit = record {
    over = ok.over;
    serves = λ image there. subst (ServesOn f job (attempt_from (Some h))) (one_image h.node h image found there) (record {
      full = e;
      below = is;
      proper = λ node same at. let less = proper node same in omega (arith, less, at);
      fit = fit;
      earlier = omega arith;
    });
  }
  serving job h (Some b) e ok found is proper fit =
      let base = base_of h b ok e in
      let there = image_found b base.image base.found in
      let number = ap (λ (n : NodeNo). n.0) there.1 in
      let order = stands_before f.nodes b.0 h.node.0 plan base.above in
      record {
        over = ap (λ n. is_over (r.stages (Reach n))) (sym there.1) ∙ there.0.over;
        serves = λ image here. subst (ServesOn f job (attempt_from (Some h))) (one_image b base.image image base.found here) (record {
          full = base.full;
          below = ap (λ n. is_below f.nodes n (node_of job)) number ∙ further_below f.nodes b.0 h.node.0 (node_of job) plan (inside h.node ok.over) base.above is;
          proper = λ node same at. let less = proper node same in omega (arith, less, at, number, order);
          fit = base.serves (limits f job) fit;
          earlier = let before = base.earlier in omega (arith, before);
        });
      }

  -- what the attempt of a job that starts goes back to
  starting : (job : Job) (origin : Option NodeNo) (node : NodeNo) → is_job f.nodes job ≡ true → origin ≡ origin_of f (of_solo f) r job → (started_from r origin).full ≡ Some node
      → AttemptOk f r job (started_from r origin) node
  starting job None node is e full = cc
  starting job (Some from) node is e full =
      let served = origin_serves f (of_solo f) r job from (sym e) in
      let there = image_found from served.held served.found in
      let number = ap (λ (n : NodeNo). n.0) there.1 in
      let own : image_of r served.held.node ≡ Some served.held = ap (image_of r) there.1 ∙ served.found in
      let serves = serving job served.held served.held.base refl there.0 own (ap (λ n. is_below f.nodes n (node_of job)) number ∙ served.below)
      (λ top same.
      let less = origin_proper f (of_solo f) r top from plan (ap (is_job f.nodes) (sym same) ∙ is) (ap (origin_of f (of_solo f) r) (sym same) ∙ sym e) in
      omega (arith, less, number))
      served.fit in
      let attempt : attempt_from (Some served.held) ≡ started_from r (Some from) = ap attempt_from (sym served.found) in
      let named : full_of served.held ≡ node = let both : Some (full_of served.held) ≡ Some node = ap (λ (a : Attempt). a.full) attempt ∙ full in cc in
      let at : Serving job served.held node = subst (Serving job served.held) named serves in
      record { over = at.over; serves = λ image found. subst (λ a. ServesOn f job a image) attempt (at.serves image found) }

  started_by : (b : Bool) (job other : Job) (origin : Option NodeNo) (a : Attempt) (node : NodeNo) → same_job other job ≡ b → is_job f.nodes job ≡ true → origin ≡ origin_of f (of_solo f) r job
      → (if b then running (started_from r origin) else r.stages other) ≡ running a → a.full ≡ Some node → AttemptOk f r other a node
  started_by false job other origin a node e is from runs full = holds.attempts other a node runs full
  started_by true job other origin a node e is from runs full =
      let same : started_from r origin ≡ a = cc in
      subst (λ j. AttemptOk f r j a node) (sym (same_job-true other job e))
      (subst (λ a. AttemptOk f r job a node) same (starting job origin node is from (ap (λ (a : Attempt). a.full) same ∙ full)))

  started : (job : Job) (origin : Option NodeNo) → is_ready f r job ≡ true → origin ≡ origin_of f (of_solo f) r job → Holds f (with_stage job (running (started_from r origin)) r)
  started job origin ready from =
      let is = (and_parts (is_job f.nodes job) (is_idle (r.stages job) && jobs.is_ready f.nodes (λ n. is_known (r.kinds n)) job) ready).0 in
      let alive = ready_alive f r job ready in
      let new = running (started_from r origin) in
      let stays = λ (j : Job) (h : is_over (r.stages j) ≡ true). still_over r (same_job j job) job j new refl alive h in
      record {
        distinct = holds.distinct;
        images = All-weaker (ImageOk f r) (ImageOk f (with_stage job new r))
            (λ h ok. record { save = ok.save; kind = ok.kind; over = stays (Reach h.node) ok.over; based = based_by f r (with_stage job new r) h h.base (λ b image e found. found) ok.based })
            r.held holds.images;
        attempts = λ other a node runs full.
            let ok = started_by (same_job other job) job other origin a node refl is from runs full in
            record { over = stays (Reach node) ok.over; serves = ok.serves };
        begun = λ other h. begun_by f.nodes (same_job other job) new (r.stages other) other (job_same f.nodes job other is) (holds.begun other) h;
      }

  -- ---- an image is saved

  base_found : (node : NodeNo) (attempt : Attempt) (save : SaveKind) (image : Held) → IsRunning r (Reach node) attempt → base_for r node save ≡ Some image
      → (image_of r image.node ≡ Some image) × ServesOn f (Reach node) attempt image
  base_found node attempt Full image runs e = cc
  base_found node attempt Incr image runs e = by attempt.full refl (sym (ap (still_held r) runs) ∙ e)
    where
      by : (full : Option NodeNo) → attempt.full ≡ full → option_and_then (image_of r) full ≡ Some image → (image_of r image.node ≡ Some image) × ServesOn f (Reach node) attempt image
      by None is g = cc
      by (Some n) is g =
          let there = image_found n image g in
          (ap (image_of r) there.1 ∙ g, (holds.attempts (Reach node) attempt n runs is).serves image g)

  -- the base that a saved image has
  new_base : (node : NodeNo) (turn pages : ℕ) (base : Option NodeNo) (attempt : Attempt) (save : SaveKind) (found : Option Held) → IsRunning r (Reach node) attempt
      → kind_of f node ≡ Some (solo.saved turn save) → base_for r node save ≡ found → base ≡ option_map (λ (h : Held). h.node) found
      → IsBased f r (record { node = node; turn = turn; pages = pages; base = base }) base
  new_base node turn pages base attempt save None runs kind e is =
      subst (IsBased f r (record { node = node; turn = turn; pages = pages; base = base })) (sym is) tt
  new_base node turn pages base attempt save (Some image) runs kind e is =
      let both = base_found node attempt save image runs e in
      let there = image_found image.node image both.0 in
      let serves = both.1 in
      let proper = serves.proper node refl in
      let before = upper_first f.machine (prefix f.machine) (λ stim lim. run_ends_lem f.machine stim lim) f.nodes image.node.0 node.0 (limits f (Reach image.node)) (limits f (Reach node)) image.turn turn plan
      serves.below (λ same. proper (sym same))
      (saved_is f.machine (stimulus f (Reach image.node)) (limits f (Reach image.node)) f.budget image.turn there.0.save there.0.kind) serves.fit
      (saved_is f.machine (stimulus f (Reach node)) (limits f (Reach node)) f.budget turn save kind) in
      let has : HasBase f r (record { node = node; turn = turn; pages = pages; base = base }) image.node =
      record { image = image; found = both.0; full = serves.full; above = serves.below; proper = proper; earlier = before.earlier; serves = before.serves } in
      subst (IsBased f r (record { node = node; turn = turn; pages = pages; base = base })) (sym is) has

  saved : (node : NodeNo) (turn pages : ℕ) (base : Option NodeNo) (attempt : Attempt) → IsRunning r (Reach node) attempt → SavesSolo f r node turn pages base
      → Holds f (with_over (Reach node) None (kinds.Saved turn) (record r { held = r.held ++ record { node = node; turn = turn; pages = pages; base = base } ∷ [] }))
  saved node turn pages base attempt runs solo =
      let image : Held = record { node = node; turn = turn; pages = pages; base = base } in
      let alive = running_alive (r.stages (Reach node)) attempt runs in
      let new = with_over (Reach node) None (kinds.Saved turn) (record r { held = r.held ++ record { node = node; turn = turn; pages = pages; base = base } ∷ [] }) in
      let stays = λ (j : Job) (h : is_over (r.stages j) ≡ true). over_still (same_job j (Reach node)) None (r.stages j) h in
      let is = holds.begun (Reach node) (ap is_idle runs) in
      let finds = λ (b : NodeNo) (x : Held) (found : image_of r b ≡ Some x). find_more (λ (h : Held). h.node.0 == b.0) r.held (image ∷ []) x found in
      record {
        distinct = distinct_more r.held image holds.distinct
            (All-weaker (ImageOk f r) (λ h. (image.node.0 == h.node.0) ≡ false)
            (λ h ok. ne_eqb image.node.0 h.node.0 (λ same.
            false≢true (sym alive ∙ ap (λ n. is_over (r.stages (Reach n))) (same_node image.node h.node (eq-eqb image.node.0 h.node.0 same)) ∙ ok.over)))
            r.held holds.images);
        images = All-push (ImageOk f new) r.held image
            (All-weaker (ImageOk f r) (ImageOk f new)
            (λ h ok. record { save = ok.save; kind = ok.kind; over = stays (Reach h.node) ok.over; based = based_by f r new h h.base (λ b x e found. finds b x found) ok.based })
            r.held holds.images)
            (record {
              save = solo.save;
              kind = solo.kind;
              over = ap (λ b. is_over (if b then over None else r.stages (Reach node))) (eq-eqb node.0 node.0 refl);
              based = based_by f r new image base (λ b x e found. finds b x found) (new_base node turn pages base attempt solo.save (base_for r node solo.save) runs solo.kind refl solo.based);
            });
        attempts = λ job a n go full.
            let ok = holds.attempts job a n (over_by (same_job job (Reach node)) None (r.stages job) a go) full in
            record {
              over = stays (Reach n) ok.over;
              serves = λ x found.
                  ⊎_elim (λ there. ok.serves x there)
                  (λ here. absurd (false≢true (sym alive ∙ ap (λ m. is_over (r.stages (Reach m))) (same_node node n here.1) ∙ ok.over)))
                  (find_last (λ (h : Held). h.node.0 == n.0) r.held image x found);
            };
        begun = λ job h. begun_by f.nodes (same_job job (Reach node)) (over None) (r.stages job) job (job_same f.nodes (Reach node) job is) (holds.begun job) h;
      }

ended : {S : Type 0} (f : Farm S) → IsPlan f.nodes → (r : Records) → Holds f r → (job : Job) (tells : Option Told) (kind : Kind) (s : Option Spread) → is_job f.nodes job ≡ true
    → Holds f (without_unneeded f (with_copies f s (with_over job tells kind r)))
ended f plan r holds job tells kind s is =
    let x = with_over job tells kind r in
    let first = moved f r x holds (moves_over f r job tells kind holds is) in
    let both = moved f x (with_copies f s x) first (moves_copies f x s first) in
    retired f plan (with_copies f s x) both

-- ---- each entry

begun_running : {S : Type 0} (f : Farm S) (r : Records) → Holds f r → (job : Job) (a : Attempt) → IsRunning r job a → is_job f.nodes job ≡ true
begun_running f r holds job a runs = holds.begun job (ap is_idle runs)

lost_job : {S : Type 0} (f : Farm S) (r : Records) → Holds f r → (job : Job) → (is_running (r.stages job) || is_ready f r job) ≡ true → is_job f.nodes job ≡ true
lost_job f r holds job h =
    ⊎_elim (λ runs. holds.begun job (not_idle (r.stages job) runs))
    (λ ready. (and_parts (is_job f.nodes job) (is_idle (r.stages job) && jobs.is_ready f.nodes (λ n. is_known (r.kinds n)) job) ready).0)
    (or_cases (is_running (r.stages job)) (is_ready f r job) h)
  where
    not_idle : (s : Stage) → is_running s ≡ true → is_idle s ≡ false
    not_idle idle h = absurd (false≢true h)
    not_idle (running a) h = refl
    not_idle deferred h = absurd (false≢true h)
    not_idle (over t) h = absurd (false≢true h)

again_begun : (s : Stage) → is_idle (ready_again s) ≡ false → is_idle s ≡ false
again_begun idle h = h
again_begun (running a) h = h
again_begun deferred h = refl
again_begun (over t) h = h

pub again_over : (s : Stage) → is_over s ≡ true → is_over (ready_again s) ≡ true
again_over idle h = h
again_over (running a) h = absurd (false≢true h)
again_over deferred h = absurd (false≢true h)
again_over (over t) h = h

on_entry : {S : Type 0} (f : Farm S) → IsPlan f.nodes → (r : Records) → Holds f r → (e : Entry) → Guard f (of_solo f) r e → IsOfSolo f r e → Holds f (after f (of_solo f) r e)
on_entry f plan r holds (Start job origin) guard solo = started f plan r holds job origin guard.0 guard.1
on_entry f plan r holds (Saved node turn pages base) guard solo =
    retired f plan _ (saved f plan r holds node turn pages base guard.0 guard.1 solo)
on_entry f plan r holds (Pass node turn) guard solo =
    ended f plan r holds (Reach node) None kinds.Passed None (begun_running f r holds (Reach node) guard.0 guard.1)
on_entry f plan r holds (End (Reach n) turn) guard solo =
    ended f plan r holds (Reach n) (Some (told.Own ((of_solo f).outcome (Reach n)))) kinds.Ended (spread_of f (of_solo f) (End (Reach n) turn)) (begun_running f r holds (Reach n) guard.0 guard.1)
on_entry f plan r holds (End (Finish n) turn) guard solo =
    ended f plan r holds (Finish n) (Some (told.Own ((of_solo f).outcome (Finish n)))) kinds.Ended None (begun_running f r holds (Finish n) guard.0 guard.1)
on_entry f plan r holds (Pages (Reach n) turn pages) guard solo =
    ended f plan r holds (Reach n) (Some (told.Own ((of_solo f).outcome (Reach n)))) kinds.Over (spread_of f (of_solo f) (Pages (Reach n) turn pages)) (begun_running f r holds (Reach n) guard.0.attempt guard.0.runs)
on_entry f plan r holds (Pages (Finish n) turn pages) guard solo =
    ended f plan r holds (Finish n) (Some (told.Own ((of_solo f).outcome (Finish n)))) kinds.Over None (begun_running f r holds (Finish n) guard.0.attempt guard.0.runs)
on_entry f plan r holds (Copy job node) guard solo = absurd guard
on_entry f plan r holds (Lost job turn) guard solo =
    ended f plan r holds job (Some told.Lost) kinds.Lost None (lost_job f r holds job guard)
on_entry f plan r holds (Short job turn) guard solo =
    moved f r _ holds (record {
      held = refl;
      over = λ other h. still_over r (same_job other job) job other deferred refl (running_alive (r.stages job) guard.0.0 guard.0.1) h;
      runs = λ other a h. deferred_by (same_job other job) (r.stages other) a h;
      begun = λ other h. begun_by f.nodes (same_job other job) deferred (r.stages other) other
          (job_same f.nodes job other (begun_running f r holds job guard.0.0 guard.0.1)) (holds.begun other) h;
    })
on_entry f plan r holds (Evict node) guard solo = evicted f plan r holds node guard.1
on_entry f plan r holds (Retire node) guard solo = absurd guard
on_entry f plan r holds Rest guard solo = record {
  distinct = tt;
  images = All-nil (ImageOk f (after f (of_solo f) r Rest));
  attempts = λ job a node runs full.
      let ok = holds.attempts job a node (again_by (r.stages job) a runs) full in
      record { over = again_over (r.stages (Reach node)) ok.over; serves = λ image found. cc };
  begun = λ job h. holds.begun job (again_begun (r.stages job) h);
}

begun_holds : {S : Type 0} (f : Farm S) → Holds f at_first
begun_holds f = record {
  distinct = tt;
  images = All-nil (ImageOk f at_first);
  attempts = λ job a node runs full. let wrong : idle ≡ running a = runs in cc;
  begun = λ job h. absurd (false≢true (sym h));
}

pub all_hold : {S : Type 0} (f : Farm S) → IsPlan f.nodes → {choice : Choice} {js : List Entry} {r : Records} → IsJournal f choice js r → Holds f r
all_hold f plan begun = begun_holds f
all_hold f plan (next {js} {r} e before guard chosen solo) = on_entry f plan r (all_hold f plan before) e guard solo

-- ---- the laws

held_of : {S : Type 0} (f : Farm S) → IsPlan f.nodes → (r : Records) → Holds f r → AreHeld f r
held_of f plan r holds = record {
  distinct = holds.distinct;
  each = All-weaker (λ h. ImageOk f r h × (image_of r h.node ≡ Some h)) (IsHeld f r)
      (λ h both. record {
        inside = inside f plan r holds h.node both.0.over;
        save = both.0.save;
        kind = both.0.kind;
        at_save = saved_is f.machine (stimulus f (Reach h.node)) (limits f (Reach h.node)) f.budget h.turn both.0.save both.0.kind;
        over = both.0.over;
        found = both.1;
        based = both.0.based;
      })
      r.held (all_both (ImageOk f r) (λ h. image_of r h.node ≡ Some h) r.held holds.images (found_itself r.held holds.distinct));
  full = λ job attempt image runs found. by job attempt image runs attempt.full refl found;
  planned = begun_running f r holds;
}
  where
    by : (job : Job) (attempt : Attempt) (image : Held) → IsRunning r job attempt → (full : Option NodeNo) → attempt.full ≡ full → option_and_then (image_of r) full ≡ Some image
        → ServesOn f job attempt image
    by job attempt image runs None e found = cc
    by job attempt image runs (Some node) e found = (holds.attempts job attempt node runs e).serves image found

pub holds_images : {S : Type 0} (f : Farm S) → HoldsImages f
holds_images f plan choice js r journal = held_of f plan r (all_hold f plan journal)

-- ---- some image can go

none_chosen : {S : Type 0} (f : Farm S) (order : Order) (held : List Held) → chosen f order held ≡ None → held ≡ []
none_chosen f order [] h = refl
none_chosen f Oldest (x ∷ xs) h = cc
none_chosen f Deepest (x ∷ xs) h = cc
none_chosen f Widest (x ∷ xs) h = cc

base_named : (node : NodeNo) (base : Option NodeNo) → is_base node base ≡ true → base ≡ Some node
base_named node None h = absurd (false≢true h)
base_named node (Some b) h = ap Some (same_node b node h)

pinned_by : (b : Bool) → not b ≡ false → b ≡ true
pinned_by true h = refl
pinned_by false h = absurd (false≢true (sym h))

-- where each image is pinned none is held
module _ {S : Type 0} (f : Farm S) (r : Records) (held : AreHeld f r) (pinned : All (λ (h : Held). not (is_pinned r h.node) ≡ false) r.held) where
  abbrev IsStuck : Held → Type 0
  IsStuck h = IsHeld f r h × (not (is_pinned r h.node) ≡ false)

  stuck : All IsStuck r.held
  stuck = all_both (IsHeld f r) (λ (h : Held). not (is_pinned r h.node) ≡ false) r.held held.each pinned

  -- an image on it
  on : (h : Held) → IsStuck h → (above : Held) × IsStuck above × (is_base h.node above.base ≡ true)
  on h is = any_holds IsStuck (λ o. is_base h.node o.base) r.held stuck (pinned_by (is_pinned r h.node) is.1)

  base_is : (h above : Held) → IsHeld f r above → is_base h.node above.base ≡ true → HasBase f r above h.node
  base_is h above is e = subst (IsBased f r above) (base_named h.node above.base e) is.based

  -- so it is a full one
  whole : (h : Held) → IsStuck h → h.base ≡ None
  whole h is =
      let above = on h is in
      let base = base_is h above.0 above.1.0 above.2 in
      let found : Some base.image ≡ Some h = sym base.found ∙ is.0.found in
      let same : base.image ≡ h = cc in
      ap (λ (i : Held). i.base) (sym same) ∙ base.full

  none_first : (xs : List Held) → All IsStuck xs → xs ≡ []
  none_first [] all = refl
  none_first (x ∷ xs) all =
      let above = on x (All-head IsStuck x xs all) in
      let none : above.0.base ≡ None = whole above.0 above.1 in
      let some : above.0.base ≡ Some x.node = base_named x.node above.0.base above.2 in
      cc

  none_left : r.held ≡ []
  none_left = none_first r.held stuck

pub some_can_go : {S : Type 0} (f : Farm S) → SomeCanGo f
some_can_go f plan choice js r journal none =
    none_left f r (holds_images f plan choice js r journal)
    (empty_filter (λ (h : Held). not (is_pinned r h.node)) r.held (none_chosen f f.order (filter (λ (h : Held). not (is_pinned r h.node)) r.held) none))
