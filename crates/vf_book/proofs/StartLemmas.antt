-- A job that starts from an image of a book, and the base over which an image is kept.
use Rattle.std.proofs.Common.{◌≡◌, ℕ, ◌+◌, ◌<◌, ◌||◌, Bool, true, false, if◌then◌else◌, List, [], ◌∷◌, ◌++◌, length, Option, Some, None, option_map, is_some, refl, sym, ap, ◌∙◌, arith, subst}
use Rattle.std.specs.List.{list_any}
use Rattle.std.proofs.lemmas.Bool.{eqb-true, eq-eqb, false≢true}
use Rattle.vf_base.specs.declared.names.Job.{Job}
use Rattle.vf_base.specs.declared.names.Job.TheVariants.{Reach, Finish}
use Rattle.vf_base.specs.declared.names.NodeNo.{NodeNo}
use Rattle.vf_base.specs.declared.run.SaveKind.{SaveKind}
use Rattle.vf_plan.specs.declared.plan.Node.{Node}
use Rattle.vf_jobs.specs.Jobs.{node_of, node_no, has_child, jobs_from}
use Rattle.vf_jobs.specs.Setup.{Conditions}
use Rattle.vf_journal.specs.declared.entry.Entry.TheVariants.{Start}
use Rattle.vf_journal.specs.Records.{Held, Records, attempt_from, running, image_of, is_job, same_job}
use Rattle.vf_journal.specs.Effects.{origin_of, started_from}
use Rattle.vf_journal.specs.Journal.{base_for}
use Rattle.vf_journal.specs.Holding.{HasBase, IsBased, IsHeld}
use Rattle.vf_journal.proofs.CallerLemmas.{found_held, base_serves, origin_serves}
use Rattle.vf_records.specs.Account.{Account, IsAccount, farm_of, solo_of, records_in}
use Rattle.vf_image.specs.Images.{Checkpoint, IsImage, IsBaseOf}
use Rattle.vf_image.specs.Simulators.{Simulator}
use Rattle.vf_book.specs.Book.{image_at, IsHeldAs, Fits, IsBook, Appends}
use Rattle.vf_book.specs.Attempts.{IsOpen}
use Rattle.vf_book.specs.Forks.{HasBaseIn, IsSource, HasSource, StandsAt, StandsAtOrigin, IsBaseFor, HasBaseOf}
use Rattle.vf_book.proofs.CallLemmas.{made_of, held_inside}
use Rattle.vf_book.proofs.Entries.{IsImageOf, origin_serves_job, base_serves_job}

-- ---- the image that the records hold

pub fit_some : (c : Conditions) (o : Option Checkpoint) (h : Held) → Fits c o (Some h) → is_some o ≡ true
fit_some c None h fits = absurd fits
fit_some c (Some i) h fits = refl

pub fit_at : (c : Conditions) (o : Option Checkpoint) (h : Held) (i : Checkpoint) → Fits c o (Some h) → o ≡ Some i → IsHeldAs c i h
fit_at c None h i fits e = absurd fits
fit_at c (Some j) h i fits e = let is : j ≡ i = cc in subst (λ (x : Checkpoint). IsHeldAs c x h) is fits

-- an image that is held, with its checkpoint
record Found (c : Conditions) (o : Option Checkpoint) (h : Held) : Type 0 where
  image : Checkpoint
  there : o ≡ Some image
  held : IsHeldAs c image h

fit_found : (c : Conditions) (o : Option Checkpoint) (h : Held) → Fits c o (Some h) → Found c o h
fit_found c None h fits = absurd fits
fit_found c (Some i) h fits = record { image = i; there = refl; held = fits }

module _ (a : Account) (images : List (Option Checkpoint)) (book : IsBook (made_of a images)) where
  fits_held : (n : NodeNo) (h : Held) → image_of (records_in a) n ≡ Some h → Fits a.setup (image_at images n.0) (Some h)
  fits_held n h found = subst (Fits a.setup (image_at images n.0)) found (book.held n.0)

  held_in : (n : NodeNo) (h : Held) → image_of (records_in a) n ≡ Some h → n.0 < length images
  held_in n h found = held_inside (made_of a images) n book (ap is_some found)

  held_there : (n : NodeNo) (h : Held) → image_of (records_in a) n ≡ Some h → is_some (image_at images n.0) ≡ true
  held_there n h found = fit_some a.setup (image_at images n.0) h (fits_held n h found)

  held_as : (n : NodeNo) (h : Held) (i : Checkpoint) → image_of (records_in a) n ≡ Some h → image_at images n.0 ≡ Some i → IsHeldAs a.setup i h
  held_as n h i found e = fit_at a.setup (image_at images n.0) h i (fits_held n h found) e

module _ (a : Account) (images : List (Option Checkpoint)) (book : IsBook (made_of a images)) (kept : IsAccount a) where
  -- the base that an image names is there
  base_held : (i : Checkpoint) (h : Held) → IsHeldAs a.setup i h → IsHeld (farm_of a.setup) (records_in a) h → (base : Option NodeNo) → h.base ≡ base → i.base ≡ base → HasBaseIn images i base
  base_held i h as_held held None e e' = tt
  base_held i h as_held held (Some b) e e' =
      let has : HasBase (farm_of a.setup) (records_in a) h b = subst (IsBased (farm_of a.setup) (records_in a) h) e held.based in
      let found = fit_found a.setup (image_at images b.0) has.image (fits_held a images book b has.image has.found) in
      let base = found.image in
      let node : base.node ≡ b = found.held.node ∙ (found_held (farm_of a.setup) (records_in a) b has.image kept.images has.found).1 in
      let of_image : IsBaseOf i base = record {
        named = e' ∙ ap (λ (n : NodeNo). Some n) (sym node);
        full = found.held.base ∙ has.full;
        setup = found.held.setup ∙ sym as_held.setup;
      } in
      (base, found.there, held_in a images book b has.image has.found, of_image, λ same. has.proper (same ∙ ap (λ (n : NodeNo). n.0) as_held.node))

  source_at : (job : Job) (node : NodeNo) (h : Held) (i : Checkpoint) → node_of job < length a.setup.plan → origin_of (farm_of a.setup) (solo_of a.setup) (records_in a) job ≡ Some node
      → image_of (records_in a) node ≡ Some h → image_at images node.0 ≡ Some i → IsImage i → IsSource images node job i
  source_at job node h i planned e found there image =
      let as_held = held_as a images book node h i found there in
      let held = found_held (farm_of a.setup) (records_in a) node h kept.images found in
      let of_image : IsImageOf a.setup i h = record { image = image; setup = as_held.setup; node = as_held.node; turn = as_held.turn } in
      record {
        inside = held_in a images book node h found;
        there = there;
        named = as_held.node ∙ held.1;
        job = subst (λ (c : Conditions). node_of job < length c.plan) (sym as_held.setup) planned;
        serves = origin_serves_job a job node i h e found held.1 of_image;
        base = base_held i h as_held held.0 i.base (sym as_held.base) refl;
      }

  -- where a job starts from an image, it is there
  pub source_of : (job : Job) (origin : Option NodeNo) → node_of job < length a.setup.plan → origin ≡ origin_of (farm_of a.setup) (solo_of a.setup) (records_in a) job → HasSource images origin job
  source_of job None planned e = tt
  source_of job (Some node) planned e =
      let served = origin_serves (farm_of a.setup) (solo_of a.setup) (records_in a) job node (sym e) in (
        held_in a images book node served.held served.found,
        held_there a images book node served.held served.found,
        λ i there image. source_at job node served.held i planned (sym e) served.found there image,
      )

  -- where an image is kept over a base, it is there
  base_at : (s : Simulator) (node : NodeNo) (kind : SaveKind) (h : Held) (i : Checkpoint) (runs : IsOpen a s) → s.job ≡ Reach node → base_for (records_in a) node kind ≡ Some h
      → image_of (records_in a) h.node ≡ Some h → image_at images h.node.0 ≡ Some i → IsImage i → IsBaseFor s h.node i
  base_at s node kind h i runs reach found here there image =
      let as_held = held_as a images book h.node h i here there in
      let serves = base_serves_job a s node kind i h kept runs reach found record { image = image; setup = as_held.setup; node = as_held.node; turn = as_held.turn } in
      record {
        named = as_held.node;
        full = as_held.base ∙ serves.full;
        setup = as_held.setup ∙ sym runs.setup;
        serves = serves.serves;
        proper = serves.proper;
      }

  base_by : (s : Simulator) (node : NodeNo) (kind : SaveKind) (base : Option NodeNo) (found : Option Held) → IsOpen a s → s.job ≡ Reach node → base_for (records_in a) node kind ≡ found
      → base ≡ option_map (λ (h : Held). h.node) found → HasBaseOf images s base
  base_by s node kind base None runs reach e is = subst (HasBaseOf images s) (sym is) tt
  base_by s node kind base (Some h) runs reach e is =
      let job : running runs.attempt ≡ running runs.attempt = refl in
      let held = (base_serves (farm_of a.setup) (records_in a) node runs.attempt kind h kept.images (ap (records_in a).stages (sym reach) ∙ runs.runs) e).0 in
      subst (HasBaseOf images s) (sym is) (
        held_in a images book h.node h held.found,
        held_there a images book h.node h held.found,
        λ i there image. base_at s node kind h i runs reach e held.found there image,
      )

  pub has_base_for : (s : Simulator) (node : NodeNo) (kind : SaveKind) (base : Option NodeNo) → IsOpen a s → s.job ≡ Reach node → base ≡ option_map (λ (h : Held). h.node) (base_for (records_in a) node kind) → HasBaseOf images s base
  has_base_for s node kind base runs reach is = base_by s node kind base (base_for (records_in a) node kind) runs reach refl is

-- ---- a job that has started

same_self : (job : Job) → same_job job job ≡ true
same_self (Reach n) = eq-eqb n.0 n.0 refl
same_self (Finish n) = eq-eqb n.0 n.0 refl

pub record Started (b : Account) (j : Job) (s : Simulator) : Type 0 where
  pub runs : IsOpen b s
  pub turns : s.header.turns ≡ runs.attempt.since
  pub job : s.job ≡ j
  pub settled : s.short ≡ false

module _ (a b : Account) (images : List (Option Checkpoint)) (book : IsBook (made_of a images)) (kept : IsAccount a) where
  since_origin : (job : Job) (origin : Option NodeNo) (s : Simulator) → origin ≡ origin_of (farm_of a.setup) (solo_of a.setup) (records_in a) job → StandsAtOrigin a.setup images origin job s
      → StandsAt a.setup job (started_from (records_in a) origin).since s
  since_origin job None s e stands = stands
  since_origin job (Some node) s e stands =
      let served = origin_serves (farm_of a.setup) (solo_of a.setup) (records_in a) job node (sym e) in
      let found = fit_found a.setup (image_at images node.0) served.held (fits_held a images book node served.held served.found) in
      let at = stands found.image found.there in
      let since : found.image.header.turns ≡ (attempt_from (image_of (records_in a) node)).since = found.held.turn ∙ ap (λ (x : Option Held). (attempt_from x).since) (sym served.found) in
      record { setup = at.setup ∙ found.held.setup; job = at.job; turns = at.turns ∙ since; settled = at.settled }

  pub started : (job : Job) (origin : Option NodeNo) (s : Simulator) → origin ≡ origin_of (farm_of a.setup) (solo_of a.setup) (records_in a) job → Appends (Start job origin) a b
      → StandsAtOrigin a.setup images origin job s → Started b job s
  started job origin s e made stands =
      let at = since_origin job origin s e stands in
      let attempt = started_from (records_in a) origin in
      let runs : (records_in b).stages job ≡ running attempt =
      ap (λ (r : Records). r.stages job) made.records ∙ ap (λ t. if t then running attempt else (records_in a).stages job) (same_self job) in
      record {
        runs = record {
          setup = at.setup ∙ ap (λ (x : Account). x.setup) (sym made.account);
          attempt = attempt;
          runs = ap (records_in b).stages at.job ∙ runs;
          since = omega (arith, at.turns);
        };
        turns = at.turns;
        job = at.job;
        settled = at.settled;
      }

-- the images are as they were
pub started_book : (a b : Account) (images : List (Option Checkpoint)) (job : Job) (origin : Option NodeNo) → IsBook (made_of a images) → Appends (Start job origin) a b → IsBook (made_of b images)
started_book a b images job origin book made = record {
  long = book.long ∙ ap (λ (x : Account). length x.setup.plan) (sym made.account);
  held = λ n.
      subst (λ (x : Account). Fits x.setup (image_at images n) (image_of (records_in b) (node_no n))) (sym made.account)
      (subst (λ (r : Records). Fits a.setup (image_at images n) (image_of r (node_no n))) (sym made.records) (book.held n));
}

-- ---- a job of the plan has a node of it

any_append : (test : Job → Bool) (xs ys : List Job) → list_any test (xs ++ ys) ≡ true → (list_any test xs || list_any test ys) ≡ true
any_append test [] ys e = e
any_append test (x ∷ xs) ys e = by (test x) e (any_append test xs ys)
  where
    by : (b : Bool) → (b || list_any test (xs ++ ys)) ≡ true → (list_any test (xs ++ ys) ≡ true → (list_any test xs || list_any test ys) ≡ true) → ((b || list_any test xs) || list_any test ys) ≡ true
    by true e rest = refl
    by false e rest = rest e

same_node : (a b : Job) → same_job a b ≡ true → node_of a ≡ node_of b
same_node (Reach m) (Reach n) e = eqb-true m.0 n.0 e
same_node (Reach m) (Finish n) e = absurd (false≢true e)
same_node (Finish m) (Reach n) e = absurd (false≢true e)
same_node (Finish m) (Finish n) e = eqb-true m.0 n.0 e

one_of : (job other : Job) (b : Bool) → list_any (same_job job) (if b then other ∷ [] else []) ≡ true → node_of job ≡ node_of other
one_of job other true e = by (same_job job other) refl e
  where
    by : (s : Bool) → same_job job other ≡ s → (s || false) ≡ true → node_of job ≡ node_of other
    by true is h = same_node job other is
    by false is h = absurd (false≢true h)
one_of job other false e = absurd (false≢true e)

either : (p q : Bool) {P : Type 0} → (p || q) ≡ true → (p ≡ true → P) → (q ≡ true → P) → P
either true q h f g = f refl
either false q h f g = g h

planned_from : (nodes more : List Node) (n : ℕ) (job : Job) → list_any (same_job job) (jobs_from nodes n more) ≡ true → node_of job < n + length more
unfolding jobs_from
planned_from nodes [] n job e = absurd (false≢true e)
planned_from nodes (node ∷ more) n job e =
    let here = (if has_child nodes n then Reach (node_no n) ∷ [] else []) ++ (if node.test then Finish (node_no n) ∷ [] else []) in
    either (list_any (same_job job) here) (list_any (same_job job) (jobs_from nodes (n + 1) more)) (any_append (same_job job) here (jobs_from nodes (n + 1) more) e)
    (λ h.
    either (list_any (same_job job) (if has_child nodes n then Reach (node_no n) ∷ [] else [])) (list_any (same_job job) (if node.test then Finish (node_no n) ∷ [] else []))
    (any_append (same_job job) (if has_child nodes n then Reach (node_no n) ∷ [] else []) (if node.test then Finish (node_no n) ∷ [] else []) h)
    (λ f. let is = one_of job (Reach (node_no n)) (has_child nodes n) f in omega (arith, is))
    (λ f. let is = one_of job (Finish (node_no n)) node.test f in omega (arith, is)))
    (λ h. let rest = planned_from nodes more (n + 1) job h in omega (arith, rest))

pub planned_inside : (nodes : List Node) (job : Job) → is_job nodes job ≡ true → node_of job < length nodes
planned_inside nodes job e = let inside = planned_from nodes nodes 0 job e in omega (arith, inside)
