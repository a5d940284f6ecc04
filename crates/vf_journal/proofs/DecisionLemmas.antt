-- Where a run of the farm stops is where the job's solo run is decided: save points, kinds and outcomes.
use Rattle.std.proofs.Common.{◌≡◌, ℕ, zero, suc, ◌+◌, ◌*◌, ◌<◌, ◌≤◌, ◌==◌, ◌&&◌, ◌||◌, Bool, true, false, cond, not, if◌then◌else◌, nat_lt, nat_le, List, length, slice_index, Option, Some, None, is_some, unwrap_or, refl, sym, ◌∙◌, ap, ap₂, arith, ⊎_elim, inl, inr, ◌⊎◌}
use Rattle.std.proofs.lemmas.Bool.{false≢true, cases_lt, eq-eqb, ne_eqb, le-ltb, lt-ltb, le-leb, and_from, and_left, and_right, or_parts, or_from, false_from_ne_true}
use Rattle.vf_base.specs.declared.names.Job.{Job}
use Rattle.vf_base.specs.declared.names.Job.TheVariants.{Reach}
use Rattle.vf_base.specs.declared.names.NodeNo.{NodeNo}
use Rattle.vf_base.specs.declared.run.Limits.{Limits}
use Rattle.vf_base.specs.declared.run.Outcome.TheVariants as outcomes
use Rattle.vf_base.specs.declared.run.SaveKind.{SaveKind}
use Rattle.vf_base.specs.declared.run.SaveKind.TheVariants.{Full}
use Rattle.vf_machine.specs.Machine.{Machine, Move, go, stop}
use Rattle.vf_machine.specs.Search.{any_below}
use Rattle.vf_machine.specs.Run.{Moment, Turned, moment_at, text_at, turn_at, turn_of, free_turn, performed, reads_next, sight_at, saved_mark, mark_at, is_ending}
use Rattle.vf_machine.specs.Pages.{page_count, page_differs, is_touched, pages_touched}
use Rattle.vf_machine.specs.Solo.{turns_before_end, ending_of, passing_turn}
use Rattle.vf_machine.proofs.CallerLemmas.{turns_counted, counts_once, run_ends_lem, Finds, first_finds, first_is, KeepsWithin, solo_ended, solo_passed, moment_at-suc, is_touched-suc, count_below-ext}
use Rattle.vf_jobs.specs.Kinds.{Kind, saved, passed, ended, over, all_read, save_at, savepoint, turns_at_end, is_at, is_saved, is_passed, is_over, kind_at, kind_of, outcome_of, savepoint_of_node}
use Rattle.vf_jobs.proofs.CallerLemmas.{decides}
use Rattle.vf_journal.specs.Farm.{Farm, Point, stimulus, limits, point_in, last_save, is_at_save, is_at_pass, is_decided}
use Rattle.vf_journal.specs.Journal.{pages_in}
use Rattle.vf_journal.specs.Laws.{goes_on, ReadGoesOn}
use Rattle.vf_journal.proofs.PointLemmas.{IsRunAt, below_suc, within_before}

-- ---- searches

pub ends_at : {S : Type 0} (m : Machine S) (stim : List ℕ) (limits : Limits) (k : ℕ) → ((j : ℕ) → j < k → is_ending (mark_at m stim limits j) ≡ false)
    → is_ending (mark_at m stim limits k) ≡ true → turns_before_end m stim limits ≡ k
ends_at m stim limits k none here =
    let ends = run_ends_lem m stim limits in
    let end = turns_before_end m stim limits in
    ⊎_elim (λ lt. absurd (false≢true (sym (none end lt) ∙ ends.ending)))
    (λ ge. ⊎_elim (λ lt. absurd (false≢true (sym (ends.first k lt) ∙ here))) (λ le. omega (arith, ge, le)) (cases_lt k end)) (cases_lt end k)

pub ends_after : {S : Type 0} (m : Machine S) (stim : List ℕ) (limits : Limits) (k : ℕ) → ((j : ℕ) → j < k → is_ending (mark_at m stim limits j) ≡ false)
    → k ≤ turns_before_end m stim limits
ends_after m stim limits k none =
    let ends = run_ends_lem m stim limits in
    let end = turns_before_end m stim limits in
    ⊎_elim (λ lt. absurd (false≢true (sym (none end lt) ∙ ends.ending))) (λ ge. ge) (cases_lt end k)

-- the four tests of a kind
abbrev pick : ℕ → SaveKind → Bool → Bool → Bool → Bool → Option Kind
pick i kind a b c d = if a then Some (saved i kind) else (if b then Some (passed i) else (if c then Some (ended i) else (if d then Some (over i) else None)))

by_none : (i : ℕ) (kind : SaveKind) (a b c d : Bool) → a ≡ false → b ≡ false → c ≡ false → d ≡ false → pick i kind a b c d ≡ None
by_none i kind a b c d ea eb ec ed = λ x. pick i kind (ea x) (eb x) (ec x) (ed x)

by_first : (i : ℕ) (kind : SaveKind) (a b c d : Bool) → a ≡ true → pick i kind a b c d ≡ Some (saved i kind)
by_first i kind a b c d ea = λ x. pick i kind (ea x) b c d

by_second : (i : ℕ) (kind : SaveKind) (a b c d : Bool) → a ≡ false → b ≡ true → pick i kind a b c d ≡ Some (passed i)
by_second i kind a b c d ea eb = λ x. pick i kind (ea x) (eb x) c d

by_third : (i : ℕ) (kind : SaveKind) (a b c d : Bool) → a ≡ false → b ≡ false → c ≡ true → pick i kind a b c d ≡ Some (ended i)
by_third i kind a b c d ea eb ec = λ x. pick i kind (ea x) (eb x) (ec x) d

by_fourth : (i : ℕ) (kind : SaveKind) (a b c d : Bool) → a ≡ false → b ≡ false → c ≡ false → d ≡ true → pick i kind a b c d ≡ Some (over i)
by_fourth i kind a b c d ea eb ec ed = λ x. pick i kind (ea x) (eb x) (ec x) (ed x)

-- ---- save points

save_by : (all : Bool) (save : Option SaveKind) → is_some (if all then save else None) ≡ (all && is_some save)
save_by true save = refl
save_by false save = refl

none_both : (all : Bool) → (all && false) ≡ false
none_both true = refl
none_both false = refl

either : (save : Option SaveKind) (all : Bool) → (if all then save else save) ≡ save
either save true = refl
either save false = refl

pub save_is : {S : Type 0} (m : Machine S) (stim : List ℕ) (limits : Limits) (t : ℕ)
    → save_at m stim limits t ≡ (if all_read m stim limits t then last_save m stim limits t else None)
save_is m stim limits zero = sym (either None (all_read m stim limits 0))
save_is m stim limits (suc t) = refl

pub saves : {S : Type 0} (m : Machine S) (stim : List ℕ) (limits : Limits) (t : ℕ)
    → is_some (save_at m stim limits t) ≡ (all_read m stim limits t && is_some (last_save m stim limits t))
saves m stim limits t = ap is_some (save_is m stim limits t) ∙ save_by (all_read m stim limits t) (last_save m stim limits t)

abbrev pub SavesAt : {S : Type 0} → Farm S → NodeNo → ℕ → Type 0
SavesAt f n k = is_at_save f (Reach n) (point_in f (Reach n) k) ≡ true

-- a run that reaches a node is at the node's save point
pub savepoint_is : {S : Type 0} (f : Farm S) (n : NodeNo) (k : ℕ) (now : Point S) → IsRunAt f (Reach n) k now → SavesAt f n k
    → savepoint_of_node f.machine f.given f.nodes n ≡ Some k
savepoint_is f n k now run at_save =
    let m = f.machine in
    let stim = stimulus f (Reach n) in
    let lim = limits f (Reach n) in
    let end = ends_after m stim lim k run.goes in
    first_is (λ t. is_some (save_at m stim lim t)) (turns_before_end m stim lim + 1) k (record {
      below = omega (arith, end);
      passes = saves m stim lim k ∙ at_save;
      least = λ j h. saves m stim lim j ∙ (or_parts (is_at_save f (Reach n) (point_in f (Reach n) j)) (is_at_pass f (Reach n) (point_in f (Reach n) j)) (run.undecided j h)).0;
    })

-- two runs to one save point have come as far
pub save_unique : {S : Type 0} (f : Farm S) (n : NodeNo) (j k : ℕ) (a b : Point S) → IsRunAt f (Reach n) j a → IsRunAt f (Reach n) k b → SavesAt f n j → SavesAt f n k → j ≡ k
save_unique f n j k a b ra rb sa sb =
    let e = sym (savepoint_is f n j a ra sa) ∙ savepoint_is f n k b rb sb in cc

-- ---- kinds

module _ {S : Type 0} (f : Farm S) (n : NodeNo) where
  abbrev stim : List ℕ
  stim = stimulus f (Reach n)

  abbrev lim : Limits
  lim = limits f (Reach n)

  abbrev decide : ℕ → Option Kind
  decide = kind_at f.machine stim lim f.budget

  abbrev save_kind : ℕ → SaveKind
  save_kind j = unwrap_or (save_at f.machine stim lim j) Full

  at_found : (p : ℕ → Bool) (b : ℕ) (found : Option ℕ) (j : ℕ) → Finds p b found → p j ≡ false → is_at j found ≡ false
  at_found p b None j finds none = refl
  at_found p b (Some s) j finds none =
      ne_eqb s j (λ same. false≢true (sym none ∙ ap p (sym same) ∙ finds.passes))

  -- a turn at which no checkpoint was asked for is not the save point
  not_saved : (j : ℕ) → is_at_save f (Reach n) (point_in f (Reach n) j) ≡ false → is_saved f.machine stim lim f.budget j ≡ false
  not_saved j h =
      let p = λ (t : ℕ). is_some (save_at f.machine stim lim t) in
      let b = turns_before_end f.machine stim lim + 1 in
      and_left (is_at j (savepoint f.machine stim lim)) (nat_le (pages_touched f.machine stim lim j) f.budget)
      (at_found p b (savepoint f.machine stim lim) j (first_finds p b) (saves f.machine stim lim j ∙ h))

  abbrev end : ℕ
  end = turns_before_end f.machine stim lim

  -- the ending counts one turn or none
  end_counts : (end ≤ turns_at_end f.machine stim lim) × (turns_at_end f.machine stim lim ≤ end + 1)
  end_counts =
      let ends = run_ends_lem f.machine stim lim in
      let counted = turns_counted f.machine stim lim end ends.first in
      let once = counts_once f.machine stim lim (moment_at f.machine stim lim end) in
      (omega (arith, counted, once.0), omega (arith, counted, once.1))

  not_over : (j : ℕ) → pages_in f (Reach n) (suc j) ≤ f.budget → is_over f.machine stim lim f.budget j ≡ false
  not_over j h = and_right (nat_lt j end) (nat_lt f.budget (pages_touched f.machine stim lim (suc j))) (le-ltb f.budget (pages_touched f.machine stim lim (suc j)) h)

  -- nothing is decided before the point of a run
  none_yet : (k : ℕ) (now : Point S) → IsRunAt f (Reach n) k now → (j : ℕ) → j < k → decide j ≡ None
  none_yet k now run j h =
      let parts = or_parts (is_at_save f (Reach n) (point_in f (Reach n) j)) (is_at_pass f (Reach n) (point_in f (Reach n) j)) (run.undecided j h) in
      let after = ends_after f.machine stim lim k run.goes in
      let counts = end_counts in
      by_none j (save_kind j) (is_saved f.machine stim lim f.budget j) (is_passed f.machine stim lim j) (turns_at_end f.machine stim lim == j) (is_over f.machine stim lim f.budget j)
      (not_saved j parts.0) parts.1
      (ne_eqb (turns_at_end f.machine stim lim) j (λ same. omega (arith, same, h, after, counts.0)))
      (not_over j (within_before f (Reach n) (suc j) k (omega (arith, h)) run.within))

  -- what is decided at the point of a run is the kind
  kind_here : (k : ℕ) (now : Point S) (kind : Kind) → IsRunAt f (Reach n) k now → decide k ≡ Some kind → kind_of f.machine stim lim f.budget ≡ Some kind
  kind_here k now kind run here =
      let after = ends_after f.machine stim lim k run.goes in
      let counts = end_counts in
      decides decide (turns_at_end f.machine stim lim + 1) k kind (omega (arith, after, counts.0)) (none_yet k now run) here

  saved_by : (s : Option ℕ) (k : ℕ) → s ≡ Some k → is_at k s ≡ true
  saved_by s k e = ap (is_at k) e ∙ eq-eqb k k refl

  save_found : (all : Bool) (last : Option SaveKind) (save : SaveKind) → (all && is_some last) ≡ true → last ≡ Some save → unwrap_or (if all then last else None) Full ≡ save
  save_found true last save h e = ap (λ s. unwrap_or s Full) e
  save_found false last save h e = absurd (false≢true h)

  pub kind_saved : (k : ℕ) (now : Point S) (save : SaveKind) → IsRunAt f (Reach n) k now → SavesAt f n k → (point_in f (Reach n) k).saved ≡ Some save
      → kind_of f.machine stim lim f.budget ≡ Some (saved k save)
  kind_saved k now save run at_save asked =
      let m = f.machine in
      kind_here k now (saved k save) run
      (by_first k (save_kind k) (is_saved m stim lim f.budget k) (is_passed m stim lim k) (turns_at_end m stim lim == k) (is_over m stim lim f.budget k)
      (and_from (is_at k (savepoint m stim lim)) (nat_le (pages_touched m stim lim k) f.budget)
      (saved_by (savepoint m stim lim) k (savepoint_is f n k now run at_save)) (le-leb (pages_touched m stim lim k) f.budget run.within))
      ∙ ap (λ s. Some (saved k s)) (ap (λ s. unwrap_or s Full) (save_is m stim lim k) ∙ save_found (all_read m stim lim k) (last_save m stim lim k) save at_save asked))

  pub kind_passed : (k : ℕ) (now : Point S) → IsRunAt f (Reach n) k now → is_at_save f (Reach n) (point_in f (Reach n) k) ≡ false
      → is_at_pass f (Reach n) (point_in f (Reach n) k) ≡ true → kind_of f.machine stim lim f.budget ≡ Some (passed k)
  kind_passed k now run unsaved at_pass =
      let m = f.machine in
      kind_here k now (passed k) run
      (by_second k (save_kind k) (is_saved m stim lim f.budget k) (is_passed m stim lim k) (turns_at_end m stim lim == k) (is_over m stim lim f.budget k)
      (not_saved k unsaved) at_pass)

  pub kind_over : (k : ℕ) (now : Point S) → IsRunAt f (Reach n) k now → is_decided f (Reach n) (point_in f (Reach n) k) ≡ false
      → is_ending (mark_at f.machine stim lim k) ≡ false → f.budget < pages_in f (Reach n) (suc k) → kind_of f.machine stim lim f.budget ≡ Some (over k)
  kind_over k now run undecided goes passes =
      let m = f.machine in
      let parts = or_parts (is_at_save f (Reach n) (point_in f (Reach n) k)) (is_at_pass f (Reach n) (point_in f (Reach n) k)) undecided in
      let after = ends_after m stim lim k run.goes in
      let ends = run_ends_lem m stim lim in
      let more : k < end =
      ⊎_elim (λ lt. lt) (λ ge. let same : end ≡ k = omega (arith, ge, after) in absurd (false≢true (sym goes ∙ ap (λ j. is_ending (mark_at m stim lim j)) (sym same) ∙ ends.ending))) (cases_lt k end) in
      let counts = end_counts in
      kind_here k now (over k) run
      (by_fourth k (save_kind k) (is_saved m stim lim f.budget k) (is_passed m stim lim k) (turns_at_end m stim lim == k) (is_over m stim lim f.budget k)
      (not_saved k parts.0) parts.1
      (ne_eqb (turns_at_end m stim lim) k (λ same. omega (arith, same, more, counts.0)))
      (and_from (nat_lt k end) (nat_lt f.budget (pages_touched m stim lim (suc k))) (lt-ltb k end more) (lt-ltb f.budget (pages_touched m stim lim (suc k)) passes)))

-- ---- outcomes

keeps_within : {S : Type 0} (f : Farm S) (job : Job) (k : ℕ) → pages_in f job k ≤ f.budget → KeepsWithin f.machine (stimulus f job) (limits f job) f.budget k
keeps_within f job k within j h = le-ltb f.budget (pages_in f job j) (within_before f job j k (omega (arith, h)) within)

pub outcome_ended : {S : Type 0} (f : Farm S) (job : Job) (k : ℕ) (now : Point S) → IsRunAt f job k now → is_ending (mark_at f.machine (stimulus f job) (limits f job) k) ≡ true
    → outcome_of f.machine f.given f.budget f.nodes job
    ≡ outcomes.Done (ending_of (mark_at f.machine (stimulus f job) (limits f job) k)) (text_at f.machine (stimulus f job) (limits f job) k) (turn_at f.machine (stimulus f job) (limits f job) k).after.header.turns
outcome_ended f job k now run ends =
    (solo_ended f.machine (stimulus f job) (limits f job) f.budget k run.goes ends (keeps_within f job k run.within)).outcome

-- ---- endings

-- an ending changes no state
abbrev pub Stands : {S : Type 0} → Machine S → Type 0
Stands m = (stim : List ℕ) (limits : Limits) (k : ℕ) → is_ending (mark_at m stim limits k) ≡ true → (moment_at m stim limits (suc k)).state ≡ (moment_at m stim limits k).state

none_below : (p : ℕ → Bool) (n : ℕ) → ((i : ℕ) → p i ≡ false) → any_below p n ≡ false
unfolding any_below
none_below p zero none = refl
none_below p (suc n) none = or_from (any_below p n) (p n) (none_below p n none) (none n)

same_page : (words : List ℕ) (page : ℕ) → page_differs words words page ≡ false
same_page words page =
    none_below (λ at. not (slice_index words (64 * page + at) == slice_index words (64 * page + at))) 64
    (λ at. ap not (eq-eqb (slice_index words (64 * page + at)) (slice_index words (64 * page + at)) refl))

or_none : (a b : Bool) → b ≡ false → (a || b) ≡ a
or_none true b e = refl
or_none false b e = e

-- so it touches no page
pub pages_at_end : {S : Type 0} (f : Farm S) (job : Job) (k : ℕ) → Stands f.machine → is_ending (mark_at f.machine (stimulus f job) (limits f job) k) ≡ true
    → pages_in f job (suc k) ≡ pages_in f job k
pages_at_end f job k stands ends =
    let m = f.machine in
    let stim = stimulus f job in
    let lim = limits f job in
    let still = stands stim lim k ends in
    count_below-ext (is_touched m stim lim (suc k)) (is_touched m stim lim k) (page_count (m.words m.start))
    (λ page _. is_touched-suc m stim lim k page
    ∙ or_none (is_touched m stim lim k page) (page_differs (m.words (moment_at m stim lim k).state) (m.words (moment_at m stim lim (suc k)).state) page)
    (ap (λ s. page_differs (m.words (moment_at m stim lim k).state) (m.words s) page) still ∙ same_page (m.words (moment_at m stim lim k).state) page))

-- a turn that passes the budget does not end the run
pub passing_goes : {S : Type 0} (f : Farm S) (job : Job) (k : ℕ) (now : Point S) → Stands f.machine → IsRunAt f job k now → f.budget < pages_in f job (suc k)
    → is_ending (mark_at f.machine (stimulus f job) (limits f job) k) ≡ false
passing_goes f job k now stands run passes =
    false_from_ne_true (is_ending (mark_at f.machine (stimulus f job) (limits f job) k))
    (λ ends. let same = pages_at_end f job k stands ends in omega (arith, same, passes, run.within))

pub outcome_passed : {S : Type 0} (f : Farm S) (job : Job) (k : ℕ) (now : Point S) → IsRunAt f job k now → is_ending (mark_at f.machine (stimulus f job) (limits f job) k) ≡ false
    → f.budget < pages_in f job (suc k)
    → (outcome_of f.machine f.given f.budget f.nodes job ≡ outcomes.Pages (pages_in f job (suc k)))
    × (passing_turn f.machine (stimulus f job) (limits f job) f.budget ≡ Some (suc k))
outcome_passed f job k now run on passes =
    let m = f.machine in
    let stim = stimulus f job in
    let lim = limits f job in
    let goes = below_suc k (λ j. is_ending (mark_at m stim lim j) ≡ false) run.goes on in
    let after = ends_after m stim lim (suc k) goes in
    let test = lt-ltb f.budget (pages_touched m stim lim (suc k)) passes in (
      (solo_passed m stim lim f.budget k goes (keeps_within f job k run.within) test).outcome,
      first_is (λ j. nat_lt f.budget (pages_touched m stim lim j)) (turns_before_end m stim lim + 1) (suc k)
          (record { below = omega (arith, after); passes = test; least = λ j h. keeps_within f job k run.within j (omega (arith, h)) }),
    )

-- ---- a turn that ends the run

saved_goes_on : (save : Option SaveKind) → is_ending (saved_mark save) ≡ false
saved_goes_on None = refl
saved_goes_on (Some kind) = refl

ending_by : {S : Type 0} (P : Turned S → Type 0) (d t o : Bool) (x y z p : Turned S) → P x → P y → P z → (is_ending p.mark ≡ true → P p)
    → is_ending (cond d x (cond t y (cond o z (cond d x p)))).mark ≡ true → P (cond d x (cond t y (cond o z (cond d x p))))
ending_by P true t o x y z p px py pz pp h = px
ending_by P false true o x y z p px py pz pp h = py
ending_by P false false true x y z p px py pz pp h = pz
ending_by P false false false x y z p px py pz pp h = pp h

-- it changes no state and writes nothing, and it reads nothing where a turn that reads does not end the run by itself
pub record EndsAt {S : Type 0} (now : Moment S) (t : Turned S) : Type 0 where
  pub state : t.after.state ≡ now.state
  pub reads : t.after.header.reads ≡ now.header.reads
  pub written : t.after.header.written ≡ now.header.written

performed_ends : {S : Type 0} (m : Machine S) (stim : List ℕ) (now : Moment S) (move : Move S) → (reads_next m stim now ≡ true → goes_on move ≡ true)
    → is_ending (performed m stim now move).mark ≡ true → EndsAt now (performed m stim now move)
performed_ends m stim now (go state text save) reads h = absurd (false≢true (sym (saved_goes_on save) ∙ h))
performed_ends m stim now (stop ending) reads h = record { state = refl; reads = by (reads_next m stim now) reads; written = let n = now.header.written in omega arith }
  where
    by : (read : Bool) → (read ≡ true → false ≡ true) → now.header.reads + (if read then 1 else 0) ≡ now.header.reads
    by true goes = absurd (false≢true (goes refl))
    by false goes = omega arith

pub ends_still : {S : Type 0} (m : Machine S) (stim : List ℕ) (limits : Limits) (now : Moment S)
    → (reads_next m stim now ≡ true → goes_on (m.move (sight_at m stim now) now.state) ≡ true)
    → is_ending (turn_of m stim limits now).mark ≡ true → EndsAt now (turn_of m stim limits now)
ends_still m stim limits now reads ends =
    ending_by (EndsAt now) (m.drained now.state) (nat_le limits.turns now.header.turns) (nat_lt limits.output (free_turn m stim now).after.header.written)
    _ _ _ (performed m stim now (m.move (sight_at m stim now) now.state))
    (record { state = refl; reads = refl; written = refl }) (record { state = refl; reads = refl; written = refl }) (record { state = refl; reads = refl; written = refl })
    (performed_ends m stim now (m.move (sight_at m stim now) now.state) reads) ends

performed_stands : {S : Type 0} (m : Machine S) (stim : List ℕ) (now : Moment S) (move : Move S) → is_ending (performed m stim now move).mark ≡ true → (performed m stim now move).after.state ≡ now.state
performed_stands m stim now (go state text save) h = absurd (false≢true (sym (saved_goes_on save) ∙ h))
performed_stands m stim now (stop ending) h = refl

-- the law, for proofs that no law function can hand over to
pub endings_stand : {S : Type 0} (m : Machine S) → Stands m
endings_stand {S} m stim limits k ends =
    let now = moment_at m stim limits k in
    ap (λ (x : Moment S). x.state) (moment_at-suc m stim limits k)
    ∙ ending_by (λ t. t.after.state ≡ now.state) (m.drained now.state) (nat_le limits.turns now.header.turns) (nat_lt limits.output (free_turn m stim now).after.header.written)
    _ _ _ (performed m stim now (m.move (sight_at m stim now) now.state)) refl refl refl (performed_stands m stim now (m.move (sight_at m stim now) now.state)) ends

found_before : (j : ℕ) (p : ℕ → Bool) (b : ℕ) (found : Option ℕ) → Finds p b found → b ≤ j → is_at j found ≡ false
found_before j p b None finds h = refl
found_before j p b (Some i) finds h = ne_eqb i j (λ same. omega (arith, same, h, finds.below))

module _ {S : Type 0} (f : Farm S) (n : NodeNo) where
  abbrev s : List ℕ
  s = stimulus f (Reach n)

  abbrev l : Limits
  l = limits f (Reach n)

  -- a turn that ends the run reads nothing, so what is asked after it is what was asked before it
  unpassed : (k : ℕ) → ReadGoesOn f (Reach n) k → is_ending (mark_at f.machine s l k) ≡ true → is_passed f.machine s l k ≡ false → is_passed f.machine s l (suc k) ≡ false
  unpassed k reads ends h =
      let next = moment_at-suc f.machine s l k in
      let still = ends_still f.machine s l (moment_at f.machine s l k) reads ends in
      ap₂ (λ count state. (count == length s) && f.machine.at_read (nat_lt (length s) count) state)
      (ap (λ now. now.header.reads) next ∙ still.reads) (ap (λ now. now.state) next ∙ still.state) ∙ h

  ended_here : (k t : ℕ) (now : Point S) → ReadGoesOn f (Reach n) k → IsRunAt f (Reach n) k now → is_decided f (Reach n) (point_in f (Reach n) k) ≡ false → is_ending (mark_at f.machine s l k) ≡ true
      → turns_at_end f.machine s l ≡ t → (t ≡ k) ⊎ (t ≡ suc k) → kind_of f.machine s l f.budget ≡ Some (ended t)
  ended_here k t now reads run undecided ends counts (inl same) =
      let m = f.machine in
      let parts = or_parts (is_at_save f (Reach n) (point_in f (Reach n) k)) (is_at_pass f (Reach n) (point_in f (Reach n) k)) undecided in
      kind_here f n k now (ended t) run
      (by_third k (save_kind f n k) (is_saved m s l f.budget k) (is_passed m s l k) (turns_at_end m s l == k) (is_over m s l f.budget k)
      (not_saved f n k parts.0) parts.1 (eq-eqb (turns_at_end m s l) k (counts ∙ same)) ∙ ap (λ i. Some (ended i)) (sym same))
  ended_here k t now reads run undecided ends counts (inr more) =
      let m = f.machine in
      let parts = or_parts (is_at_save f (Reach n) (point_in f (Reach n) k)) (is_at_pass f (Reach n) (point_in f (Reach n) k)) undecided in
      let end_is = ends_at m s l k run.goes ends in
      let p = λ (t : ℕ). is_some (save_at m s l t) in
      let b = turns_before_end m s l + 1 in
      let here : decide f n k ≡ None =
      by_none k (save_kind f n k) (is_saved m s l f.budget k) (is_passed m s l k) (turns_at_end m s l == k) (is_over m s l f.budget k)
      (not_saved f n k parts.0) parts.1 (ne_eqb (turns_at_end m s l) k (λ same. omega (arith, same, counts, more)))
      (and_left (nat_lt k (turns_before_end m s l)) (nat_lt f.budget (pages_touched m s l (suc k))) (le-ltb k (turns_before_end m s l) (omega (arith, end_is)))) in
      let later : decide f n (suc k) ≡ Some (ended (suc k)) =
      by_third (suc k) (save_kind f n (suc k)) (is_saved m s l f.budget (suc k)) (is_passed m s l (suc k)) (turns_at_end m s l == suc k) (is_over m s l f.budget (suc k))
      (and_left (is_at (suc k) (savepoint m s l)) (nat_le (pages_touched m s l (suc k)) f.budget) (found_before (suc k) p b (savepoint m s l) (first_finds p b) (omega (arith, end_is))))
      (unpassed k reads ends parts.1) (eq-eqb (turns_at_end m s l) (suc k) (counts ∙ more)) in
      decides (decide f n) (turns_at_end m s l + 1) (suc k) (ended t) (omega (arith, counts, more))
      (below_suc k (λ j. decide f n j ≡ None) (none_yet f n k now run) here)
      (later ∙ ap (λ i. Some (ended i)) (sym more))

  -- a run that ends before it is decided makes the kind
  pub kind_ended : (k : ℕ) (now : Point S) → ReadGoesOn f (Reach n) k → IsRunAt f (Reach n) k now → is_decided f (Reach n) (point_in f (Reach n) k) ≡ false
      → is_ending (mark_at f.machine s l k) ≡ true → kind_of f.machine s l f.budget ≡ Some (ended (turn_at f.machine s l k).after.header.turns)
  kind_ended k now reads run undecided ends =
      let m = f.machine in
      let end_is = ends_at m s l k run.goes ends in
      let counts = end_counts f n in
      let at_end : turns_at_end m s l ≡ (turn_at m s l k).after.header.turns = ap (λ j. (turn_at m s l j).after.header.turns) end_is in
      ended_here k (turn_at m s l k).after.header.turns now reads run undecided ends at_end
      (⊎_elim (λ lt. inl (omega (arith, lt, counts.0, counts.1, at_end, end_is))) (λ ge. inr (omega (arith, ge, counts.0, counts.1, at_end, end_is)))
      (cases_lt (turn_at m s l k).after.header.turns (suc k)))
