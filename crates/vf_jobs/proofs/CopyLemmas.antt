-- What a run that is settled before any read past its stimulus comes to on a longer stimulus too.
use Rattle.std.proofs.Common.{◌≡◌, ℕ, zero, suc, ◌+◌, ◌-◌, ◌<◌, ◌≤◌, Bool, true, false, ◌&&◌, ◌==◌, List, length, take, Option, Some, None, is_some, nat_le, nat_lt, refl, sym, ◌∙◌, ap, ap₂, subst, arith, ⊎_elim, if◌then◌else◌, length-append, unwrap_or}
use Rattle.std.proofs.lemmas.Bool.{cases_lt, cases_eq, eq-eqb, eqb-true, ne_eqb, leb-true, leb-false, le-leb, lt-leb, ltb-true, ltb-false, lt-ltb, le-ltb, and_parts, false≢true}
use Rattle.vf_base.specs.declared.names.Job.TheVariants.{Reach}
use Rattle.vf_base.specs.declared.names.NodeNo.{NodeNo}
use Rattle.vf_base.specs.declared.run.Limits.{Limits}
use Rattle.vf_base.specs.declared.run.Outcome.TheVariants.{Done, Pages}
use Rattle.vf_base.specs.declared.run.SaveKind.TheVariants.{Full}
use Rattle.vf_machine.specs.Machine.{Machine}
use Rattle.vf_machine.specs.Run.{Moment, Turned, moment_at, turn_at, turn_of, mark_at, reads_next, free_turn, is_ending}
use Rattle.vf_machine.specs.Pages.{page_count, is_touched, pages_touched}
use Rattle.vf_machine.specs.Search.{count_below}
use Rattle.vf_machine.specs.Solo.{turns_before_end, ending_of, solo}
use Rattle.vf_machine.proofs.CallerLemmas.{is_touched-zero, count_below-ext, moment_at-suc, unlimited, within_limits, no_limit, same_free, written_grows, later, turns_counted, counts_once, before_limit, run_ends_lem, Finds, first_finds, KeepsWithin, solo_ended, solo_passed}
use Rattle.vf_plan.specs.declared.plan.Node.{Node}
use Rattle.vf_plan.specs.Paths.{joined}
use Rattle.vf_plan.specs.Rules.{IsPlan}
use Rattle.vf_jobs.specs.Subtree.{is_below}
use Rattle.vf_jobs.specs.Limits.{limits_of}
use Rattle.vf_jobs.specs.Jobs.{node_of}
use Rattle.vf_jobs.specs.Kinds.{ended, over, all_read, save_of, save_at, savepoint, turns_at_end, is_at, is_saved, is_passed, is_over, kind_at, kind_of, kind_of_node}
use Rattle.vf_jobs.specs.Copies.{end_of_job, EndingIsCopied, PassingIsCopied}
use Rattle.vf_jobs.proofs.AlikeLemmas as alike
use Rattle.vf_jobs.proofs.AlikeLemmas.{same_limited, turn_counted, free_within, reads_within, ends_at, ends_after}
use Rattle.vf_jobs.proofs.DecisionLemmas.{decided_by, decides, no_test, third_test, fourth_test, by_none, by_third, by_fourth}
use Rattle.vf_jobs.proofs.SubtreeLemmas.{below, begins, begins_more, descends, same_front}
use Rattle.vf_jobs.proofs.LimitLemmas.{limits_lower}

-- ---- what is decided after each number of turns

not_both : (x y : Bool) → (x && y) ≡ false → x ≡ true → y ≡ false
not_both true y h e = h
not_both false y h e = absurd (false≢true e)

-- at time zero no page is touched
count_none : (n : ℕ) → count_below (λ _. false) n ≡ 0
unfolding count_below
count_none zero = refl
count_none (suc n) = let rest = count_none n in omega (arith, rest)

none_at_zero : {S : Type 0} (m : Machine S) (a : List ℕ) (la : Limits) (budget : ℕ) → pages_touched m a la 0 ≤ budget
none_at_zero m a la budget =
    let n = page_count (m.words m.start) in
    let none = count_below-ext (is_touched m a la 0) (λ _. false) n (λ page _. is_touched-zero m a la page) in
    let zeros = count_none n in
    omega (arith, none, zeros)

-- no turn up to the k-th passes the budget, where none was decided to be over
kept_within : {S : Type 0} (m : Machine S) (a : List ℕ) (la : Limits) (budget k : ℕ) → k ≤ turns_before_end m a la
    → ((j : ℕ) → j < k → is_over m a la budget j ≡ false) → KeepsWithin m a la budget k
kept_within m a la budget k end none zero h = le-ltb budget (pages_touched m a la 0) (none_at_zero m a la budget)
kept_within m a la budget k end none (suc j) h =
    not_both (nat_lt j (turns_before_end m a la)) (nat_lt budget (pages_touched m a la (suc j))) (none j (omega (arith, h))) (lt-ltb j (turns_before_end m a la) (omega (arith, h, end)))

-- ---- the longer stimulus

module _ {S : Type 0} (m : Machine S) (a b : List ℕ) (la lb : Limits) (long : length a ≤ length b) (front : take (length a) a ≡ take (length a) b) where
  -- a turn is the same where no turn so far would read past the shorter stimulus
  same_freely : (j : ℕ) → ((i : ℕ) → i < j + 1 → is_passed m a la i ≡ false) → free_turn m a (moment_at m a la j) ≡ free_turn m b (moment_at m a la j)
  same_freely j none =
      let before = reads_within m a la j (λ i h. none i (omega (arith, h))) in
      same_free m a b (moment_at m a la j) (length a) (omega arith) long front (free_within m a (moment_at m a la j) (length a) before (none j (omega arith)))

  -- moved to the moment of the other run
  moved : (j : ℕ) → moment_at m a la j ≡ moment_at m b lb j → turn_of m a la (moment_at m a la j) ≡ turn_of m b lb (moment_at m a la j) → turn_at m a la j ≡ turn_at m b lb j
  moved j same e = e ∙ ap (turn_of m b lb) same

  -- a turn that goes on
  goes_on_alike : (j : ℕ) → ((i : ℕ) → i < j + 1 → is_passed m a la i ≡ false) → ((i : ℕ) → i < j + 1 → is_ending (mark_at m a la i) ≡ false)
      → j < lb.turns → (moment_at m a la (suc j)).header.written ≤ lb.output → (moment_at m a la (suc j)).header.written ≤ la.output
      → turn_of m a la (moment_at m a la j) ≡ turn_of m b lb (moment_at m a la j)
  goes_on_alike j none goes turns under most =
      let now = moment_at m a la j in
      let here = goes j (omega arith) in
      let counted = turns_counted m a la j (λ i h. goes i (omega (arith, h))) in
      let limit = before_limit m a la now here in
      let free : turn_at m a la j ≡ free_turn m a now = unlimited m a la now (no_limit (mark_at m a la j) here) in
      let wrote : (moment_at m a la (suc j)).header.written ≡ (free_turn m a now).after.header.written =
      ap (λ (n : Moment S). n.header.written) (moment_at-suc m a la j) ∙ ap (λ (t : Turned S). t.after.header.written) free in
      same_limited m a b la lb now (same_freely j none)
      (λ _. lt-leb la.turns now.header.turns limit ∙ sym (lt-leb lb.turns now.header.turns (omega (arith, counted, turns))))
      (λ _ _. le-ltb la.output (free_turn m a now).after.header.written (omega (arith, wrote, most)) ∙ sym (le-ltb lb.output (free_turn m a now).after.header.written (omega (arith, wrote, under))))

  -- the turn that ends the run
  ends_alike : (e : ℕ) → ((i : ℕ) → i < e + 1 → is_passed m a la i ≡ false) → ((i : ℕ) → i < e → is_ending (mark_at m a la i) ≡ false)
      → lb.turns ≤ la.turns → lb.output ≤ la.output → (turn_at m a la e).after.header.turns ≤ lb.turns → (turn_at m a la e).after.header.written ≤ lb.output
      → turn_of m a la (moment_at m a la e) ≡ turn_of m b lb (moment_at m a la e)
  ends_alike e none goes fewer less turns written = same_limited m a b la lb now (same_freely e none) by_turns by_output
    where
      now : Moment S
      now = moment_at m a la e

      by_turns : m.drained (moment_at m a la e).state ≡ false → nat_le la.turns (moment_at m a la e).header.turns ≡ nat_le lb.turns (moment_at m a la e).header.turns
      by_turns d = at (nat_le la.turns (moment_at m a la e).header.turns) refl
        where
          at : (t : Bool) → nat_le la.turns (moment_at m a la e).header.turns ≡ t → nat_le la.turns (moment_at m a la e).header.turns ≡ nat_le lb.turns (moment_at m a la e).header.turns
          at true h = let reached = leb-true la.turns (moment_at m a la e).header.turns h in h ∙ sym (le-leb lb.turns (moment_at m a la e).header.turns (omega (arith, reached, fewer)))
          at false h = let counted = turn_counted m a la (moment_at m a la e) d h in h ∙ sym (lt-leb lb.turns (moment_at m a la e).header.turns (omega (arith, counted, turns)))

      by_output : m.drained (moment_at m a la e).state ≡ false → nat_le la.turns (moment_at m a la e).header.turns ≡ false
          → nat_lt la.output (free_turn m a (moment_at m a la e)).after.header.written ≡ nat_lt lb.output (free_turn m a (moment_at m a la e)).after.header.written
      by_output d t = at (nat_lt la.output (free_turn m a (moment_at m a la e)).after.header.written) refl
        where
          at : (o : Bool) → nat_lt la.output (free_turn m a (moment_at m a la e)).after.header.written ≡ o
              → nat_lt la.output (free_turn m a (moment_at m a la e)).after.header.written ≡ nat_lt lb.output (free_turn m a (moment_at m a la e)).after.header.written
          at true h =
              let beyond = ltb-true la.output (free_turn m a (moment_at m a la e)).after.header.written h in
              h ∙ sym (lt-ltb lb.output (free_turn m a (moment_at m a la e)).after.header.written (omega (arith, beyond, less)))
          at false h =
              let within = ltb-false la.output (free_turn m a (moment_at m a la e)).after.header.written h in
              let early = leb-false la.turns (moment_at m a la e).header.turns t in
              let free = within_limits m a la (moment_at m a la e) early within in
              let wrote = ap (λ (x : Turned S). x.after.header.written) free in
              h ∙ sym (le-ltb lb.output (free_turn m a (moment_at m a la e)).after.header.written (omega (arith, wrote, written)))

-- ---- what is decided on a longer stimulus

past_all : (i n long : ℕ) → i ≤ n → n < long → (i == long) ≡ false
past_all i n long h less = ne_eqb i long (λ e. absurd (omega (arith, e, h, less)))

not_saved : {S : Type 0} (m : Machine S) (b : List ℕ) (lb : Limits) (budget t : ℕ) → save_at m b lb t ≡ None → is_saved m b lb budget t ≡ false
not_saved m b lb budget t none = by (savepoint m b lb) refl (first_finds (λ t. is_some (save_at m b lb t)) (turns_before_end m b lb + 1))
  where
    by : (found : Option ℕ) → savepoint m b lb ≡ found → Finds (λ t. is_some (save_at m b lb t)) (turns_before_end m b lb + 1) found
        → is_saved m b lb budget t ≡ false
    by None e finds = ap (λ o. is_at t o && nat_le (pages_touched m b lb t) budget) e
    by (Some s) e finds = ap (λ o. is_at t o && nat_le (pages_touched m b lb t) budget) e ∙ at (s == t) refl
      where
        at : (same : Bool) → (s == t) ≡ same → ((s == t) && nat_le (pages_touched m b lb t) budget) ≡ false
        at false differs = ap (λ x. x && nat_le (pages_touched m b lb t) budget) differs
        at true same = absurd (false≢true (sym (ap (λ k. is_some (save_at m b lb k)) (eqb-true s t same) ∙ ap is_some none) ∙ finds.passes))

unsaved : {S : Type 0} (m : Machine S) (b : List ℕ) (lb : Limits) (t : ℕ) → all_read m b lb t ≡ false → save_at m b lb t ≡ None
unsaved m b lb zero e = refl
unsaved m b lb (suc t) e = ap (λ r. if r then save_of (mark_at m b lb t) else None) e

unpassed : {S : Type 0} (m : Machine S) (b : List ℕ) (lb : Limits) (t : ℕ) → all_read m b lb t ≡ false → is_passed m b lb t ≡ false
unpassed m b lb t e = ap (λ r. r && reads_next m b (moment_at m b lb t)) e

-- ---- an ending

-- the run ended after e turns, before any read past its stimulus and within the budget
pub record EndsFirst {S : Type 0} (m : Machine S) (a : List ℕ) (la : Limits) (budget e t : ℕ) : Type 0 where
  pub goes : (j : ℕ) → j < e → is_ending (mark_at m a la j) ≡ false
  pub ends : is_ending (mark_at m a la e) ≡ true
  pub counts : (turn_at m a la e).after.header.turns ≡ t
  pub once : (e ≤ t) × (t ≤ e + 1)
  pub unread : (j : ℕ) → j < t + 1 → is_passed m a la j ≡ false
  pub within : KeepsWithin m a la budget e

pub ends_first : {S : Type 0} (m : Machine S) (a : List ℕ) (la : Limits) (budget t : ℕ) → kind_of m a la budget ≡ Some (ended t) → EndsFirst m a la budget (turns_before_end m a la) t
ends_first {S} m a la budget t kind =
    let e = turns_before_end m a la in
    let ends = run_ends_lem m a la in
    let first = decided_by (kind_at m a la budget) (turns_at_end m a la + 1) (ended t) kind in
    let here = third_test first.at t (unwrap_or (save_at m a la first.at) Full) _ _ _ _ first.here in
    let same : first.at ≡ t = here.3 in
    let counts : turns_at_end m a la ≡ t = eqb-true (turns_at_end m a la) first.at here.2 ∙ same in
    let before = turns_counted m a la e ends.first in
    let once = counts_once m a la (moment_at m a la e) in
    let none = λ (j : ℕ) (h : j < t). no_test j t (unwrap_or (save_at m a la j) Full) _ _ _ _ (first.none j (omega (arith, h, same))) in
    record {
      goes = ends.first;
      ends = ends.ending;
      counts = counts;
      once = (omega (arith, before, once.0, counts), omega (arith, before, once.1, counts));
      unread = λ j h. ⊎_elim (λ lt. (none j lt).1) (λ ge. let at : j ≡ first.at = omega (arith, h, ge, same) in ap (is_passed m a la) at ∙ here.1) (cases_lt j t);
      within = kept_within m a la budget e (omega arith) (λ j h. (none j (omega (arith, h, before, once.0, counts))).3);
    }

module _ {S : Type 0} (m : Machine S) (a b : List ℕ) (la lb : Limits) (budget e t : ℕ) (long : length a ≤ length b) (front : take (length a) a ≡ take (length a) b)
    (fewer : lb.turns ≤ la.turns) (less : lb.output ≤ la.output) (first : EndsFirst m a la budget e t)
    (turns_fit : t ≤ lb.turns) (output_fits : (turn_at m a la e).after.header.written ≤ lb.output) where
  written_before : (k : ℕ) → k ≤ e → (moment_at m a la k).header.written ≤ lb.output
  written_before k h =
      let n : ℕ = e - k in
      let whole : k + n ≡ e = omega (arith, h) in
      let grown = later (λ (now : Moment S). now.header.written) m a la (λ now. written_grows m a la now) k n in
      let all = ap (λ j. (moment_at m a la j).header.written) whole in
      let last = written_grows m a la (moment_at m a la e) in
      omega (arith, grown, all, last, output_fits)

  each_turn : (j : ℕ) → j < e + 1 → moment_at m a la j ≡ moment_at m b lb j → turn_at m a la j ≡ turn_at m b lb j
  each_turn j h same =
      moved m a b la lb long front j same (⊎_elim
      (λ lt.
      let under = written_before (suc j) (omega (arith, lt)) in
      let once = first.once in
      goes_on_alike m a b la lb long front j (λ i less. first.unread i (omega (arith, less, lt, once.0))) (λ i less. first.goes i (omega (arith, less, lt)))
      (omega (arith, lt, once.0, turns_fit)) under (omega (arith, under, less)))
      (λ ge.
      let at : j ≡ e = omega (arith, h, ge) in
      let once = first.once in
      let counts = first.counts in
      let here = ends_alike m a b la lb long front e (λ i less. first.unread i (omega (arith, less, once.0))) first.goes fewer less (omega (arith, counts, turns_fit)) output_fits in
      subst (λ i. turn_of m a la (moment_at m a la i) ≡ turn_of m b lb (moment_at m a la i)) (sym at) here)
      (cases_lt j e))

  moments_b : (k : ℕ) → k ≤ e + 1 → moment_at m a la k ≡ moment_at m b lb k
  moments_b = alike.moments m a b la lb (e + 1) each_turn

  turns_b : (j : ℕ) → j < e + 1 → turn_at m a la j ≡ turn_at m b lb j
  turns_b = alike.turns m a b la lb (e + 1) each_turn

  pages_b : (k : ℕ) → k ≤ e + 1 → pages_touched m a la k ≡ pages_touched m b lb k
  pages_b = alike.pages m a b la lb (e + 1) each_turn

  goes_b : (j : ℕ) → j < e → is_ending (mark_at m b lb j) ≡ false
  goes_b j h = ap (λ (x : Turned S). is_ending x.mark) (sym (turns_b j (omega (arith, h)))) ∙ first.goes j h

  ends_b : is_ending (mark_at m b lb e) ≡ true
  ends_b = ap (λ (x : Turned S). is_ending x.mark) (sym (turns_b e (omega arith))) ∙ first.ends

  within_b : KeepsWithin m b lb budget e
  within_b j h = ap (nat_lt budget) (sym (pages_b j (omega (arith, h)))) ∙ first.within j h

  pub ending_outcome : solo m b lb budget ≡ solo m a la budget
  ending_outcome =
      let sa = solo_ended m a la budget e first.goes first.ends first.within in
      let sb = solo_ended m b lb budget e goes_b ends_b within_b in
      let here = sym (turns_b e (omega arith)) in
      let text = sym (alike.texts m a b la lb (e + 1) each_turn e (omega arith)) in
      sb.outcome ∙ (λ i. Done (ending_of (here i).mark) (text i) (here i).after.header.turns) ∙ sym sa.outcome

  end_b : turns_before_end m b lb ≡ e
  end_b = ends_at m b lb e goes_b ends_b

  counts_b : turns_at_end m b lb ≡ t
  counts_b = ap (λ k. (turn_at m b lb k).after.header.turns) end_b ∙ ap (λ (x : Turned S). x.after.header.turns) (sym (turns_b e (omega arith))) ∙ first.counts

  module _ (longer : length a < length b) where
    unread_b : (k : ℕ) → k ≤ t → all_read m b lb k ≡ false
    unread_b k h =
        let once = first.once in
        let within = reads_within m a la k (λ j less. first.unread j (omega (arith, less, h))) in
        let same = ap (λ (now : Moment S). now.header.reads) (moments_b k (omega (arith, h, once.1))) in
        past_all (moment_at m b lb k).header.reads (length a) (length b) (omega (arith, within, same)) longer

    over_b : (j : ℕ) → j < t → is_over m b lb budget j ≡ false
    over_b j h = ⊎_elim
        (λ lt. both_false (nat_lt j (turns_before_end m b lb)) (nat_lt budget (pages_touched m b lb (suc j))) (within_b (suc j) (omega (arith, lt))))
        (λ ge. ap (λ x. x && nat_lt budget (pages_touched m b lb (suc j))) (let e_is = end_b in le-ltb j (turns_before_end m b lb) (omega (arith, ge, e_is))))
        (cases_lt j e)
      where
        both_false : (x y : Bool) → y ≡ false → (x && y) ≡ false
        both_false true y h = h
        both_false false y h = refl

    pub ending_kind : kind_of m b lb budget ≡ Some (ended t)
    ending_kind =
        let n = counts_b in
        decides (kind_at m b lb budget) (turns_at_end m b lb + 1) t (ended t) (omega (arith, n))
        (λ j h. by_none j t (unwrap_or (save_at m b lb j) Full) _ _ _ _
        (not_saved m b lb budget j (unsaved m b lb j (unread_b j (omega (arith, h))))) (unpassed m b lb j (unread_b j (omega (arith, h))))
        (ne_eqb (turns_at_end m b lb) j (λ e. absurd (omega (arith, e, n, h)))) (over_b j h))
        (by_third t t (unwrap_or (save_at m b lb t) Full) _ _ _ _
        (not_saved m b lb budget t (unsaved m b lb t (unread_b t (omega arith)))) (unpassed m b lb t (unread_b t (omega arith)))
        (eq-eqb (turns_at_end m b lb) t n))

-- ---- a passing of the budget

-- the turn after t would pass the budget, before any read past the stimulus
pub record PassesFirst {S : Type 0} (m : Machine S) (a : List ℕ) (la : Limits) (budget t : ℕ) : Type 0 where
  pub goes : (j : ℕ) → j < t + 1 → is_ending (mark_at m a la j) ≡ false
  pub unread : (j : ℕ) → j < t + 1 → is_passed m a la j ≡ false
  pub within : KeepsWithin m a la budget t
  pub passes : nat_lt budget (pages_touched m a la (suc t)) ≡ true

pub passes_first : {S : Type 0} (m : Machine S) (a : List ℕ) (la : Limits) (budget t : ℕ) → kind_of m a la budget ≡ Some (over t) → PassesFirst m a la budget t
passes_first {S} m a la budget t kind =
    let e = turns_before_end m a la in
    let ends = run_ends_lem m a la in
    let first = decided_by (kind_at m a la budget) (turns_at_end m a la + 1) (over t) kind in
    let here = fourth_test first.at t (unwrap_or (save_at m a la first.at) Full) _ _ _ _ first.here in
    let same : first.at ≡ t = here.4 in
    let beyond = and_parts (nat_lt first.at e) (nat_lt budget (pages_touched m a la (suc first.at))) here.3 in
    let before = ltb-true first.at e beyond.0 in
    let none = λ (j : ℕ) (h : j < t). no_test j t (unwrap_or (save_at m a la j) Full) _ _ _ _ (first.none j (omega (arith, h, same))) in
    record {
      goes = λ j h. ends.first j (omega (arith, h, before, same));
      unread = λ j h. ⊎_elim (λ lt. (none j lt).1) (λ ge. let at : j ≡ first.at = omega (arith, h, ge, same) in ap (is_passed m a la) at ∙ here.1) (cases_lt j t);
      within = kept_within m a la budget t (omega (arith, before, same)) (λ j h. (none j h).3);
      passes = ap (λ k. nat_lt budget (pages_touched m a la (suc k))) (sym same) ∙ beyond.1;
    }

module _ {S : Type 0} (m : Machine S) (a b : List ℕ) (la lb : Limits) (budget t : ℕ) (long : length a ≤ length b) (front : take (length a) a ≡ take (length a) b)
    (output_is : lb.output ≡ la.output) (first : PassesFirst m a la budget t) (turns_fit : t + 1 ≤ lb.turns) where
  -- a turn that goes on has not written beyond the limit
  under_limit : (j : ℕ) → j < t + 1 → (moment_at m a la (suc j)).header.written ≤ la.output
  under_limit j h = by (nat_lt la.output (free_turn m a (moment_at m a la j)).after.header.written) refl
    where
      free : turn_at m a la j ≡ free_turn m a (moment_at m a la j)
      free = unlimited m a la (moment_at m a la j) (no_limit (mark_at m a la j) (first.goes j h))

      wrote : (moment_at m a la (suc j)).header.written ≡ (free_turn m a (moment_at m a la j)).after.header.written
      wrote = ap (λ (n : Moment S). n.header.written) (moment_at-suc m a la j) ∙ ap (λ (x : Turned S). x.after.header.written) free

      by : (o : Bool) → nat_lt la.output (free_turn m a (moment_at m a la j)).after.header.written ≡ o → (moment_at m a la (suc j)).header.written ≤ la.output
      by false e = let within = ltb-false la.output (free_turn m a (moment_at m a la j)).after.header.written e in let same = wrote in omega (arith, within, same)
      by true e = absurd (false≢true (sym (first.goes j h) ∙ alike.cut_ends m a la (moment_at m a la j) e))

  each_turn_over : (j : ℕ) → j < t + 1 → moment_at m a la j ≡ moment_at m b lb j → turn_at m a la j ≡ turn_at m b lb j
  each_turn_over j h same =
      let under = under_limit j h in
      moved m a b la lb long front j same
      (goes_on_alike m a b la lb long front j (λ i less. first.unread i (omega (arith, less, h))) (λ i less. first.goes i (omega (arith, less, h)))
      (omega (arith, h, turns_fit)) (omega (arith, under, output_is)) under)

  turns_o : (j : ℕ) → j < t + 1 → turn_at m a la j ≡ turn_at m b lb j
  turns_o = alike.turns m a b la lb (t + 1) each_turn_over

  pages_o : (k : ℕ) → k ≤ t + 1 → pages_touched m a la k ≡ pages_touched m b lb k
  pages_o = alike.pages m a b la lb (t + 1) each_turn_over

  goes_o : (j : ℕ) → j < suc t → is_ending (mark_at m b lb j) ≡ false
  goes_o j h = ap (λ (x : Turned S). is_ending x.mark) (sym (turns_o j (omega (arith, h)))) ∙ first.goes j (omega (arith, h))

  within_o : KeepsWithin m b lb budget t
  within_o j h = ap (nat_lt budget) (sym (pages_o j (omega (arith, h)))) ∙ first.within j h

  passes_o : nat_lt budget (pages_touched m b lb (suc t)) ≡ true
  passes_o = ap (nat_lt budget) (sym (pages_o (suc t) (omega arith))) ∙ first.passes

  pub passing_outcome : solo m b lb budget ≡ solo m a la budget
  passing_outcome =
      let sa = solo_passed m a la budget t (λ j h. first.goes j (omega (arith, h))) first.within first.passes in
      let sb = solo_passed m b lb budget t goes_o within_o passes_o in
      sb.outcome ∙ ap Pages (sym (pages_o (suc t) (omega arith))) ∙ sym sa.outcome

  module _ (longer : length a < length b) where
    unread_o : (k : ℕ) → k ≤ t → all_read m b lb k ≡ false
    unread_o k h =
        let within = reads_within m a la k (λ j less. first.unread j (omega (arith, less, h))) in
        let same = ap (λ (now : Moment S). now.header.reads) (alike.moments m a b la lb (t + 1) each_turn_over k (omega (arith, h))) in
        past_all (moment_at m b lb k).header.reads (length a) (length b) (omega (arith, within, same)) longer

    pub passing_kind : kind_of m b lb budget ≡ Some (over t)
    passing_kind =
        let e = turns_before_end m b lb in
        let after = ends_after m b lb (suc t) goes_o in
        let before = turns_counted m b lb e (run_ends_lem m b lb).first in
        let once = counts_once m b lb (moment_at m b lb e) in
        decides (kind_at m b lb budget) (turns_at_end m b lb + 1) t (over t) (omega (arith, after, before, once.0))
        (λ j h. by_none j t (unwrap_or (save_at m b lb j) Full) _ _ _ _
        (not_saved m b lb budget j (unsaved m b lb j (unread_o j (omega (arith, h))))) (unpassed m b lb j (unread_o j (omega (arith, h))))
        (ne_eqb (turns_at_end m b lb) j (λ e. absurd (omega (arith, e, after, before, once.0, h))))
        (ap (λ y. nat_lt j e && y) (within_o (suc j) (omega (arith, h))) ∙ and_false (nat_lt j e)))
        (by_fourth t t (unwrap_or (save_at m b lb t) Full) _ _ _ _
        (not_saved m b lb budget t (unsaved m b lb t (unread_o t (omega arith)))) (unpassed m b lb t (unread_o t (omega arith)))
        (ne_eqb (turns_at_end m b lb) t (λ e. absurd (omega (arith, e, after, before, once.0))))
        (ap₂ ◌&&◌ (lt-ltb t e (omega (arith, after))) passes_o))
      where
        and_false : (x : Bool) → (x && false) ≡ false
        and_false true = refl
        and_false false = refl

-- ---- the jobs of a plan

module _ {S : Type 0} (m : Machine S) (given : Limits) (budget : ℕ) (nodes : List Node) (top : NodeNo) (plan : IsPlan nodes) where
  front_of : (n : ℕ) → is_below nodes top.0 n ≡ true → (length (joined nodes top.0) ≤ length (joined nodes n)) × (take (length (joined nodes top.0)) (joined nodes top.0) ≡ take (length (joined nodes top.0)) (joined nodes n))
  front_of n is =
      let more = begins nodes top.0 n plan (below nodes top.0 (descends nodes plan) n is) in
      let a = joined nodes top.0 in
      let long = ap length more.1 ∙ length-append a more.0 in
      (omega (arith, long), same_front a more.0 ∙ ap (take (length a)) (sym more.1))

  -- the node itself, or a longer stimulus
  same_node : (n : NodeNo) → n.0 ≡ top.0 → n ≡ top
  same_node n e = λ i. record { 0 = e i }

module _ {S : Type 0} (m : Machine S) where
  pub endings_copied : EndingIsCopied m
  endings_copied given budget nodes top job t plan is_job is kind fit = record { outcome = outcome; kind = of_node }
    where
      parts : ((end_of_job m given nodes (Reach top)).turns ≤ (limits_of given nodes job).turns) × ((end_of_job m given nodes (Reach top)).written ≤ (limits_of given nodes job).output)
      parts =
          let end = end_of_job m given nodes (Reach top) in
          let lb = limits_of given nodes job in
          let two = and_parts (nat_le end.turns lb.turns) (nat_le end.written lb.output) fit in
          (leb-true end.turns lb.turns two.0, leb-true end.written lb.output two.1)

      first : EndsFirst m (joined nodes top.0) (limits_of given nodes (Reach top)) budget (turns_before_end m (joined nodes top.0) (limits_of given nodes (Reach top))) t
      first = ends_first m (joined nodes top.0) (limits_of given nodes (Reach top)) budget t kind

      outcome : solo m (joined nodes (node_of job)) (limits_of given nodes job) budget ≡ solo m (joined nodes top.0) (limits_of given nodes (Reach top)) budget
      outcome =
          let two = front_of m given budget nodes top plan (node_of job) is in
          let lower = limits_lower given nodes top job plan is_job is in
          let counts = first.counts in
          ending_outcome m (joined nodes top.0) (joined nodes (node_of job)) (limits_of given nodes (Reach top)) (limits_of given nodes job) budget _ t two.0 two.1 lower.0 lower.1 first
          (omega (arith, counts, parts.0)) parts.1

      of_node : (n : NodeNo) → job ≡ Reach n → kind_of_node m given budget nodes n ≡ kind_of_node m given budget nodes top
      of_node n reaches =
          ⊎_elim
          (λ same. ap (kind_of_node m given budget nodes) (same_node m given budget nodes top plan n same))
          (λ differ.
          let at : node_of job ≡ n.0 = ap node_of reaches in
          let lower = limits_lower given nodes top job plan is_job is in
          let counts = first.counts in
          let down = below nodes top.0 (descends nodes plan) n.0 (ap (is_below nodes top.0) (sym at) ∙ is) in
          let two = front_of m given budget nodes top plan n.0 (ap (is_below nodes top.0) (sym at) ∙ is) in
          let limits : limits_of given nodes job ≡ limits_of given nodes (Reach n) = ap (limits_of given nodes) reaches in
          let turns = ap (λ (l : Limits). l.turns) limits in
          let output = ap (λ (l : Limits). l.output) limits in
          ending_kind m (joined nodes top.0) (joined nodes n.0) (limits_of given nodes (Reach top)) (limits_of given nodes (Reach n)) budget _ t two.0 two.1
          (omega (arith, lower.0, turns)) (omega (arith, lower.1, output)) first (omega (arith, counts, parts.0, turns)) (omega (arith, parts.1, output))
          (begins_more nodes top.0 n.0 plan down differ) ∙ sym kind)
          (cases_eq n.0 top.0)

  pub passings_copied : PassingIsCopied m
  passings_copied given budget nodes top job t plan is_job is kind fit = record { outcome = outcome; kind = of_node }
    where
      parts : (t + 1 ≤ (limits_of given nodes job).turns) × ((limits_of given nodes job).output ≡ (limits_of given nodes (Reach top)).output)
      parts =
          let lb = limits_of given nodes job in
          let la = limits_of given nodes (Reach top) in
          let two = and_parts (nat_le (t + 1) lb.turns) (lb.output == la.output) fit in
          (leb-true (t + 1) lb.turns two.0, eqb-true lb.output la.output two.1)

      first : PassesFirst m (joined nodes top.0) (limits_of given nodes (Reach top)) budget t
      first = passes_first m (joined nodes top.0) (limits_of given nodes (Reach top)) budget t kind

      outcome : solo m (joined nodes (node_of job)) (limits_of given nodes job) budget ≡ solo m (joined nodes top.0) (limits_of given nodes (Reach top)) budget
      outcome =
          let two = front_of m given budget nodes top plan (node_of job) is in
          passing_outcome m (joined nodes top.0) (joined nodes (node_of job)) (limits_of given nodes (Reach top)) (limits_of given nodes job) budget t two.0 two.1 parts.1 first parts.0

      of_node : (n : NodeNo) → job ≡ Reach n → kind_of_node m given budget nodes n ≡ kind_of_node m given budget nodes top
      of_node n reaches =
          ⊎_elim
          (λ same. ap (kind_of_node m given budget nodes) (same_node m given budget nodes top plan n same))
          (λ differ.
          let at : node_of job ≡ n.0 = ap node_of reaches in
          let down = below nodes top.0 (descends nodes plan) n.0 (ap (is_below nodes top.0) (sym at) ∙ is) in
          let two = front_of m given budget nodes top plan n.0 (ap (is_below nodes top.0) (sym at) ∙ is) in
          let limits : limits_of given nodes job ≡ limits_of given nodes (Reach n) = ap (limits_of given nodes) reaches in
          let turns = ap (λ (l : Limits). l.turns) limits in
          let output = ap (λ (l : Limits). l.output) limits in
          passing_kind m (joined nodes top.0) (joined nodes n.0) (limits_of given nodes (Reach top)) (limits_of given nodes (Reach n)) budget t two.0 two.1
          (sym output ∙ parts.1) first (omega (arith, parts.0, turns)) (begins_more nodes top.0 n.0 plan down differ) ∙ sym kind)
          (cases_eq n.0 top.0)
