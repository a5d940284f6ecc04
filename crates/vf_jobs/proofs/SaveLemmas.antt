-- Up to a save point a run is that of each run below it whose limits the checkpoint fits.
use Rattle.std.proofs.Common.{◌≡◌, ℕ, zero, suc, ◌+◌, ◌-◌, ◌<◌, ◌≤◌, ◌&&◌, Bool, true, false, nat_le, if◌then◌else◌, List, ◌++◌, length, Option, Some, None, is_some, refl, sym, ◌∙◌, ap, ap₂, subst, arith, length-append, ⊎_elim}
use Rattle.std.proofs.lemmas.Bool.{leb-true, le-leb, eqb-true, and_parts, cases_lt}
use Rattle.vf_base.specs.declared.run.Header.{Header}
use Rattle.vf_base.specs.declared.run.Limits.{Limits}
use Rattle.vf_base.specs.declared.run.SaveKind.{SaveKind}
use Rattle.vf_machine.specs.Machine.{Machine}
use Rattle.vf_machine.specs.Run.{Moment, Turned, moment_at, turn_at, turn_of, free_turn, mark_at, is_ending, is_limit}
use Rattle.vf_machine.specs.Solo.{turns_before_end}
use Rattle.vf_machine.specs.Laws.{PrefixLaw, RunEnds, IsUnlimited, SameFor}
use Rattle.vf_machine.proofs.CallerLemmas.{moment_at-suc, unlimited, within_limits, no_limit, same_free, reads_grow, written_grows, later, counts_once, Finds, IsFirst, first_finds, turns_counted}
use Rattle.vf_plan.specs.declared.plan.Node.{Node}
use Rattle.vf_plan.specs.Paths.{joined}
use Rattle.vf_plan.specs.Rules.{IsPlan}
use Rattle.vf_jobs.specs.Jobs.{fits}
use Rattle.vf_jobs.specs.Kinds.{save_of, all_read, save_at, savepoint, SharesItsSavePoint}
use Rattle.vf_jobs.specs.Subtree.{is_below}
use Rattle.vf_jobs.proofs.SubtreeLemmas.{below, begins, begins_more, descends, same_front}

-- ---- the run below

record Saves {S : Type 0} (m : Machine S) (a : List ℕ) (la lb : Limits) (t : ℕ) : Type 0 where
  pub goes : (j : ℕ) → j < t → is_ending (mark_at m a la j) ≡ false
  pub reads : (moment_at m a la t).header.reads ≤ length a
  pub turns : (moment_at m a la t).header.turns ≤ lb.turns
  pub written : (moment_at m a la t).header.written ≤ lb.output

module _ {S : Type 0} (m : Machine S) (law : PrefixLaw m) (a more : List ℕ) (la lb : Limits) (t : ℕ) (s : Saves m a la lb t) where
  reads_so_far : (k : ℕ) → k ≤ t → (moment_at m a la k).header.reads ≤ length a
  reads_so_far k h =
      let n = t - k in
      let grown = later (λ now. now.header.reads) m a la (λ now. reads_grow m a la now) k n in
      let whole = ap (λ j. (moment_at m a la j).header.reads) (let j : k + n ≡ t = omega (arith, h) in j) in
      omega (arith, grown, whole, s.reads)

  written_so_far : (k : ℕ) → k ≤ t → (moment_at m a la k).header.written ≤ lb.output
  written_so_far k h =
      let n = t - k in
      let grown = later (λ now. now.header.written) m a la (λ now. written_grows m a la now) k n in
      let whole = ap (λ j. (moment_at m a la j).header.written) (let j : k + n ≡ t = omega (arith, h) in j) in
      omega (arith, grown, whole, s.written)

  free_above : (k : ℕ) → k ≤ t → IsUnlimited m a la k
  free_above k h j less = no_limit (mark_at m a la j) (s.goes j (omega (arith, h, less)))

  same_until : (k : ℕ) → k ≤ t → IsUnlimited m (a ++ more) lb k → SameFor m a la (a ++ more) lb k
  same_until k h free =
      let long = length-append a more in
      law a (a ++ more) la lb (length a) k (omega arith) (omega (arith, long)) (same_front a more) (free_above k h) free (reads_so_far k h)

  -- the turn after k is no limit below either
  free_turn_below : (k : ℕ) → k < t → IsUnlimited m (a ++ more) lb k → is_limit (mark_at m (a ++ more) lb k) ≡ false
  free_turn_below k h free =
      let now = moment_at m a la k in
      let same = (same_until k (omega (arith, h)) free).moment in
      let goes = s.goes k h in
      let here : turn_at m a la k ≡ free_turn m a now = unlimited m a la now (no_limit (mark_at m a la k) goes) in
      let after : moment_at m a la (suc k) ≡ (free_turn m a now).after = moment_at-suc m a la k ∙ ap (λ (t : Turned S). t.after) here in
      let reads : (free_turn m a now).after.header.reads ≤ length a =
      let r = reads_so_far (suc k) (omega (arith, h)) in let e = ap (λ (n : Moment S). n.header.reads) after in omega (arith, r, e) in
      let long = length-append a more in
      let alike : free_turn m a now ≡ free_turn m (a ++ more) now =
      same_free m a (a ++ more) now (length a) (omega arith) (omega (arith, long)) (same_front a more) reads in
      let written : (free_turn m (a ++ more) now).after.header.written ≤ lb.output =
      let w = written_so_far (suc k) (omega (arith, h)) in
      let e = ap (λ (n : Moment S). n.header.written) after in
      let f = ap (λ (t : Turned S). t.after.header.written) alike in
      omega (arith, w, e, f) in
      let counted = turns_counted m a la k (λ j less. s.goes j (omega (arith, h, less))) in
      let all = turns_counted m a la t s.goes in
      let turns : now.header.turns < lb.turns = omega (arith, counted, all, h, s.turns) in
      let below : turn_of m (a ++ more) lb now ≡ free_turn m a now = within_limits m (a ++ more) lb now turns written ∙ sym alike in
      ap (λ (n : Moment S). is_limit (turn_of m (a ++ more) lb n).mark) (sym same)
      ∙ ap (λ (t : Turned S). is_limit t.mark) (below ∙ sym here)
      ∙ no_limit (mark_at m a la k) goes

  free_below : (k : ℕ) → k ≤ t → IsUnlimited m (a ++ more) lb k
  free_below zero h j less = absurd (omega (arith, less))
  free_below (suc k) h j less =
      let before = free_below k (omega (arith, h)) in
      let here = free_turn_below k (omega (arith, h)) before in
      ⊎_elim (λ lt. before j lt) (λ ge. let same : j ≡ k = omega (arith, ge, less) in ap (λ i. is_limit (mark_at m (a ++ more) lb i)) same ∙ here) (cases_lt j k)

  until : (k : ℕ) → k ≤ t → SameFor m a la (a ++ more) lb k
  until k h = same_until k h (free_below k h)

-- ---- what a save point says

read_by : (all : Bool) (save : Option SaveKind) → is_some (if all then save else None) ≡ true → all ≡ true
read_by true save h = refl
read_by false save h = cc

read_at : {S : Type 0} (m : Machine S) (a : List ℕ) (la : Limits) (t : ℕ) → is_some (save_at m a la t) ≡ true → all_read m a la t ≡ true
read_at m a la zero h = cc
read_at m a la (suc t) h = read_by (all_read m a la (suc t)) (save_of (mark_at m a la t)) h

saves : {S : Type 0} (m : Machine S) (a : List ℕ) (la lb : Limits) (t : ℕ) → RunEnds m a la → savepoint m a la ≡ Some t → fits lb (moment_at m a la t).header ≡ true → Saves m a la lb t
saves m a la lb t ends e f =
    let found : IsFirst (λ t. is_some (save_at m a la t)) (turns_before_end m a la + 1) t =
    subst (Finds (λ t. is_some (save_at m a la t)) (turns_before_end m a la + 1)) e (first_finds (λ t. is_some (save_at m a la t)) (turns_before_end m a la + 1)) in
    let two = and_parts (nat_le (moment_at m a la t).header.turns lb.turns) (nat_le (moment_at m a la t).header.written lb.output) f in
    let whole : (moment_at m a la t).header.reads ≡ length a = eqb-true (moment_at m a la t).header.reads (length a) (read_at m a la t found.passes) in
    record {
      goes = λ j less. ends.first j (omega (arith, less, found.below));
      reads = omega (arith, whole);
      turns = leb-true (moment_at m a la t).header.turns lb.turns two.0;
      written = leb-true (moment_at m a la t).header.written lb.output two.1;
    }

pub shares_save_point : {S : Type 0} (m : Machine S) → PrefixLaw m → ((stim : List ℕ) (limits : Limits) → RunEnds m stim limits) → SharesItsSavePoint m
shares_save_point m law ends nodes top n la lb t k plan is e f h =
    let more = begins nodes top n plan (below nodes top (descends nodes plan) n is) in
    let a = joined nodes top in
    subst (λ b. SameFor m a la b lb k) (sym more.1) (until m law a more.0 la lb t (saves m a la lb t (ends a la) e f) k h)

-- ---- of two save points on one way the upper one comes first

pub all_at : {S : Type 0} (m : Machine S) (a : List ℕ) (la : Limits) (t : ℕ) → savepoint m a la ≡ Some t → (moment_at m a la t).header.reads ≡ length a
all_at m a la t e =
    let found : IsFirst (λ t. is_some (save_at m a la t)) (turns_before_end m a la + 1) t =
    subst (Finds (λ t. is_some (save_at m a la t)) (turns_before_end m a la + 1)) e (first_finds (λ t. is_some (save_at m a la t)) (turns_before_end m a la + 1)) in
    eqb-true (moment_at m a la t).header.reads (length a) (read_at m a la t found.passes)

fits_less : (less more : Header) (limits : Limits) → less.turns ≤ more.turns → less.written ≤ more.written → fits limits more ≡ true → fits limits less ≡ true
fits_less less more limits turns written h =
    let two = and_parts (nat_le more.turns limits.turns) (nat_le more.written limits.output) h in
    let high = leb-true more.turns limits.turns two.0 in
    let wide = leb-true more.written limits.output two.1 in
    ap₂ ◌&&◌ (le-leb less.turns limits.turns (omega (arith, high, turns))) (le-leb less.written limits.output (omega (arith, wide, written)))

-- turn t of the one run comes before turn u of the other, and fits whatever that fits
pub record IsBefore {S : Type 0} (m : Machine S) (a : List ℕ) (la : Limits) (t : ℕ) (b : List ℕ) (lb : Limits) (u : ℕ) : Type 0 where
  pub earlier : t < u
  pub serves : (limits : Limits) → fits limits (moment_at m b lb u).header ≡ true → fits limits (moment_at m a la t).header ≡ true

before_by : {S : Type 0} (m : Machine S) (a : List ℕ) (la : Limits) (t : ℕ) (b : List ℕ) (lb : Limits) (u : ℕ)
    → moment_at m a la t ≡ moment_at m b lb t → (moment_at m a la t).header.reads ≡ length a → (moment_at m b lb u).header.reads ≡ length b → length a < length b
    → IsBefore m a la t b lb u
before_by m a la t b lb u same whole all longer = record { earlier = before; serves = λ limits h. fits_less (moment_at m a la t).header (moment_at m b lb u).header limits turns written h }
  where
    before : t < u
    before = ⊎_elim (λ lt. lt)
        (λ ge.
        let n = t - u in
        let grown = later (λ now. now.header.reads) m b lb (λ now. reads_grow m b lb now) u n in
        let end = ap (λ j. (moment_at m b lb j).header.reads) (let j : u + n ≡ t = omega (arith, ge) in j) in
        let here = ap (λ now. now.header.reads) same in
        absurd (omega (arith, grown, end, here, whole, all, longer)))
        (cases_lt t u)

    turns : (moment_at m a la t).header.turns ≤ (moment_at m b lb u).header.turns
    turns =
        let n = u - t in
        let grown = later (λ now. now.header.turns) m b lb (λ now. (counts_once m b lb now).0) t n in
        let end = ap (λ j. (moment_at m b lb j).header.turns) (let j : t + n ≡ u = let first = before in omega (arith, first) in j) in
        let here = ap (λ now. now.header.turns) same in
        omega (arith, grown, end, here)

    written : (moment_at m a la t).header.written ≤ (moment_at m b lb u).header.written
    written =
        let n = u - t in
        let grown = later (λ now. now.header.written) m b lb (λ now. written_grows m b lb now) t n in
        let end = ap (λ j. (moment_at m b lb j).header.written) (let j : t + n ≡ u = let first = before in omega (arith, first) in j) in
        let here = ap (λ now. now.header.written) same in
        omega (arith, grown, end, here)

pub upper_first : {S : Type 0} (m : Machine S) → PrefixLaw m → ((stim : List ℕ) (limits : Limits) → RunEnds m stim limits)
    → (nodes : List Node) (top n : ℕ) (la lb : Limits) (t u : ℕ) → IsPlan nodes → is_below nodes top n ≡ true → (n ≡ top → ⊥)
    → savepoint m (joined nodes top) la ≡ Some t → fits lb (moment_at m (joined nodes top) la t).header ≡ true → savepoint m (joined nodes n) lb ≡ Some u
    → IsBefore m (joined nodes top) la t (joined nodes n) lb u
upper_first m law ends nodes top n la lb t u plan is differ upper fit lower =
    before_by m (joined nodes top) la t (joined nodes n) lb u
    (shares_save_point m law ends nodes top n la lb t t plan is upper fit (omega arith)).moment
    (all_at m (joined nodes top) la t upper) (all_at m (joined nodes n) lb u lower)
    (begins_more nodes top n plan (below nodes top (descends nodes plan) n is) differ)
