-- How many jobs of a subtree there are and are over, and how the counts change.
use Rattle.std.proofs.Common.{◌≡◌, ℕ, zero, suc, ◌+◌, ◌<◌, ◌≤◌, Bool, true, false, ◌&&◌, ◌||◌, ◌==◌, nat_lt, not, List, [], ◌∷◌, ◌++◌, length, take, replicate, Some, None, IfSome, refl, sym, ◌∙◌, ap, ap₂, subst, arith, slice_get, slice_set, get_or, ◌^◌}
use Rattle.std.specs.List.{list_any}
use Rattle.std.proofs.lemmas.Bool.{eqb-true, eqb-false, ltb-true, ltb-false, lt-ltb, le-ltb}
use Rattle.std.proofs.lemmas.List.{get_or-set_same, get_or-set_other, get_or_default}
use Rattle.vf_base.specs.declared.names.Job.{Job}
use Rattle.vf_base.specs.declared.names.NodeNo.{NodeNo}
use Rattle.vf_plan.specs.declared.plan.Node.{Node}
use Rattle.vf_plan.specs.Paths.{at_parent, grown, with_number}
use Rattle.vf_plan.specs.Rules.{IsPlan}
use Rattle.vf_plan.proofs.CallerLemmas.{path-at}
use Rattle.vf_jobs.specs.Jobs.{node_of}
use Rattle.vf_jobs.specs.Subtree.{is_below}
use Rattle.vf_jobs.proofs.CallerLemmas.{descends, stands_before}
use Rattle.vf_records.specs.declared.row.Progress.{Progress}
use Rattle.vf_records.specs.declared.row.Progress.TheVariants as rows
use Rattle.vf_records.specs.Counts.{is_over_progress, one, jobs_below, over_below}
use Rattle.vf_records.proofs.LayoutLemmas.{take_one}

-- ---- one more on the path of a node

module _ (nodes : List Node) (plan : IsPlan nodes) (at : ℕ) (node : Node) (e : slice_get nodes at ≡ Some node) (counts : List ℕ) (long : at < length counts) (was : ℕ) (read : was ≡ get_or counts at was)
    (top : ℕ) (is_top : was + 1 < 2 ^ 64 → top ≡ was + 1) where
  abbrev set_once : List ℕ
  set_once = slice_set counts at top

  was_is : (n : ℕ) → at ≡ n → was ≡ get_or counts n 0
  was_is n same = read ∙ get_or_default counts at was 0 long ∙ ap (λ k. get_or counts k 0) same

  at_once : (n : ℕ) → at ≡ n → get_or counts n 0 + 1 < 2 ^ 64 → get_or set_once n 0 ≡ get_or counts n 0 + 1
  at_once n same room =
      ap (λ k. get_or set_once k 0) (sym same) ∙ get_or-set_same counts at top 0 long ∙ is_top (subst (λ k. k + 1 < 2 ^ 64) (sym (was_is n same)) room)
      ∙ ap (λ k. k + 1) (was_is n same)

  elsewhere : (n : ℕ) → (at == n) ≡ false → get_or set_once n 0 ≡ get_or counts n 0
  elsewhere n differs = get_or-set_other counts at n top 0 (λ same. eqb-false at n differs (sym same))

  below_here : (n : ℕ) → is_below nodes n at ≡ ((at == n) || list_any (λ a. a == n) (at_parent [] (grown with_number [] nodes) node.parent))
  below_here n = ap (list_any (λ a. a == n)) (path-at nodes at node e (descends nodes plan at node e))

  none_more : (k : ℕ) → k ≡ k + 0
  none_more k = omega arith

  pub counted_root : node.parent ≡ None → (n : ℕ) → get_or counts n 0 + one (is_below nodes n at) < 2 ^ 64 → get_or set_once n 0 ≡ get_or counts n 0 + one (is_below nodes n at)
  counted_root p n room = by (at == n) refl
    where
      is : (same : Bool) → (at == n) ≡ same → is_below nodes n at ≡ (same || false)
      is same s = below_here n ∙ ap₂ (λ b o. b || list_any (λ a. a == n) (at_parent [] (grown with_number [] nodes) o)) s p

      by : (same : Bool) → (at == n) ≡ same → get_or set_once n 0 ≡ get_or counts n 0 + one (is_below nodes n at)
      by true same =
          at_once n (eqb-true at n same) (subst (λ b. get_or counts n 0 + one b < 2 ^ 64) (is true same) room)
          ∙ ap (λ b. get_or counts n 0 + one b) (sym (is true same))
      by false differs =
          elsewhere n differs ∙ none_more (get_or counts n 0) ∙ ap (λ b. get_or counts n 0 + one b) (sym (is false differs))

  module _ (parent : NodeNo) (p : node.parent ≡ Some parent) where
    less : parent.0 < at
    less = subst (λ o. IfSome o (λ p. p.0 < at)) p (descends nodes plan at node e)

    below_up : (n : ℕ) (same : Bool) → (at == n) ≡ same → is_below nodes n at ≡ (same || is_below nodes n parent.0)
    below_up n same is = below_here n ∙ ap₂ (λ b o. b || list_any (λ a. a == n) (at_parent [] (grown with_number [] nodes) o)) is p

    not_above : (n : ℕ) → at ≡ n → (b : Bool) → is_below nodes n parent.0 ≡ b → is_below nodes n parent.0 ≡ false
    not_above n same true b = let first = stands_before nodes n parent.0 plan b in let h = less in absurd (omega (arith, first, h, same))
    not_above n same false b = b

    pub counted_up : (new : List ℕ) → ((n : ℕ) → get_or set_once n 0 + one (is_below nodes n parent.0) < 2 ^ 64 → get_or new n 0 ≡ get_or set_once n 0 + one (is_below nodes n parent.0))
        → (n : ℕ) → get_or counts n 0 + one (is_below nodes n at) < 2 ^ 64 → get_or new n 0 ≡ get_or counts n 0 + one (is_below nodes n at)
    counted_up new above n room = by (at == n) refl
      where
        by : (same : Bool) → (at == n) ≡ same → get_or new n 0 ≡ get_or counts n 0 + one (is_below nodes n at)
        by true same =
            let here : get_or counts n 0 + 1 < 2 ^ 64 = subst (λ b. get_or counts n 0 + one b < 2 ^ 64) (below_up n true same) room in
            let once = at_once n (eqb-true at n same) here in
            let off = not_above n (eqb-true at n same) (is_below nodes n parent.0) refl in
            above n (subst (λ b. get_or set_once n 0 + one b < 2 ^ 64) (sym off) (omega (arith, once, here)))
            ∙ ap (λ b. get_or set_once n 0 + one b) off
            ∙ sym (none_more (get_or set_once n 0)) ∙ once
            ∙ ap (λ b. get_or counts n 0 + one b) (sym (below_up n true same))
        by false differs =
            let there = elsewhere n differs in
            above n (subst (λ k. k + one (is_below nodes n parent.0) < 2 ^ 64) (sym there) (subst (λ b. get_or counts n 0 + one b < 2 ^ 64) (below_up n false differs) room))
            ∙ ap (λ k. k + one (is_below nodes n parent.0)) there
            ∙ ap (λ b. get_or counts n 0 + one b) (sym (below_up n false differs))

-- ---- the jobs of a plan are counted one after another

below-append : (nodes : List Node) (n : ℕ) (xs : List Job) (job : Job) → jobs_below nodes n (xs ++ job ∷ []) ≡ jobs_below nodes n xs + one (is_below nodes n (node_of job))
unfolding jobs_below
below-append nodes n [] job = omega arith
below-append nodes n (x ∷ xs) job = let rest = below-append nodes n xs job in omega (arith, rest)

pub counted_next : (nodes : List Node) (n : ℕ) (jobs : List Job) (at : ℕ) (job : Job) (before : ℕ) → slice_get jobs at ≡ Some job → before ≡ jobs_below nodes n (take at jobs)
    → before + one (is_below nodes n (node_of job)) ≡ jobs_below nodes n (take (at + 1) jobs)
counted_next nodes n jobs at job before e is =
    ap (λ k. k + one (is_below nodes n (node_of job))) is ∙ sym (below-append nodes n (take at jobs) job) ∙ ap (jobs_below nodes n) (sym (take_one jobs at job e))

pub one_most : (b : Bool) → one b ≤ 1
one_most true = omega arith
one_most false = omega arith

pub below_most : (nodes : List Node) (n : ℕ) (jobs : List Job) → jobs_below nodes n jobs ≤ length jobs
unfolding jobs_below
below_most nodes n [] = omega arith
below_most nodes n (job ∷ more) = let rest = below_most nodes n more in let h = one_most (is_below nodes n (node_of job)) in omega (arith, rest, h)

pub taken_most : {A : Type 0} (xs : List A) (k : ℕ) → length (take k xs) ≤ length xs
taken_most [] zero = omega arith
taken_most [] (suc k) = omega arith
taken_most (x ∷ xs) zero = omega arith
taken_most (x ∷ xs) (suc k) = let rest = taken_most xs k in omega (arith, rest)

pub none_below : (nodes : List Node) (n : ℕ) → 0 ≡ jobs_below nodes n []
unfolding jobs_below
none_below nodes n = refl

pub take_none : {A : Type 0} (xs : List A) → take 0 xs ≡ []
take_none [] = refl
take_none (x ∷ xs) = refl

pub take_all : {A : Type 0} (xs : List A) (k : ℕ) → length xs ≤ k → take k xs ≡ xs
take_all [] zero h = refl
take_all [] (suc k) h = refl
take_all (x ∷ xs) zero h = absurd (omega (arith, h))
take_all (x ∷ xs) (suc k) h = ap (λ ys. x ∷ ys) (take_all xs k (omega (arith, h)))

-- ---- jobs that are over

over_most : (nodes : List Node) (n : ℕ) (jobs : List Job) (progress : List Progress) → over_below nodes n jobs progress ≤ jobs_below nodes n jobs
unfolding jobs_below over_below
over_most nodes n [] progress = omega arith
over_most nodes n (job ∷ more) [] = omega arith
over_most nodes n (job ∷ more) (p ∷ rest) = let further = over_most nodes n more rest in let h = less (is_below nodes n (node_of job)) (is_over_progress p) in omega (arith, further, h)
  where
    less : (b o : Bool) → one (b && o) ≤ one b
    less true true = omega arith
    less true false = omega arith
    less false o = omega arith

pub over_within : (nodes : List Node) (n : ℕ) (jobs : List Job) (progress : List Progress) → over_below nodes n jobs progress ≤ length jobs
over_within nodes n jobs progress = let a = over_most nodes n jobs progress in let b = below_most nodes n jobs in omega (arith, a, b)

-- none is over at first
pub none_over : (nodes : List Node) (n : ℕ) (jobs : List Job) (k : ℕ) → over_below nodes n jobs (replicate k rows.Idle) ≡ 0
unfolding over_below
none_over nodes n [] k = refl
none_over nodes n (job ∷ more) zero = refl
none_over nodes n (job ∷ more) (suc k) = let rest = none_over nodes n more k in let h = none (is_below nodes n (node_of job)) in omega (arith, rest, h)
  where
    none : (b : Bool) → one (b && false) ≡ 0
    none true = refl
    none false = refl

-- a place that is not over, and stays so
pub over_same : (nodes : List Node) (n : ℕ) (jobs : List Job) (progress : List Progress) (k : ℕ) (x : Progress) → is_over_progress x ≡ false → is_over_progress (get_or progress k rows.Idle) ≡ false
    → over_below nodes n jobs (slice_set progress k x) ≡ over_below nodes n jobs progress
unfolding over_below
over_same nodes n [] progress k x is left = refl
over_same nodes n (job ∷ more) [] k x is left = refl
over_same nodes n (job ∷ more) (p ∷ rest) zero x is left = ap (λ o. one (is_below nodes n (node_of job) && o) + over_below nodes n more rest) (is ∙ sym left)
over_same nodes n (job ∷ more) (p ∷ rest) (suc k) x is left = ap (λ m. one (is_below nodes n (node_of job) && is_over_progress p) + m) (over_same nodes n more rest k x is left)

-- and one that is over then
pub over_more : (nodes : List Node) (n : ℕ) (jobs : List Job) (progress : List Progress) (k : ℕ) (job : Job) → slice_get jobs k ≡ Some job → k < length progress
    → is_over_progress (get_or progress k rows.Idle) ≡ false → over_below nodes n jobs (slice_set progress k rows.Over) ≡ over_below nodes n jobs progress + one (is_below nodes n (node_of job))
unfolding over_below
over_more nodes n [] progress k job e within left = cc
over_more nodes n (x ∷ more) [] k job e within left = absurd (omega (arith, within))
over_more nodes n (x ∷ more) (p ∷ rest) zero job e within left =
    let is : x ≡ job = cc in
    ap (λ (j : Job). one (is_below nodes n (node_of j) && true) + over_below nodes n more rest) is
    ∙ by (is_below nodes n (node_of job)) (over_below nodes n more rest)
    ∙ ap₂ (λ (j : Job) o. one (is_below nodes n (node_of j) && o) + over_below nodes n more rest + one (is_below nodes n (node_of job))) (sym is) (sym left)
  where
    by : (b : Bool) (m : ℕ) → one (b && true) + m ≡ one (b && false) + m + one b
    by true m = omega arith
    by false m = omega arith
over_more nodes n (x ∷ more) (p ∷ rest) (suc k) job e within left =
    let further = over_more nodes n more rest k job e (omega (arith, within)) left in
    ap (λ m. one (is_below nodes n (node_of x) && is_over_progress p) + m) further
    ∙ (let same : one (is_below nodes n (node_of x) && is_over_progress p) + (over_below nodes n more rest + one (is_below nodes n (node_of job)))
    ≡ one (is_below nodes n (node_of x) && is_over_progress p) + over_below nodes n more rest + one (is_below nodes n (node_of job)) = omega arith in same)

-- ---- a job of the subtree is left where fewer are over than there are

lt_more : (a b : ℕ) → nat_lt (1 + a) (1 + b) ≡ nat_lt a b
lt_more a b = by (nat_lt a b) refl
  where
    by : (s : Bool) → nat_lt a b ≡ s → nat_lt (1 + a) (1 + b) ≡ s
    by true h = lt-ltb (1 + a) (1 + b) (let less = ltb-true a b h in omega (arith, less))
    by false h = le-ltb (1 + a) (1 + b) (let least = ltb-false a b h in omega (arith, least))

none_first : (k : ℕ) → 0 + k ≡ k
none_first k = omega arith

pub left_below : (nodes : List Node) (n : ℕ) (jobs : List Job) (progress : List Progress) (is_done : Job → Bool) → length progress ≡ length jobs
    → ((i : ℕ) (job : Job) → slice_get jobs i ≡ Some job → is_done job ≡ is_over_progress (get_or progress i rows.Idle))
    → list_any (λ job. is_below nodes n (node_of job) && not (is_done job)) jobs ≡ nat_lt (over_below nodes n jobs progress) (jobs_below nodes n jobs)
unfolding jobs_below over_below
left_below nodes n [] progress is_done long h = refl
left_below nodes n (job ∷ more) [] is_done long h = absurd (omega (arith, long))
left_below nodes n (job ∷ more) (p ∷ rest) is_done long h =
    ap (λ d. (is_below nodes n (node_of job) && not d) || list_any (λ j. is_below nodes n (node_of j) && not (is_done j)) more) (h 0 job refl)
    ∙ ap (λ b. (is_below nodes n (node_of job) && not (is_over_progress p)) || b) (left_below nodes n more rest is_done (omega (arith, long)) (λ i j e. h (suc i) j e))
    ∙ by (is_below nodes n (node_of job)) (is_over_progress p)
  where
    by : (b o : Bool) → ((b && not o) || nat_lt (over_below nodes n more rest) (jobs_below nodes n more)) ≡ nat_lt (one (b && o) + over_below nodes n more rest) (one b + jobs_below nodes n more)
    by true true = sym (lt_more (over_below nodes n more rest) (jobs_below nodes n more))
    by true false = sym (lt-ltb (0 + over_below nodes n more rest) (1 + jobs_below nodes n more) (let most = over_most nodes n more rest in omega (arith, most)))
    by false o = sym (ap₂ nat_lt (none_first (over_below nodes n more rest)) (none_first (jobs_below nodes n more)))
