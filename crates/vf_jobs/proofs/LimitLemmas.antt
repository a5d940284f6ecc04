-- The limits of the jobs that reach nodes.
use Rattle.std.proofs.Common.{◌≡◌, ℕ, zero, suc, ◌+◌, ◌<◌, ◌≤◌, Bool, true, false, ◌&&◌, nat_lt, nat_le, if◌then◌else◌, List, [], ◌∷◌, length, Option, Some, None, IfSome, refl, sym, ◌∙◌, ap, ap₂, subst, arith, slice_get, unwrap_or, option_map, get_or, slice_set, drop, take, replicate, ◌==◌, ◌||◌}
use Rattle.std.proofs.lemmas.Bool.{leb-true, le-leb, ltb-true, ltb-false, eqb-true, eqb-false, and_parts}
use Rattle.std.proofs.lemmas.List.{get_or-set_same, get_or-set_other, get_or_default, drop_more, drop_all, length-replicate}
use Rattle.std.proofs.lemmas.Option.{slice_get_within, get_or_from_slice_get}
use Rattle.vf_base.specs.declared.names.Job.{Job}
use Rattle.vf_base.specs.declared.names.Job.TheVariants.{Reach, Finish}
use Rattle.vf_base.specs.declared.names.NodeNo.{NodeNo}
use Rattle.vf_base.specs.declared.run.Header.{Header}
use Rattle.vf_base.specs.declared.run.Limits.{Limits}
use Rattle.vf_plan.specs.declared.plan.Node.{Node}
use Rattle.vf_plan.specs.Paths.{at_parent, grown, path, with_number}
use Rattle.vf_plan.specs.Rules.{IsPlan, IsNodeAfter}
use Rattle.vf_jobs.specs.Setup.{IsInRange}
use Rattle.vf_jobs.specs.Subtree.{is_below}
use Rattle.vf_jobs.specs.Limits.{turns_of, output_of, greater, larger, greatest_from, greatest_below, first_some, reach_limit, limits_at, limits_of, limits_of_test, limits_of_found, ReachLimitsFall, TestsAreWithin}
use Rattle.vf_jobs.specs.Tables.{IsGreatest, AreGreatest, AreLimits, greater_of}
use Rattle.vf_jobs.specs.Jobs.{fits, node_of, IsJob, FitsAbove}
use Rattle.vf_plan.proofs.CallerLemmas.{path-at}
use Rattle.vf_jobs.proofs.SubtreeLemmas.{IsBelow, itself, under, Descends, descends, below, is_above, top_first, up, none_past, below-root, below-parent}

-- a limit is at most another, where there may be none
abbrev IsWithin : ℕ → Option ℕ → Type 0
IsWithin limit None = ⊥
IsWithin limit (Some greatest) = limit ≤ greatest

larger-left : (a b : ℕ) → a ≤ larger a b
larger-left a b = by (nat_lt a b) refl
  where
    by : (less : Bool) → nat_lt a b ≡ less → a ≤ (if less then b else a)
    by true e = let less = ltb-true a b e in omega (arith, less)
    by false e = omega arith

larger-right : (a b : ℕ) → b ≤ larger a b
larger-right a b = by (nat_lt a b) refl
  where
    by : (less : Bool) → nat_lt a b ≡ less → b ≤ (if less then b else a)
    by true e = omega arith
    by false e = ltb-false a b e

greater-left : (limit : ℕ) (other : Option ℕ) → IsWithin limit (greater (Some limit) other)
greater-left limit None = omega arith
greater-left limit (Some b) = larger-left limit b

greater-right : (limit : ℕ) (first other : Option ℕ) → IsWithin limit other → IsWithin limit (greater first other)
greater-right limit None other h = h
greater-right limit (Some a) None h = elim h [ ]
greater-right limit (Some a) (Some b) h = let right = larger-right a b in omega (arith, right, h)

module _ (limit_of : Node → ℕ) (here : ℕ → Bool) where
  -- no test has a greater limit
  most : (base k : ℕ) (nodes : List Node) (test : Node) → slice_get nodes k ≡ Some test → test.test ≡ true → here (base + k) ≡ true
      → IsWithin (limit_of test) (greatest_from limit_of here base nodes)
  unfolding greatest_from
  most base k [] test e t h = cc
  most base zero (node ∷ more) test e t h =
      let same : node ≡ test = ap (λ o. unwrap_or o node) e in
      let tested : node.test ≡ true = ap (λ (n : Node). n.test) same ∙ t in
      let at : here base ≡ true = ap here (let j : base ≡ base + 0 = omega arith in j) ∙ h in
      subst (λ b. IsWithin (limit_of test) (greater (if b then Some (limit_of node) else None) (greatest_from limit_of here (base + 1) more)))
      (sym (ap₂ (λ a b. a && b) tested at))
      (subst (λ (n : Node). IsWithin (limit_of test) (greater (Some (limit_of n)) (greatest_from limit_of here (base + 1) more))) (sym same)
      (greater-left (limit_of test) (greatest_from limit_of here (base + 1) more)))
  most base (suc k) (node ∷ more) test e t h =
      greater-right (limit_of test) (if node.test && here base then Some (limit_of node) else None) (greatest_from limit_of here (base + 1) more)
      (most (base + 1) k more test e t (ap here (let j : base + 1 + k ≡ base + suc k = omega arith in j) ∙ h))

  -- and one has this limit
  record Reached (base : ℕ) (nodes : List Node) (limit : ℕ) : Type 0 where
    pub k : ℕ
    pub test : Node
    pub stands : slice_get nodes k ≡ Some test
    pub tested : test.test ≡ true
    pub at : here (base + k) ≡ true
    pub is : limit_of test ≡ limit

  later : (base : ℕ) (node : Node) (more : List Node) (limit : ℕ) → Reached (base + 1) more limit → Reached base (node ∷ more) limit
  later base node more limit r = record { k = suc r.k; test = r.test; stands = r.stands; tested = r.tested; at = ap here (let j : base + suc r.k ≡ base + 1 + r.k = omega arith in j) ∙ r.at; is = r.is }

  first_one : (base : ℕ) (node : Node) (more : List Node) → (node.test && here base) ≡ true → Reached base (node ∷ more) (limit_of node)
  first_one base node more h =
      let two = and_parts node.test (here base) h in
      record { k = 0; test = node; stands = refl; tested = two.0; at = ap here (let j : base + 0 ≡ base = omega arith in j) ∙ two.1; is = refl }

  reached_of : (base : ℕ) (node : Node) (more : List Node) (limit : ℕ) (b : Bool) (rest : Option ℕ) → (node.test && here base) ≡ b
      → ((l : ℕ) → rest ≡ Some l → Reached (base + 1) more l) → greater (if b then Some (limit_of node) else None) rest ≡ Some limit → Reached base (node ∷ more) limit
  reached_of base node more limit false rest e after h = later base node more limit (after limit h)
  reached_of base node more limit true None e after h = subst (Reached base (node ∷ more)) (ap (λ o. unwrap_or o limit) h) (first_one base node more e)
  reached_of base node more limit true (Some l) e after h = by (nat_lt (limit_of node) l) (ap (λ o. unwrap_or o limit) h)
    where
      by : (less : Bool) → (if less then l else limit_of node) ≡ limit → Reached base (node ∷ more) limit
      by true same = later base node more limit (subst (Reached (base + 1) more) same (after l refl))
      by false same = subst (Reached base (node ∷ more)) same (first_one base node more e)

  reached : (base : ℕ) (nodes : List Node) (limit : ℕ) → greatest_from limit_of here base nodes ≡ Some limit → Reached base nodes limit
  unfolding greatest_from
  reached base [] limit h = cc
  reached base (node ∷ more) limit h =
      reached_of base node more limit (node.test && here base) (greatest_from limit_of here (base + 1) more) refl (λ l e. reached (base + 1) more l e) h

module _ (limit_of : Node → ℕ) (given : ℕ) (nodes : List Node) (down : Descends nodes) where
  -- where the subtree has a test, its greatest limit is the limit
  pub own : (n : ℕ) (node : Node) (limit : ℕ) → slice_get nodes n ≡ Some node → greatest_below limit_of nodes n ≡ Some limit → reach_limit limit_of given nodes n ≡ limit
  own n node limit e g =
      ap (λ ns. unwrap_or (first_some (greatest_below limit_of nodes) ns) given) (path-at nodes n node e (down n node e))
      ∙ ap (λ o. unwrap_or (elim o as (λ _. Option ℕ) [ Some l ↦ Some l | None ↦ first_some (greatest_below limit_of nodes) (at_parent [] (grown with_number [] nodes) node.parent) ]) given) g

  -- and else its parent's is
  pub inherited : (n : ℕ) (node : Node) (parent : NodeNo) → slice_get nodes n ≡ Some node → node.parent ≡ Some parent → greatest_below limit_of nodes n ≡ None
      → reach_limit limit_of given nodes n ≡ reach_limit limit_of given nodes parent.0
  inherited n node parent e p g =
      ap (λ ns. unwrap_or (first_some (greatest_below limit_of nodes) ns) given) (path-at nodes n node e (down n node e) ∙ ap (λ o. n ∷ at_parent [] (grown with_number [] nodes) o) p)
      ∙ ap (λ o. unwrap_or (elim o as (λ _. Option ℕ) [ Some l ↦ Some l | None ↦ first_some (greatest_below limit_of nodes) (path nodes parent.0) ]) given) g

  -- at a root what is given
  pub free : (n : ℕ) (node : Node) → slice_get nodes n ≡ Some node → node.parent ≡ None → greatest_below limit_of nodes n ≡ None
      → reach_limit limit_of given nodes n ≡ given
  free n node e p g =
      ap (λ ns. unwrap_or (first_some (greatest_below limit_of nodes) ns) given) (path-at nodes n node e (down n node e) ∙ ap (λ o. n ∷ at_parent [] (grown with_number [] nodes) o) p)
      ∙ ap (λ o. unwrap_or (elim o as (λ _. Option ℕ) [ Some l ↦ Some l | None ↦ None ]) given) g

  -- a test's limit is at most that of each node on its path
  within : (top n : ℕ) (test : Node) → slice_get nodes n ≡ Some test → test.test ≡ true → IsBelow nodes top n → limit_of test ≤ reach_limit limit_of given nodes top
  within top n test e t b =
      let inside = slice_get_within nodes n test e in
      let first = top_first nodes top down n b in
      at (slice_get nodes top) refl (omega (arith, inside, first)) (greatest_below limit_of nodes top) refl
    where
      is_most : top < length nodes → IsWithin (limit_of test) (greatest_below limit_of nodes top)
      is_most h = most limit_of (is_below nodes top) 0 n nodes test e t (ap (is_below nodes top) (let j : 0 + n ≡ n = omega arith in j) ∙ is_above nodes top down h n b)

      at : (o : Option Node) → slice_get nodes top ≡ o → top < length nodes → (g : Option ℕ) → greatest_below limit_of nodes top ≡ g → limit_of test ≤ reach_limit limit_of given nodes top
      at None f h g same = let past = none_past nodes top f in absurd (omega (arith, past, h))
      at (Some node) f h None same = absurd (subst (IsWithin (limit_of test)) same (is_most h))
      at (Some node) f h (Some limit) same =
          let bound : limit_of test ≤ limit = subst (IsWithin (limit_of test)) same (is_most h) in
          let equal = own top node limit f same in
          omega (arith, bound, equal)

  falls : (n : ℕ) (node : Node) (parent : NodeNo) → slice_get nodes n ≡ Some node → node.parent ≡ Some parent
      → reach_limit limit_of given nodes n ≤ reach_limit limit_of given nodes parent.0
  falls n node parent e p = by (greatest_below limit_of nodes n) refl
    where
      by : (g : Option ℕ) → greatest_below limit_of nodes n ≡ g → reach_limit limit_of given nodes n ≤ reach_limit limit_of given nodes parent.0
      by None g = let same = inherited n node parent e p g in omega (arith, same)
      by (Some limit) g =
          let r = reached limit_of (is_below nodes n) 0 nodes limit g in
          let lower : IsBelow nodes n r.k = below nodes n down r.k (ap (is_below nodes n) (let j : r.k ≡ 0 + r.k = omega arith in j) ∙ r.at) in
          let bound = within parent.0 r.k r.test r.stands r.tested (up nodes n r.k node parent e p lower) in
          let same = own n node limit e g in
          omega (arith, bound, same, r.is)

  -- nor is that of a node below
  deeper : (top n : ℕ) → IsBelow nodes top n → reach_limit limit_of given nodes n ≤ reach_limit limit_of given nodes top
  deeper top n (itself same) = let equal = ap (reach_limit limit_of given nodes) same in omega (arith, equal)
  deeper top n (under node parent e p more) =
      let here = falls n node parent e p in
      let rest = deeper top parent.0 more in
      omega (arith, here, rest)

pub limits_fall : ReachLimitsFall
limits_fall limit_of given nodes n node parent plan e p = falls limit_of given nodes (descends nodes plan) n node parent e p

pub tests_within : TestsAreWithin
tests_within limit_of given nodes top n test plan e t b =
    within limit_of given nodes (descends nodes plan) top n test e t (below nodes top (descends nodes plan) n b)

-- the limits of a job are at most those of the job that reaches a node on its path
pub limits_lower : (given : Limits) (nodes : List Node) (top : NodeNo) (job : Job) → IsPlan nodes → IsJob nodes job → is_below nodes top.0 (node_of job) ≡ true
    → ((limits_of given nodes job).turns ≤ (limits_of given nodes (Reach top)).turns) × ((limits_of given nodes job).output ≤ (limits_of given nodes (Reach top)).output)
limits_lower given nodes top (Reach n) plan job b =
    let down = descends nodes plan in
    let lower = below nodes top.0 down n.0 b in
    (deeper (turns_of given.turns) given.turns nodes down top.0 n.0 lower, deeper (output_of given.output) given.output nodes down top.0 n.0 lower)
limits_lower given nodes top (Finish n) plan job b =
    let down = descends nodes plan in
    let lower = below nodes top.0 down n.0 b in
    let found : limits_of given nodes (Finish n) ≡ limits_of_test given job.0 = ap (limits_of_found given) job.1 in
    let turns = ap (λ (l : Limits). l.turns) found in
    let output = ap (λ (l : Limits). l.output) found in
    let most_turns = within (turns_of given.turns) given.turns nodes down top.0 n.0 job.0 job.1 job.2 lower in
    let most_output = within (output_of given.output) given.output nodes down top.0 n.0 job.0 job.1 job.2 lower in
    (omega (arith, turns, most_turns), omega (arith, output, most_output))

fits-more : (few many : Limits) (header : Header) → few.turns ≤ many.turns → few.output ≤ many.output → fits few header ≡ true → fits many header ≡ true
fits-more few many header t o h = by (nat_le header.turns few.turns) (nat_le header.written few.output) refl refl h
  where
    by : (a b : Bool) → nat_le header.turns few.turns ≡ a → nat_le header.written few.output ≡ b → (a && b) ≡ true → fits many header ≡ true
    by true true ea eb h =
        let turns = leb-true header.turns few.turns ea in
        let output = leb-true header.written few.output eb in
        ap₂ (λ a b. a && b) (le-leb header.turns many.turns (omega (arith, turns, t))) (le-leb header.written many.output (omega (arith, output, o)))
    by true false ea eb h = cc
    by false b ea eb h = cc

pub fits_further_up : FitsAbove
fits_further_up given nodes top job header plan is_job b h =
    let lower = limits_lower given nodes top job plan is_job b in
    fits-more (limits_of given nodes job) (limits_of given nodes (Reach top)) header lower.0 lower.1 h

-- ---- the table of limits

module _ (given : Limits) (nodes : List Node) (at : ℕ) (plan : IsPlan nodes) (node : Node) (e : slice_get nodes at ≡ Some node) where
  down : Descends nodes
  down = descends nodes plan

  unfound : {A B : Type 0} (f : A → B) (found : Option A) (x : Option B) → found ≡ None → option_map f found ≡ x → x ≡ None
  unfound f found x none h = sym h ∙ ap (option_map f) none

  pub limits_own : (limits : Limits) (found : Option Limits) → found ≡ Some limits → IsGreatest given nodes 0 at found
      → record { turns = limits.turns; output = limits.output } ≡ limits_at given nodes at
  limits_own limits found is top =
      let turns = own (turns_of given.turns) given.turns nodes down at node limits.turns e (sym top.turns ∙ ap (option_map (λ (l : Limits). l.turns)) is) in
      let output = own (output_of given.output) given.output nodes down at node limits.output e (sym top.output ∙ ap (option_map (λ (l : Limits). l.output)) is) in
      λ i. record { turns = sym turns i; output = sym output i }

  pub limits_inherited : (parent : NodeNo) (found : Option Limits) (reach : List Limits) → node.parent ≡ Some parent → found ≡ None → IsGreatest given nodes 0 at found
      → AreLimits given nodes at reach → get_or reach parent.0 given ≡ limits_at given nodes at
  limits_inherited parent found reach p none top limits =
      let less : parent.0 < at = subst (λ o. IfSome o (λ p. p.0 < at)) p (down at node e) in
      let turns = inherited (turns_of given.turns) given.turns nodes down at node parent e p (unfound (λ (l : Limits). l.turns) found _ none top.turns) in
      let output = inherited (output_of given.output) given.output nodes down at node parent e p (unfound (λ (l : Limits). l.output) found _ none top.output) in
      limits.each parent.0 less ∙ (λ i. record { turns = sym turns i; output = sym output i })

  pub limits_free : (found : Option Limits) → node.parent ≡ None → found ≡ None → IsGreatest given nodes 0 at found → given ≡ limits_at given nodes at
  limits_free found p none top =
      let turns = free (turns_of given.turns) given.turns nodes down at node e p (unfound (λ (l : Limits). l.turns) found _ none top.turns) in
      let output = free (output_of given.output) given.output nodes down at node e p (unfound (λ (l : Limits). l.output) found _ none top.output) in
      λ i. record { turns = sym turns i; output = sym output i }

pub limits_found : (given : Limits) (nodes : List Node) (at : ℕ) → IsPlan nodes → at < length nodes → (limits : Limits) (found : Option Limits) → found ≡ Some limits → IsGreatest given nodes 0 at found
    → record { turns = limits.turns; output = limits.output } ≡ limits_at given nodes at
limits_found given nodes at plan h limits found is top = by (slice_get nodes at) refl
  where
    by : (o : Option Node) → slice_get nodes at ≡ o → record { turns = limits.turns; output = limits.output } ≡ limits_at given nodes at
    by None e = let past = none_past nodes at e in absurd (omega (arith, past, h))
    by (Some node) e = limits_own given nodes at plan node e limits found is top

-- ---- the greatest limits, raised by one test after the other

abbrev raised : List Node → ℕ → Limits → List (Option Limits) → ℕ → Option Limits
raised nodes at limits tops n = if is_below nodes n at then Some (greater_of limits (get_or tops n None)) else get_or tops n None

module _ (nodes : List Node) (plan : IsPlan nodes) (at : ℕ) (node : Node) (e : slice_get nodes at ≡ Some node)
    (limits : Limits) (tops : List (Option Limits)) (long : at < length tops) (was : Option Limits) (read : was ≡ get_or tops at was) (top : Limits) (is : top ≡ greater_of limits was) where
  abbrev set_once : List (Option Limits)
  set_once = slice_set tops at (Some top)

  at_once : (n : ℕ) → at ≡ n → get_or set_once n None ≡ Some (greater_of limits (get_or tops n None))
  at_once n same =
      ap (λ k. get_or set_once k None) (sym same)
      ∙ get_or-set_same tops at (Some top) None long
      ∙ ap (λ t. Some t) is
      ∙ ap (λ o. Some (greater_of limits o)) (read ∙ get_or_default tops at was None long ∙ ap (λ k. get_or tops k None) same)

  elsewhere : (n : ℕ) → (at == n) ≡ false → get_or set_once n None ≡ get_or tops n None
  elsewhere n differs = get_or-set_other tops at n (Some top) None (λ same. eqb-false at n differs (sym same))

  pub raised_root : node.parent ≡ None → (n : ℕ) → get_or set_once n None ≡ raised nodes at limits tops n
  raised_root p n = by (at == n) refl
    where
      by : (same : Bool) → (at == n) ≡ same → get_or set_once n None ≡ raised nodes at limits tops n
      by true same =
          at_once n (eqb-true at n same)
          ∙ ap (λ b. if b then Some (greater_of limits (get_or tops n None)) else get_or tops n None) (sym (below-root nodes n at node (descends nodes plan) e p ∙ ap (λ b. b || false) same))
      by false differs =
          elsewhere n differs
          ∙ ap (λ b. if b then Some (greater_of limits (get_or tops n None)) else get_or tops n None) (sym (below-root nodes n at node (descends nodes plan) e p ∙ ap (λ b. b || false) differs))

  pub raised_up : (parent : NodeNo) → node.parent ≡ Some parent → (new : List (Option Limits)) → ((n : ℕ) → get_or new n None ≡ raised nodes parent.0 limits set_once n)
      → (n : ℕ) → get_or new n None ≡ raised nodes at limits tops n
  raised_up parent p new above n = by (at == n) refl
    where
      down : Descends nodes
      down = descends nodes plan

      less : parent.0 < at
      less = subst (λ o. IfSome o (λ p. p.0 < at)) p (down at node e)

      here : (same : Bool) → (at == n) ≡ same → is_below nodes n at ≡ (same || is_below nodes n parent.0)
      here same e2 = below-parent nodes n at node parent down e p ∙ ap (λ b. b || is_below nodes n parent.0) e2

      not_above : at ≡ n → (b : Bool) → is_below nodes n parent.0 ≡ b → is_below nodes n parent.0 ≡ false
      not_above same true b = let first = top_first nodes n down parent.0 (below nodes n down parent.0 b) in absurd (omega (arith, first, less, same))
      not_above same false b = b

      by : (same : Bool) → (at == n) ≡ same → get_or new n None ≡ raised nodes at limits tops n
      by true same =
          above n
          ∙ ap (λ b. if b then Some (greater_of limits (get_or set_once n None)) else get_or set_once n None) (not_above (eqb-true at n same) (is_below nodes n parent.0) refl)
          ∙ at_once n (eqb-true at n same)
          ∙ ap (λ b. if b then Some (greater_of limits (get_or tops n None)) else get_or tops n None) (sym (here true same))
      by false differs =
          above n
          ∙ ap (λ o. if is_below nodes n parent.0 then Some (greater_of limits o) else o) (elsewhere n differs)
          ∙ ap (λ b. if b then Some (greater_of limits (get_or tops n None)) else get_or tops n None) (sym (here false differs))

-- one node more, from the last to the first
module _ (given : Limits) (nodes : List Node) (at : ℕ) (node : Node) (e : slice_get nodes at ≡ Some node) where
  opened : (limit_of : Node → ℕ) (top : ℕ) → greatest_from limit_of (is_below nodes top) at (drop at nodes)
      ≡ greater (if node.test && is_below nodes top at then Some (limit_of node) else None) (greatest_from limit_of (is_below nodes top) (at + 1) (drop (at + 1) nodes))
  unfolding greatest_from
  opened limit_of top =
      ap (greatest_from limit_of (is_below nodes top) at)
      (drop_more nodes at node (slice_get_within nodes at node e) ∙ ap (λ n. n ∷ drop (at + 1) nodes) (get_or_from_slice_get nodes at node node e))

  module _ (top : ℕ) (found : Option Limits) (was : IsGreatest given nodes (at + 1) top found) where
    column : (limit_of : Node → ℕ) (of : Limits → ℕ) (b : Bool) (new : Option Limits) → (node.test && is_below nodes top at) ≡ b
        → option_map of found ≡ greatest_from limit_of (is_below nodes top) (at + 1) (drop (at + 1) nodes)
        → option_map of new ≡ greater (if b then Some (limit_of node) else None) (option_map of found)
        → option_map of new ≡ greatest_from limit_of (is_below nodes top) at (drop at nodes)
    column limit_of of b new same before is =
        is ∙ ap₂ (λ b o. greater (if b then Some (limit_of node) else None) o) (sym same) before ∙ sym (opened limit_of top)

    turns_of_greater : (limits : Limits) (o : Option Limits) → option_map (λ (l : Limits). l.turns) (Some (greater_of limits o)) ≡ greater (Some limits.turns) (option_map (λ (l : Limits). l.turns) o)
    turns_of_greater limits None = refl
    turns_of_greater limits (Some other) = refl

    output_of_greater : (limits : Limits) (o : Option Limits) → option_map (λ (l : Limits). l.output) (Some (greater_of limits o)) ≡ greater (Some limits.output) (option_map (λ (l : Limits). l.output) o)
    output_of_greater limits None = refl
    output_of_greater limits (Some other) = refl

    pub taken_in : (limits : Limits) → limits ≡ limits_of_test given node → node.test ≡ true
        → IsGreatest given nodes at top (if is_below nodes top at then Some (greater_of limits found) else found)
    taken_in limits is test = by (is_below nodes top at) refl
      where
        by : (b : Bool) → is_below nodes top at ≡ b → IsGreatest given nodes at top (if b then Some (greater_of limits found) else found)
        by true b = record {
          turns = column (turns_of given.turns) (λ (l : Limits). l.turns) true (Some (greater_of limits found)) (ap₂ (λ x y. x && y) test b) was.turns (turns_of_greater limits found ∙ ap (λ (l : Limits). greater (Some l.turns) (option_map (λ (l : Limits). l.turns) found)) is);
          output = column (output_of given.output) (λ (l : Limits). l.output) true (Some (greater_of limits found)) (ap₂ (λ x y. x && y) test b) was.output (output_of_greater limits found ∙ ap (λ (l : Limits). greater (Some l.output) (option_map (λ (l : Limits). l.output) found)) is);
        }
        by false b = record {
          turns = column (turns_of given.turns) (λ (l : Limits). l.turns) false found (ap₂ (λ x y. x && y) test b) was.turns refl;
          output = column (output_of given.output) (λ (l : Limits). l.output) false found (ap₂ (λ x y. x && y) test b) was.output refl;
        }

    pub passed_by : node.test ≡ false → IsGreatest given nodes at top found
    passed_by test = record {
      turns = column (turns_of given.turns) (λ (l : Limits). l.turns) false found (ap (λ x. x && is_below nodes top at) test) was.turns refl;
      output = column (output_of given.output) (λ (l : Limits). l.output) false found (ap (λ x. x && is_below nodes top at) test) was.output refl;
    }

empty : (limit_of : Node → ℕ) (here : ℕ → Bool) (n : ℕ) → greatest_from limit_of here n [] ≡ None
unfolding greatest_from
empty limit_of here n = refl

-- after the last node there is no test
pub none_taken : (given : Limits) (nodes : List Node) (tops : List (Option Limits)) → tops ≡ replicate (length nodes) None → AreGreatest given nodes (length nodes) tops
none_taken given nodes tops is = record {
  long = ap length is ∙ length-replicate (length nodes) None;
  each = λ n h. subst (IsGreatest given nodes (length nodes) n) (sym (ap (λ l. get_or l n None) is ∙ nothing (length nodes) n)) (record {
    turns = sym (past (turns_of given.turns) n);
    output = sym (past (output_of given.output) n);
  });
}
  where
    nothing : (count n : ℕ) → get_or (replicate {A = Option Limits} count None) n None ≡ None
    nothing zero n = refl
    nothing (suc count) zero = refl
    nothing (suc count) (suc n) = nothing count n

    past : (limit_of : Node → ℕ) (n : ℕ) → greatest_from limit_of (is_below nodes n) (length nodes) (drop (length nodes) nodes) ≡ None
    past limit_of n = ap (greatest_from limit_of (is_below nodes n) (length nodes)) (drop_all (length nodes) nodes (omega arith)) ∙ empty limit_of (is_below nodes n) (length nodes)

-- ---- ranges

-- a limit of a job that reaches a node is one of a test, or the given one
module _ (Ok : ℕ → Type 0) (limit_of : Node → ℕ) (given : ℕ) (nodes : List Node) (free : Ok given)
    (each : (k : ℕ) (node : Node) → slice_get nodes k ≡ Some node → Ok (limit_of node)) where
  some_ok : (n : ℕ) (rest : Option ℕ) (found : Option ℕ) → greatest_below limit_of nodes n ≡ found → Ok (unwrap_or rest given)
      → Ok (unwrap_or (elim found as (λ _. Option ℕ) [ Some limit ↦ Some limit | None ↦ rest ]) given)
  some_ok n rest None e r = r
  some_ok n rest (Some limit) e r =
      let one = reached limit_of (is_below nodes n) 0 nodes limit e in
      subst Ok one.is (each one.k one.test one.stands)

  path_ok : (ns : List ℕ) → Ok (unwrap_or (first_some (greatest_below limit_of nodes) ns) given)
  path_ok [] = free
  path_ok (n ∷ more) = some_ok n (first_some (greatest_below limit_of nodes) more) (greatest_below limit_of nodes n) refl (path_ok more)

  pub reach_ok : (n : ℕ) → Ok (reach_limit limit_of given nodes n)
  reach_ok n = path_ok (path nodes n)

abbrev IsTurns : ℕ → Type 0
IsTurns n = (1 ≤ n) × (n ≤ 4294967296)

abbrev IsOutput : ℕ → Type 0
IsOutput n = n ≤ 262144

module _ (given : Limits) (nodes : List Node) (plan : IsPlan nodes) (range : IsInRange given) where
  turns_ok : (k : ℕ) (node : Node) → slice_get nodes k ≡ Some node → IsTurns (turns_of given.turns node)
  turns_ok k node e = by node.turns (behind.turns)
    where
      behind : IsNodeAfter (take k nodes) node
      behind = subst (λ o. IfSome o (IsNodeAfter (take k nodes))) e (plan.each k)

      by : (own : Option ℕ) → IfSome own (λ turns. (1 ≤ turns) × (turns ≤ 4294967296) × (node.test ≡ true)) → IsTurns (unwrap_or own given.turns)
      by None h = range.turns
      by (Some n) h = (h.0, h.1)

  output_ok : (k : ℕ) (node : Node) → slice_get nodes k ≡ Some node → IsOutput (output_of given.output node)
  output_ok k node e = by node.output (behind.output)
    where
      behind : IsNodeAfter (take k nodes) node
      behind = subst (λ o. IfSome o (IsNodeAfter (take k nodes))) e (plan.each k)

      by : (own : Option ℕ) → IfSome own (λ output. (output ≤ 262144) × (node.test ≡ true)) → IsOutput (unwrap_or own given.output)
      by None h = range.output
      by (Some n) h = h.0

  found_range : (n : ℕ) (o : Option Node) → slice_get nodes n ≡ o → IsInRange (limits_of_found given o)
  found_range n None e = range
  found_range n (Some node) e = record { turns = turns_ok n node e; output = output_ok n node e }

  pub limits_range : (job : Job) → IsInRange (limits_of given nodes job)
  limits_range (Reach n) = record {
    turns = reach_ok IsTurns (turns_of given.turns) given.turns nodes range.turns turns_ok n.0;
    output = reach_ok IsOutput (output_of given.output) given.output nodes range.output output_ok n.0;
  }
  limits_range (Finish n) = found_range n.0 (slice_get nodes n.0) refl
