-- The report of a farm: its lines and counts, node by node, and that the turns that it adds up are few.
use Rattle.std.proofs.Common.{◌≡◌, ℕ, suc, ◌+◌, ◌≤◌, ◌<◌, true, List, [], ◌∷◌, ◌++◌, Option, Some, None, IfSome, if◌then◌else◌, unwrap_or, slice_get, get_or, length, take, drop, refl, sym, ◌∙◌, ap, subst, arith, append_assoc, append-nil}
use Rattle.std.proofs.Math.Seq.{drop-cons}
use Rattle.std.proofs.lemmas.List.{drop_all}
use Rattle.vf_base.specs.declared.names.Job.TheVariants.{Finish}
use Rattle.vf_base.specs.declared.run.Limits.{Limits}
use Rattle.vf_base.specs.declared.run.Outcome.{Outcome}
use Rattle.vf_machine.specs.Machine.{Machine}
use Rattle.vf_machine.specs.Run.{moment_at}
use Rattle.vf_machine.specs.Solo.{solo, outcome_at, passing_turn, turns_before_end}
use Rattle.vf_machine.proofs.CallerLemmas.{run_ends_lem, turns_counted, counts_once}
use Rattle.vf_design.specs.Words.{machine_of}
use Rattle.vf_plan.specs.declared.limits.TheConstants.{MOST_TURNS}
use Rattle.vf_plan.specs.declared.plan.Node.{Node}
use Rattle.vf_plan.specs.Paths.{joined}
use Rattle.vf_plan.specs.Rules.{IsPlan, IsNodeAfter}
use Rattle.vf_jobs.specs.Limits.{limits_of, limits_of_found}
use Rattle.vf_jobs.specs.Setup.{IsInRange}
use Rattle.vf_records.specs.Account.{Account, IsAccount}
use Rattle.vf_report.specs.Tested.{Tested, turns_of}
use Rattle.vf_report.specs.Totals.{Totals, summary_of}
use Rattle.vf_report.specs.Texts.{test_text}
use Rattle.vf_report.specs.Report.{lines_from, tested_from, totals_of, outcomes_in}

-- ---- how many turns a test has at most

own_turns : (own : Option ℕ) (given : ℕ) → IfSome own (λ turns. turns ≤ MOST_TURNS) → given ≤ MOST_TURNS → unwrap_or own given ≤ MOST_TURNS
own_turns None given h g = g
own_turns (Some own) given h g = h

weaker : (own : Option ℕ) (node : Node) → IfSome own (λ turns. (1 ≤ turns) × (turns ≤ MOST_TURNS) × (node.test ≡ true)) → IfSome own (λ turns. turns ≤ MOST_TURNS)
weaker None node h = tt
weaker (Some own) node h = h.1

found_turns : (given : Limits) (before : List Node) (o : Option Node) → IfSome o (IsNodeAfter before) → given.turns ≤ MOST_TURNS → (limits_of_found given o).turns ≤ MOST_TURNS
found_turns given before None h g = g
found_turns given before (Some node) h g = own_turns node.turns given.turns (weaker node.turns node h.turns) g

limit_turns : (given : Limits) (nodes : List Node) → IsPlan nodes → IsInRange given → (n : ℕ) → (limits_of given nodes (Finish (record { 0 = n }))).turns ≤ MOST_TURNS
limit_turns given nodes plan range n = found_turns given (take n nodes) (slice_get nodes n) (plan.each n) range.turns.1

outcome_turns : {S : Type 0} (m : Machine S) (stim : List ℕ) (limits : Limits) (passing : Option ℕ)
    → turns_of (Some (outcome_at m stim limits passing (turns_before_end m stim limits))) ≤ limits.turns + 1
outcome_turns m stim limits (Some k) = omega arith
outcome_turns m stim limits None =
    let ends = run_ends_lem m stim limits in
    let end = turns_before_end m stim limits in
    let counted = turns_counted m stim limits end ends.first in
    let once = (counts_once m stim limits (moment_at m stim limits end)).1 in
    omega (arith, ends.within, counted, once)

pub solo_small : {S : Type 0} (m : Machine S) (stim : List ℕ) (limits : Limits) (budget : ℕ) → turns_of (Some (solo m stim limits budget)) ≤ limits.turns + 1
solo_small m stim limits budget = outcome_turns m stim limits (passing_turn m stim limits budget)

told_by : (told : Option Outcome) (is : Outcome) (n : ℕ) → ((outcome : Outcome) → told ≡ Some outcome → outcome ≡ is) → turns_of (Some is) ≤ n → turns_of told ≤ n
told_by None is n same h = omega arith
told_by (Some outcome) is n same h = subst (λ o. turns_of (Some o) ≤ n) (sym (same outcome refl)) h

-- a test that the records tell of has at most one turn more than the highest limit
pub told_small : (a : Account) → IsAccount a → (n : ℕ) → turns_of (outcomes_in a n) ≤ 4294967297
told_small a kept n =
    let s = a.setup in
    let job = Finish (record { 0 = n }) in
    let limits = limits_of s.limits s.plan job in
    let most = limit_turns s.limits s.plan kept.setup.plan kept.setup.limits n in
    let small = solo_small (machine_of s.design) (joined s.plan n) limits s.budget in
    told_by (outcomes_in a n) (solo (machine_of s.design) (joined s.plan n) limits s.budget) 4294967297 (kept.told.outcomes job) (omega (arith, most, small))

-- ---- node after node

dropped : (nodes : List Node) (n : ℕ) (node : Node) → n < length nodes → node ≡ get_or nodes n node → drop n nodes ≡ node ∷ drop (n + 1) nodes
dropped nodes n node within here =
    let next : suc n ≡ n + 1 = omega arith in
    drop-cons nodes n node within ∙ ap (λ x. x ∷ drop (suc n) nodes) (sym here) ∙ ap (λ k. node ∷ drop k nodes) next

lines_next : (outcomes : ℕ → Option Outcome) (k n : ℕ) (nodes : List Node) (node : Node) → n < length nodes → node ≡ get_or nodes n node
    → lines_from outcomes k (drop n nodes) ≡ (if node.test then test_text node.name node.expect (outcomes k) else []) ++ lines_from outcomes (k + 1) (drop (n + 1) nodes)
unfolding lines_from
lines_next outcomes k n nodes node within here = ap (lines_from outcomes k) (dropped nodes n node within here)

pub lines_on : (outcomes : ℕ → Option Outcome) (n : ℕ) (nodes : List Node) (node : Node) (lines whole more : List ℕ) → n < length nodes → node ≡ get_or nodes n node
    → lines ++ lines_from outcomes n (drop n nodes) ≡ whole → more ≡ lines ++ (if node.test then test_text node.name node.expect (outcomes n) else [])
    → more ++ lines_from outcomes (n + 1) (drop (n + 1) nodes) ≡ whole
lines_on outcomes n nodes node lines whole more within here before is =
    let line = if node.test then test_text node.name node.expect (outcomes n) else [] in
    ap (λ l. l ++ lines_from outcomes (n + 1) (drop (n + 1) nodes)) is
    ∙ append_assoc lines line (lines_from outcomes (n + 1) (drop (n + 1) nodes))
    ∙ sym (ap (λ l. lines ++ l) (lines_next outcomes n n nodes node within here))
    ∙ before

-- past the last node nothing is left
pub lines_end : (outcomes : ℕ → Option Outcome) (n : ℕ) (nodes : List Node) (lines whole : List ℕ) → length nodes ≤ n
    → lines ++ lines_from outcomes n (drop n nodes) ≡ whole → lines ≡ whole
unfolding lines_from
lines_end outcomes n nodes lines whole past all =
    sym (append-nil lines) ∙ sym (ap (λ left. lines ++ lines_from outcomes n left) (drop_all n nodes past)) ∙ all

-- the tests so far are counted, and with those to come they are all
pub record Counts (outcomes : ℕ → Option Outcome) (nodes : List Node) (n : ℕ) (summary : Totals) : Type 0 where
  pub tests : List Tested
  pub counted : summary ≡ summary_of tests
  pub all : tests ++ tested_from outcomes n (drop n nodes) ≡ tested_from outcomes 0 nodes

pub counts_at_first : (outcomes : ℕ → Option Outcome) (nodes : List Node) (summary : Totals) → summary ≡ summary_of [] → Counts outcomes nodes 0 summary
counts_at_first outcomes nodes summary is = record { tests = []; counted = is; all = refl }

tested_next : (outcomes : ℕ → Option Outcome) (k n : ℕ) (nodes : List Node) (node : Node) → n < length nodes → node ≡ get_or nodes n node
    → tested_from outcomes k (drop n nodes) ≡ (if node.test then record { expectation = node.expect; outcome = outcomes k } ∷ [] else []) ++ tested_from outcomes (k + 1) (drop (n + 1) nodes)
unfolding tested_from
tested_next outcomes k n nodes node within here = ap (tested_from outcomes k) (dropped nodes n node within here)

pub counts_next : (outcomes : ℕ → Option Outcome) (nodes : List Node) (n : ℕ) (before after : Totals) (node : Node) → n < length nodes → node ≡ get_or nodes n node → Counts outcomes nodes n before
    → ((tests : List Tested) → before ≡ summary_of tests → after ≡ summary_of (tests ++ (if node.test then record { expectation = node.expect; outcome = outcomes n } ∷ [] else [])))
    → Counts outcomes nodes (n + 1) after
counts_next outcomes nodes n before after node within here counts added =
    let one : List Tested = if node.test then record { expectation = node.expect; outcome = outcomes n } ∷ [] else [] in
    record {
      tests = counts.tests ++ one;
      counted = added counts.tests counts.counted;
      all =
          append_assoc counts.tests one (tested_from outcomes (n + 1) (drop (n + 1) nodes))
          ∙ sym (ap (λ l. counts.tests ++ l) (tested_next outcomes n n nodes node within here))
          ∙ counts.all;
    }

pub counts_end : (outcomes : ℕ → Option Outcome) (nodes : List Node) (n : ℕ) (summary : Totals) → length nodes ≤ n → Counts outcomes nodes n summary → summary ≡ totals_of outcomes nodes
unfolding tested_from
counts_end outcomes nodes n summary past counts =
    counts.counted
    ∙ ap summary_of (sym (append-nil counts.tests) ∙ sym (ap (λ left. counts.tests ++ tested_from outcomes n left) (drop_all n nodes past)) ∙ counts.all)
