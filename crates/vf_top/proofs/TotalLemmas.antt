-- A report in which no test was out of memory is that of the tests run alone; and no report ends with status 2.
use Rattle.std.proofs.Common.{◌≡◌, ℕ, ◌+◌, nat_lt, Bool, true, false, cond, if◌then◌else◌, List, [], ◌∷◌, ◌++◌, Option, Some, None, refl, ap, ap₂, arith, inl, inr, ◌⊎◌}
use Rattle.std.specs.Prelude.{sum_by}
use Rattle.std.proofs.lemmas.List.Sums.{sum_by-cons}
use Rattle.std.proofs.lemmas.Bool.{ltb-false}
use Rattle.vf_base.specs.declared.run.Outcome.{Outcome}
use Rattle.vf_plan.specs.declared.plan.Node.{Node}
use Rattle.vf_report.specs.Tested.{Tested, wants_memory}
use Rattle.vf_report.specs.Totals.{Totals, summary_of}
use Rattle.vf_report.specs.Report.{tested_from, totals_of}
use Rattle.vf_top.specs.Report.{status_of_totals}

abbrev lack : Tested → ℕ
lack t = cond (wants_memory t.outcome) 1 0

abbrev lacking : List Tested → ℕ
lacking tests = sum_by lack tests

-- an outcome that is told, where it is told whose it is
told_some : (o : Option Outcome) (is : Outcome) (expectation : Option (List ℕ)) (more : List Tested) → ((outcome : Outcome) → o ≡ Some outcome → outcome ≡ is)
    → lacking (record { expectation = expectation; outcome = o } ∷ more) ≡ 0 → (o ≡ Some is) × (lacking more ≡ 0)
told_some None is expectation more same h =
    let all = sum_by-cons lack (record { expectation = expectation; outcome = None }) more in
    absurd (omega (arith, all, h))
told_some (Some outcome) is expectation more same h =
    let all = sum_by-cons lack (record { expectation = expectation; outcome = Some outcome }) more in
    (ap (λ x. Some x) (same outcome refl), omega (arith, all, h))

all_told : (outcomes : ℕ → Option Outcome) (alone : ℕ → Outcome) → ((n : ℕ) (outcome : Outcome) → outcomes n ≡ Some outcome → outcome ≡ alone n)
    → (n : ℕ) (nodes : List Node) → lacking (tested_from outcomes n nodes) ≡ 0 → tested_from outcomes n nodes ≡ tested_from (λ n. Some (alone n)) n nodes
unfolding tested_from
all_told outcomes alone same n [] none = refl
all_told outcomes alone same n (node ∷ more) none = by node.test (all_told outcomes alone same (n + 1) more) none
  where
    by : (test : Bool) → (lacking (tested_from outcomes (n + 1) more) ≡ 0 → tested_from outcomes (n + 1) more ≡ tested_from (λ n. Some (alone n)) (n + 1) more)
        → lacking ((if test then record { expectation = node.expect; outcome = outcomes n } ∷ [] else []) ++ tested_from outcomes (n + 1) more) ≡ 0
        → (if test then record { expectation = node.expect; outcome = outcomes n } ∷ [] else []) ++ tested_from outcomes (n + 1) more
        ≡ (if test then record { expectation = node.expect; outcome = Some (alone n) } ∷ [] else []) ++ tested_from (λ n. Some (alone n)) (n + 1) more
    by false rest h = rest h
    by true rest h =
        let told = told_some (outcomes n) (alone n) node.expect (tested_from outcomes (n + 1) more) (same n) h in
        ap₂ (λ (o : Option Outcome) (tests : List Tested). record { expectation = node.expect; outcome = o } ∷ tests) told.0 (rest told.1)

lacking_by : (totals : Totals) (b : Bool) → nat_lt 0 totals.memory ≡ b → (status_of_totals totals ≡ 8) ⊎ (totals.memory ≡ 0)
lacking_by totals true e = inl (ap (λ b. if b then 8 else (if nat_lt 0 totals.pages then 5 else (if nat_lt 0 totals.failed then 1 else 0))) e)
lacking_by totals false e = inr (let none = ltb-false 0 totals.memory e in omega (arith, none))

pub whole_status : (outcomes : ℕ → Option Outcome) (alone : ℕ → Outcome) (nodes : List Node) → ((n : ℕ) (outcome : Outcome) → outcomes n ≡ Some outcome → outcome ≡ alone n)
    → (status_of_totals (totals_of outcomes nodes) ≡ status_of_totals (totals_of (λ n. Some (alone n)) nodes)) ⊎ (status_of_totals (totals_of outcomes nodes) ≡ 8)
whole_status outcomes alone nodes same = by (lacking_by (totals_of outcomes nodes) (nat_lt 0 (totals_of outcomes nodes).memory) refl)
  where
    by : (status_of_totals (totals_of outcomes nodes) ≡ 8) ⊎ ((totals_of outcomes nodes).memory ≡ 0)
        → (status_of_totals (totals_of outcomes nodes) ≡ status_of_totals (totals_of (λ n. Some (alone n)) nodes)) ⊎ (status_of_totals (totals_of outcomes nodes) ≡ 8)
    by (inl lost) = inr lost
    by (inr none) = inl (ap (λ tests. status_of_totals (summary_of tests)) (all_told outcomes alone same 0 nodes none))

totals_by : (memory pages failed : Bool) → ◌≡◌ {A = ℕ} (if memory then 8 else (if pages then 5 else (if failed then 1 else 0))) 2 → ⊥
totals_by true pages failed e = omega arith
totals_by false true failed e = omega arith
totals_by false false true e = omega arith
totals_by false false false e = omega arith

pub not_two : (totals : Totals) → status_of_totals totals ≡ 2 → ⊥
not_two totals e = totals_by (nat_lt 0 totals.memory) (nat_lt 0 totals.pages) (nat_lt 0 totals.failed) e
