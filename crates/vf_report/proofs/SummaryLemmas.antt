-- The counts of a summary add up.
use Rattle.std.proofs.Common.{◌≡◌, ℕ, ◌+◌, Bool, true, false, not, ◌&&◌, cond, List, [], ◌∷◌, length, Option, Some, None, is_some, count_by, refl, arith}
use Rattle.std.specs.Str.{bytes_eq}
use Rattle.std.proofs.lemmas.List.Sums.{sum_by-cons}
use Rattle.vf_base.specs.declared.run.Outcome.{Outcome}
use Rattle.vf_base.specs.declared.run.Outcome.TheVariants.{Done, Pages}
use Rattle.vf_report.specs.Tested.{Tested, completes, wants_pages, wants_memory, meets, fails}
use Rattle.vf_report.specs.Totals.{summary_of}
use Rattle.vf_report.specs.Laws.{AddsUp}

-- an outcome is of one kind
one_kind : (outcome : Option Outcome) → cond (completes outcome) 1 0 + cond (wants_pages outcome) 1 0 + cond (wants_memory outcome) 1 0 ≡ 1
one_kind None = refl
one_kind (Some (Done ending text turns)) = refl
one_kind (Some (Pages needed)) = refl

either : (b : Bool) → cond b 1 0 + cond (not b) 1 0 ≡ 1
either true = refl
either false = refl

-- a completed test with an expectation has met it or failed it
one_verdict : (expectation : Option (List ℕ)) (outcome : Option Outcome)
    → cond (meets expectation outcome) 1 0 + cond (fails expectation outcome) 1 0 ≡ cond (completes outcome && is_some expectation) 1 0
one_verdict None None = refl
one_verdict (Some expected) None = refl
one_verdict None (Some (Done ending text turns)) = refl
one_verdict (Some expected) (Some (Done ending text turns)) = either (bytes_eq expected text)
one_verdict None (Some (Pages needed)) = refl
one_verdict (Some expected) (Some (Pages needed)) = refl

kinds : (tests : List Tested) → count_by (λ t. completes t.outcome) tests + count_by (λ t. wants_pages t.outcome) tests + count_by (λ t. wants_memory t.outcome) tests ≡ length tests
kinds [] = refl
kinds (t ∷ tests) =
    let completed = sum_by-cons (λ (t : Tested). cond (completes t.outcome) 1 0) t tests in
    let pages = sum_by-cons (λ (t : Tested). cond (wants_pages t.outcome) 1 0) t tests in
    let memory = sum_by-cons (λ (t : Tested). cond (wants_memory t.outcome) 1 0) t tests in
    omega (arith, completed, pages, memory, one_kind t.outcome, kinds tests)

judged : (tests : List Tested)
    → count_by (λ t. meets t.expectation t.outcome) tests + count_by (λ t. fails t.expectation t.outcome) tests ≡ count_by (λ t. completes t.outcome && is_some t.expectation) tests
judged [] = refl
judged (t ∷ tests) =
    let met = sum_by-cons (λ (t : Tested). cond (meets t.expectation t.outcome) 1 0) t tests in
    let failed = sum_by-cons (λ (t : Tested). cond (fails t.expectation t.outcome) 1 0) t tests in
    let all = sum_by-cons (λ (t : Tested). cond (completes t.outcome && is_some t.expectation) 1 0) t tests in
    omega (arith, met, failed, all, one_verdict t.expectation t.outcome, judged tests)

pub adds_up : (tests : List Tested) → AddsUp tests (summary_of tests)
adds_up tests = record { kinds = kinds tests; judged = judged tests }
