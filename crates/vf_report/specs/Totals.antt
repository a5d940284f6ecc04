-- The counts of a report's last line.
use Rattle.std.specs.Prelude.{ℕ, List, length, count_by, sum_by}
use Rattle.vf_report.specs.Tested.{Tested, completes, wants_pages, wants_memory, meets, fails, turns_of}

pub record Totals : Type 0 where
  pub tests : ℕ
  pub completed : ℕ
  pub met : ℕ
  pub failed : ℕ
  pub pages : ℕ
  pub memory : ℕ
  pub turns : ℕ

-- how many tests there are, how many are of each kind, and the turns of those that completed
abbrev pub summary_of : List Tested → Totals
summary_of tests = record {
  tests = length tests;
  completed = count_by (λ t. completes t.outcome) tests;
  met = count_by (λ t. meets t.expectation t.outcome) tests;
  failed = count_by (λ t. fails t.expectation t.outcome) tests;
  pages = count_by (λ t. wants_pages t.outcome) tests;
  memory = count_by (λ t. wants_memory t.outcome) tests;
  turns = sum_by (λ t. turns_of t.outcome) tests;
}
