-- What the work of a command means for the tests of a plan (docs/FARM.md, "The top call").
use Rattle.std.specs.Prelude.{◌≡◌, ℕ, nat_lt, Bool, true, ◌&&◌, if◌then◌else◌, List, length, count_by, Option, Some, None, option_and_then}
use Rattle.std.specs.List.{position}
use Rattle.std.specs.Str.{bytes_eq}
use Rattle.vf_base.specs.declared.names.Job.{Job}
use Rattle.vf_base.specs.declared.names.Job.TheVariants.{Finish}
use Rattle.vf_base.specs.declared.run.Limits.{Limits}
use Rattle.vf_base.specs.declared.run.Outcome.{Outcome}
use Rattle.vf_machine.specs.Solo.{solo_turns}
use Rattle.vf_design.specs.Program.{Program, word_count, page_count}
use Rattle.vf_design.specs.Words.{machine_of}
use Rattle.vf_plan.specs.declared.plan.Node.{Node}
use Rattle.vf_plan.specs.Paths.{joined}
use Rattle.vf_jobs.specs.Kinds.{outcome_of}
use Rattle.vf_jobs.specs.Limits.{limits_of}
use Rattle.vf_jobs.specs.Setup.{Conditions, words_at_start}
use Rattle.vf_words.specs.declared.command.Command.{Command}
use Rattle.vf_report.specs.declared.check.Sizes.{Sizes}
use Rattle.vf_report.specs.Totals.{Totals}

-- what a farm's runs are given by a command, a design and a plan
abbrev pub conditions_of : Command → Program → List Node → Conditions
conditions_of command p nodes = record {
  design = p;
  plan = nodes;
  limits = command.limits;
  budget = command.pages;
  order = command.order;
  zero = words_at_start (machine_of p);
}

-- the job that finishes a test
abbrev pub job_of : ℕ → Job
job_of n = Finish (record { 0 = n })

-- ---- a test run alone, from time zero on its joined stimulus

abbrev pub limits_for : Command → List Node → ℕ → Limits
limits_for command nodes n = limits_of command.limits nodes (job_of n)

-- what becomes of it, and how many turns it performs
abbrev pub alone : Command → Program → List Node → ℕ → Outcome
alone command p nodes n = outcome_of (machine_of p) command.limits command.pages nodes (job_of n)

abbrev pub turns_alone : Command → Program → List Node → ℕ → ℕ
turns_alone command p nodes n = solo_turns (machine_of p) (joined nodes n) (limits_for command nodes n) command.pages

-- each outcome that is told is that of the test run alone; none is told of a test that was out of memory
abbrev pub AreAlone : Command → Program → List Node → (ℕ → Option Outcome) → Type 0
AreAlone command p nodes outcomes = (n : ℕ) (outcome : Outcome) → outcomes n ≡ Some outcome → outcome ≡ alone command p nodes n

-- ---- the test of mode solo

abbrev pub is_test_named : List ℕ → Node → Bool
is_test_named name node = node.test && bytes_eq name node.name

-- the number of the test that the words name
abbrev pub test_of : Command → List Node → Option ℕ
test_of command nodes = option_and_then (λ name. position (is_test_named name) nodes) command.test

-- ---- sizes and statuses

-- the words name no top module, or that of the design
abbrev pub is_top : Option (List ℕ) → Program → Bool
is_top None p = true
is_top (Some name) p = bytes_eq name p.top

-- an early design has one process and one signal
abbrev pub sizes_of : Program → List Node → Sizes
sizes_of p nodes = record {
  processes = 1;
  signals = 1;
  words = word_count p;
  pages = page_count p;
  nodes = length nodes;
  tests = count_by (λ node. node.test) nodes;
}

-- the status after a report: out of memory goes before a passed budget, and that before a failed expectation
abbrev pub status_of_totals : Totals → ℕ
status_of_totals totals =
    if nat_lt 0 totals.memory then 8
    else (if nat_lt 0 totals.pages then 5
    else (if nat_lt 0 totals.failed then 1
    else 0))
