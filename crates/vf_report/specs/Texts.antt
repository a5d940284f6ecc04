-- The lines of a report (docs/FORMATS.md, "Report").
use Rattle.std.specs.Prelude.{ℕ, ◌==◌, not, if◌then◌else◌, List, ◌++◌, length, min, zip, position, codes, decimal, Option, Some, None, unwrap_or}
use Rattle.std.specs.Str.{bytes_eq}
use Rattle.hex.specs.Hex.{encode_lower}
use Rattle.vf_base.specs.declared.run.Ending.{Ending}
use Rattle.vf_base.specs.declared.run.Ending.TheVariants.{Finish, Stop, Drained, Turns, Output, Events, Time}
use Rattle.vf_base.specs.declared.run.Outcome.{Outcome}
use Rattle.vf_base.specs.declared.run.Outcome.TheVariants.{Done, Pages}
use Rattle.vf_report.specs.Totals.{Totals}

-- how a run ended
abbrev pub ending_text : Ending → List ℕ
ending_text (Finish n) = codes "finish:" ++ decimal n
ending_text (Stop n) = codes "stop:" ++ decimal n
ending_text Drained = codes "drained"
ending_text Turns = codes "turns"
ending_text Output = codes "output"
ending_text Events = codes "events"
ending_text Time = codes "time"

-- each byte as two lower case hex digits; a dash for no bytes
abbrev pub hex_text : List ℕ → List ℕ
hex_text bytes = if length bytes == 0 then codes "-" else encode_lower bytes

-- The first place at which the two lists have different bytes, counted from 0. Where there is none, the place at
-- which the shorter one ends.
abbrev pub first_difference : List ℕ → List ℕ → ℕ
first_difference expected bytes =
    unwrap_or (position (λ pair. not (pair.0 == pair.1)) (zip expected bytes)) (min (length expected) (length bytes))

-- what the bytes are against an expectation
abbrev pub expect_text : Option (List ℕ) → List ℕ → List ℕ
expect_text None bytes = codes "none"
expect_text (Some expected) bytes =
    if bytes_eq expected bytes then codes "met"
    else codes "differs:" ++ decimal (length expected) ++ codes ":" ++ decimal (first_difference expected bytes)

-- a test's line after the name
abbrev pub outcome_text : Option (List ℕ) → Option Outcome → List ℕ
outcome_text expectation None = codes "memory"
outcome_text expectation (Some (Pages needed)) = codes "pages " ++ decimal needed
outcome_text expectation (Some (Done ending bytes turns)) =
    ending_text ending ++ codes " turns " ++ decimal turns ++ codes " bytes " ++ decimal (length bytes) ++ codes " out " ++ hex_text bytes ++ codes " expect " ++ expect_text expectation bytes

-- the line of a test
abbrev pub test_text : List ℕ → Option (List ℕ) → Option Outcome → List ℕ
test_text name expectation outcome = codes "test " ++ name ++ codes " " ++ outcome_text expectation outcome ++ codes "\n"

-- the last line of a report
abbrev pub summary_text : Totals → List ℕ
summary_text totals =
    codes "tests " ++ decimal totals.tests
    ++ codes " completed " ++ decimal totals.completed
    ++ codes " met " ++ decimal totals.met
    ++ codes " failed " ++ decimal totals.failed
    ++ codes " pages " ++ decimal totals.pages
    ++ codes " memory " ++ decimal totals.memory
    ++ codes " turns " ++ decimal totals.turns
    ++ codes "\n"
