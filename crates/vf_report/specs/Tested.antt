-- A test as a report counts it: what was expected of it, and what became of it.
use Rattle.std.specs.Prelude.{ℕ, Bool, true, false, not, List, Option, Some, None}
use Rattle.std.specs.Str.{bytes_eq}
use Rattle.vf_base.specs.declared.run.Outcome.{Outcome}
use Rattle.vf_base.specs.declared.run.Outcome.TheVariants.{Done, Pages}

-- The bytes that are expected, where some are; and the outcome, unless it was out of memory.
pub record Tested : Type 0 where
  pub expectation : Option (List ℕ)
  pub outcome : Option Outcome

-- whether the run ended
abbrev pub completes : Option Outcome → Bool
completes None = false
completes (Some (Done ending text turns)) = true
completes (Some (Pages needed)) = false

-- whether the run passed its budget of pages
abbrev pub wants_pages : Option Outcome → Bool
wants_pages None = false
wants_pages (Some (Done ending text turns)) = false
wants_pages (Some (Pages needed)) = true

-- whether it was out of memory
abbrev pub wants_memory : Option Outcome → Bool
wants_memory None = true
wants_memory (Some outcome) = false

-- whether the bytes are those of an expectation
abbrev pub equals : Option (List ℕ) → List ℕ → Bool
equals None text = false
equals (Some expected) text = bytes_eq expected text

-- whether the bytes are other than those of an expectation
abbrev pub differs : Option (List ℕ) → List ℕ → Bool
differs None text = false
differs (Some expected) text = not (bytes_eq expected text)

-- whether the run ended, and its bytes are those of an expectation
abbrev pub meets : Option (List ℕ) → Option Outcome → Bool
meets expectation None = false
meets expectation (Some (Done ending text turns)) = equals expectation text
meets expectation (Some (Pages needed)) = false

-- whether the run ended, and its bytes are other than those of an expectation
abbrev pub fails : Option (List ℕ) → Option Outcome → Bool
fails expectation None = false
fails expectation (Some (Done ending text turns)) = differs expectation text
fails expectation (Some (Pages needed)) = false

-- the turns of a run that ended, and 0 for any other
abbrev pub turns_of : Option Outcome → ℕ
turns_of None = 0
turns_of (Some (Done ending text turns)) = turns
turns_of (Some (Pages needed)) = 0
