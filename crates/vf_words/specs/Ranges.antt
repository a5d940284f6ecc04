-- What holds of each command that is asked for.
use Rattle.std.specs.Prelude.{◌≢◌, ℕ, ◌≤◌, List, Option, Some, None, IsUtf8}
use Rattle.vf_jobs.specs.Setup.{IsInRange}
use Rattle.vf_words.specs.declared.command.Asked.{Asked}
use Rattle.vf_words.specs.declared.command.Asked.TheVariants.{Work}
use Rattle.vf_words.specs.declared.command.Command.{Command}
use Rattle.vf_words.specs.declared.command.Mode.TheVariants.{Make}
use Rattle.vf_words.specs.declared.limits.Numbers.{Numbers}
use Rattle.vf_words.specs.declared.limits.TheConstants.{WORKERS, PAGES, SLOTS, NUMBER}

abbrev pub IsAmong : Numbers → ℕ → Type 0
IsAmong numbers n = (numbers.least ≤ n) × (n ≤ numbers.most)

-- two files are named, by texts in UTF-8
abbrev pub AreNamed : Option (List ℕ × List ℕ) → Type 0
AreNamed None = ⊥
AreNamed (Some names) = IsUtf8 names.0 × IsUtf8 names.1

-- the numbers are in their ranges, and, as no word asks for mode make, two files are named
pub record IsCommand (command : Command) : Type 0 where
  pub workers : IsAmong WORKERS command.workers
  pub pages : IsAmong PAGES command.pages
  pub limits : IsInRange command.limits
  pub slots : IsAmong SLOTS command.slots
  pub number : IsAmong NUMBER command.number
  pub listed : command.mode ≢ Make
  pub files : AreNamed command.files

abbrev pub IsAsked : Asked → Type 0
IsAsked (Work command) = IsCommand command
IsAsked _ = Unit {0}
