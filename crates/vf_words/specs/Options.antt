-- The command of clap that the words go to, and what it makes of them (docs/FORMATS.md, "Command words").
use Rattle.std.specs.Prelude.{ℕ, true, List, [], ◌∷◌, Some, codes, fold, unwrap_or, Result, Ok, Err}
use Rattle.clap.specs.Faults.{fault_of}
use Rattle.clap.specs.Kinds.{Kinds}
use Rattle.clap.specs.Simple.{App, matches_of, new_app, new_rule, on_top, with_rule}
use Rattle.clap.specs.Walk.{Row, Rule, all_of}
use Rattle.clap.specs.declared.builder.action.ArgAction.TheVariants.{Set, SetTrue, Append}
use Rattle.vf_words.specs.declared.fault.WordFault.{WordFault}
use Rattle.vf_words.specs.declared.fault.WordFault.TheVariants.{Refused}

-- an option `--name` with one value, which is any text
abbrev pub option_rule : List ℕ → Rule
option_rule name = record (new_rule name) { long = Some name; action = Some Set }

-- the flag `--journal`
abbrev pub journal_rule : Rule
journal_rule = record (new_rule (codes "journal")) { long = Some (codes "journal"); action = Some SetTrue }

-- any number of files
abbrev pub files_rule : Rule
files_rule = record (new_rule (codes "files")) { action = Some Append }

-- no program's name stands before the words, and clap's own `--help` is no option
abbrev pub bare : App
bare = on_top (λ shape. record shape { no_binary_name = true; disable_help_flag = true }) (new_app (codes "vfarm"))

abbrev pub with_option : App → List ℕ → App
with_option app name = with_rule app (option_rule name)

abbrev pub option_names : List (List ℕ)
option_names = codes "mode" ∷ codes "workers" ∷ codes "pages" ∷ codes "turns" ∷ codes "output" ∷ codes "slots" ∷ codes "top"
    ∷ codes "evict" ∷ codes "test" ∷ codes "number" ∷ []

-- the command that the words go to
unfoldable pub vfarm : App
vfarm = with_rule (with_rule (fold with_option bare option_names) journal_rule) files_rule

abbrev pub unless : {Y : Type 0} → Kinds → Y → Result Y WordFault
unless [] y = Ok y
unless (kind ∷ kinds) y = Err Refused

-- what clap finds in the words: refused exactly where it has a fault
unfoldable pub parsed : List (List ℕ) → Result (List Row) WordFault
parsed words = unless (fault_of vfarm words) (matches_of vfarm words)

-- the files that the words name
abbrev pub files_of : List Row → List (List ℕ)
files_of rows = unwrap_or (all_of (codes "files") rows) []
