-- What the words of a command line ask for, or the first fault (docs/FORMATS.md, "Command words").
use Rattle.std.specs.Prelude.{ℕ, Bool, false, ◌&&◌, ◌||◌, nat_lt, nat_le, if◌then◌else◌, List, [], ◌∷◌, ◌++◌, length, codes, Option, Some, None, Result, Ok, Err}
use Rattle.std.specs.Str.{bytes_eq, all_ascii_digits}
use Rattle.std.specs.Str.Parse.{digits_value}
use Rattle.clap.specs.Walk.{Row, first_of}
use Rattle.vf_jobs.specs.declared.setup.Order.{Order}
use Rattle.vf_jobs.specs.declared.setup.Order.TheVariants.{Oldest, Deepest, Widest}
use Rattle.vf_words.specs.declared.command.Asked.{Asked}
use Rattle.vf_words.specs.declared.command.Asked.TheVariants.{Help, Version, Work}
use Rattle.vf_words.specs.declared.command.Command.{Command}
use Rattle.vf_words.specs.declared.command.Mode.{Mode}
use Rattle.vf_words.specs.declared.command.Mode.TheVariants.{Run, Check, Solo, Make}
use Rattle.vf_words.specs.declared.fault.WordFault.{WordFault}
use Rattle.vf_words.specs.declared.fault.WordFault.TheVariants.{Range, Files, Test}
use Rattle.vf_words.specs.declared.limits.Numbers.{Numbers}
use Rattle.vf_words.specs.declared.limits.TheConstants.{WORKERS, PAGES, TURNS, OUTPUT, SLOTS, NUMBER}
use Rattle.vf_words.specs.Options.{parsed, files_of}

infixl 10 ◌>>=◌
abbrev pub ◌>>=◌ : {A B F : Type 0} → Result A F → (A → Result B F) → Result B F
Ok x >>= f = f x
Err fault >>= f = Err fault

-- ---- values of options

-- the fault of an option's value
abbrev pub outside : List ℕ → WordFault
outside option = Range (codes "--" ++ option)

abbrev pub or_outside : {A : Type 0} → List ℕ → Option A → Result A WordFault
or_outside option (Some x) = Ok x
or_outside option None = Err (outside option)

unfoldable pub mode_named : List ℕ → Option Mode
mode_named text = if bytes_eq text (codes "run") then Some Run
    else if bytes_eq text (codes "check") then Some Check
    else if bytes_eq text (codes "solo") then Some Solo
    else None

unfoldable pub order_named : List ℕ → Option Order
order_named text = if bytes_eq text (codes "oldest") then Some Oldest
    else if bytes_eq text (codes "deepest") then Some Deepest
    else if bytes_eq text (codes "widest") then Some Widest
    else None

-- one or more decimal digits, leading zeros among them, and nothing else
abbrev pub is_digits : List ℕ → Bool
is_digits text = nat_lt 0 (length text) && all_ascii_digits text

abbrev pub within : Numbers → ℕ → Option ℕ
within numbers n = if nat_le numbers.least n && nat_le n numbers.most then Some n else None

-- the number that decimal digits write, if it is in the range
unfoldable pub decimal_in : Numbers → List ℕ → Option ℕ
decimal_in numbers text = if is_digits text then within numbers (digits_value 10 text) else None

abbrev pub mode_of : Option (List ℕ) → Result Mode WordFault
mode_of None = Ok Run
mode_of (Some text) = or_outside (codes "mode") (mode_named text)

abbrev pub order_of : Option (List ℕ) → Result Order WordFault
order_of None = Ok Oldest
order_of (Some text) = or_outside (codes "evict") (order_named text)

abbrev pub number_of : List ℕ → Numbers → Option (List ℕ) → Result ℕ WordFault
number_of option numbers None = Ok numbers.default
number_of option numbers (Some text) = or_outside option (decimal_in numbers text)

abbrev pub mode_at : List Row → Result Mode WordFault
mode_at rows = mode_of (first_of (codes "mode") rows)

abbrev pub order_at : List Row → Result Order WordFault
order_at rows = order_of (first_of (codes "evict") rows)

abbrev pub number_at : List ℕ → Numbers → List Row → Result ℕ WordFault
number_at option numbers rows = number_of option numbers (first_of option rows)

-- ---- files and the test

abbrev pub no_files : List (List ℕ) → Result (Option (List ℕ × List ℕ)) WordFault
no_files [] = Ok None
no_files (name ∷ more) = Err Files

-- the design's file and the plan's
abbrev pub two_files : List (List ℕ) → Result (Option (List ℕ × List ℕ)) WordFault
two_files (design ∷ plan ∷ []) = Ok (Some (design, plan))
two_files _ = Err Files

abbrev pub files_in : Mode → List (List ℕ) → Result (Option (List ℕ × List ℕ)) WordFault
files_in Make files = no_files files
files_in _ files = two_files files

abbrev pub one_test : Option (List ℕ) → Result (Option (List ℕ)) WordFault
one_test (Some name) = Ok (Some name)
one_test None = Err Test

abbrev pub no_test : Option (List ℕ) → Result (Option (List ℕ)) WordFault
no_test (Some name) = Err Test
no_test None = Ok None

-- a test is named exactly in mode solo
abbrev pub test_in : Mode → Option (List ℕ) → Result (Option (List ℕ)) WordFault
test_in Solo test = one_test test
test_in _ test = no_test test

-- ---- the whole

abbrev pub is_true : Option (List ℕ) → Bool
is_true (Some text) = bytes_eq text (codes "true")
is_true None = false

-- the work that the options and files ask for, or the first fault among them
unfoldable pub command_in : List Row → Result Command WordFault
command_in rows = do
  mode ← mode_at rows
  workers ← number_at (codes "workers") WORKERS rows
  pages ← number_at (codes "pages") PAGES rows
  turns ← number_at (codes "turns") TURNS rows
  output ← number_at (codes "output") OUTPUT rows
  slots ← number_at (codes "slots") SLOTS rows
  order ← order_at rows
  number ← number_at (codes "number") NUMBER rows
  files ← files_in mode (files_of rows)
  test ← test_in mode (first_of (codes "test") rows)
  Ok (record {
    mode = mode;
    workers = workers;
    pages = pages;
    limits = record { turns = turns; output = output };
    slots = slots;
    order = order;
    journal = is_true (first_of (codes "journal") rows);
    top = first_of (codes "top") rows;
    test = test;
    number = number;
    files = files;
  })

-- the first word is one of the two
abbrev pub asks : List ℕ → List ℕ → List (List ℕ) → Bool
asks long short [] = false
asks long short (first ∷ more) = bytes_eq first long || bytes_eq first short

-- what the words of a command line ask for, or the first fault
unfoldable pub command_of : List (List ℕ) → Result Asked WordFault
command_of words = if asks (codes "--help") (codes "-h") words then Ok Help
    else if asks (codes "--version") (codes "-V") words then Ok Version
    else parsed words >>= command_in >>= λ command. Ok (Work command)
