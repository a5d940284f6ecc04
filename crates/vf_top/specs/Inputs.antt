-- What a command is given: its words, and the files that they name (docs/FARM.md, "The top call").
use Rattle.std.specs.Prelude.{◌≡◌, ℕ, ◌<◌, ◌≤◌, ⊤, true, List, length, Some, Ok}
use Rattle.vf_ports.specs.Shelf.{Told, untold, missing, file, ShelfState, IsFile}
use Rattle.vf_design.specs.Program.{Program}
use Rattle.vf_early.specs.Early.{IsEarly}
use Rattle.vf_plan.specs.declared.plan.Node.{Node}
use Rattle.vf_plan.specs.Reading.{plan_of}
use Rattle.vf_words.specs.declared.command.Asked.TheVariants.{Work}
use Rattle.vf_words.specs.declared.command.Command.{Command}
use Rattle.vf_words.specs.Words.{command_of}
use Rattle.vf_top.specs.declared.refusal.What.TheVariants.{Design, Plan}
use Rattle.vf_top.specs.Fault.{limit_of}
use Rattle.vf_top.specs.Report.{is_top}

-- these are the bytes of one of the two files, as far as the shelf tells, and within the file's limit
pub record IsInput (shelf : ShelfState) (name : List ℕ) (most : ℕ) (bytes : List ℕ) : Type 0 where
  pub is : IsFile (shelf.holds name) bytes
  pub fits : length bytes ≤ most

-- the file is longer, as far as the shelf tells
abbrev pub IsLong : Told → ℕ → Type 0
IsLong untold most = ⊤
IsLong missing most = ⊥
IsLong (file bytes) most = most < length bytes

-- the words ask for work on two files: the design's and the plan's
pub record HasFiles (words : List (List ℕ)) (command : Command) (names : List ℕ × List ℕ) : Type 0 where
  pub asked : command_of words ≡ Ok (Work command)
  pub named : command.files ≡ Some names

-- the first file is a design, whose top module is the one that the words name, where they name one
pub record HasDesign (words : List (List ℕ)) (shelf : ShelfState) (command : Command) (names : List ℕ × List ℕ) (p : Program) : Type 0 where
  pub files : HasFiles words command names
  pub bytes : List ℕ
  pub input : IsInput shelf names.0 (limit_of Design) bytes
  pub early : IsEarly bytes command.slots p
  pub top : is_top command.top p ≡ true

-- beside the design the second file has these bytes
pub record HasPlanFile (words : List (List ℕ)) (shelf : ShelfState) (command : Command) (p : Program) (bytes : List ℕ) : Type 0 where
  pub names : List ℕ × List ℕ
  pub design : HasDesign words shelf command names p
  pub input : IsInput shelf names.1 (limit_of Plan) bytes

-- the words, the design and the plan are accepted
pub record IsAccepted (words : List (List ℕ)) (shelf : ShelfState) (command : Command) (p : Program) (nodes : List Node) : Type 0 where
  pub bytes : List ℕ
  pub file : HasPlanFile words shelf command p bytes
  pub plan : plan_of bytes ≡ Ok nodes
