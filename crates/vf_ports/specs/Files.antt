-- Shelves of files in memory, as contracts see them.
use Rattle.std.specs.Prelude.{ℕ, Bool, ◌==◌, cond, ⊤, List, [], ◌∷◌, ◌++◌, Option, Some, None, Result, Ok, Err, IsTrue, IsFalse, bytes_eq}
use Rattle.std.specs.List.{list_any}
use Rattle.vf_ports.specs.declared.shelf.ShelfRefusal.{ShelfRefusal}
use Rattle.vf_ports.specs.declared.shelf.ShelfRefusal.TheVariants.{Failed, TooLong, Memory}
use Rattle.vf_ports.specs.Counts.{raised}
use Rattle.vf_ports.specs.Shelf.{Told, missing, file}

-- the file of a name; of several entries with one name the first counts
abbrev pub file_named : List (List ℕ × List ℕ) → List ℕ → Option (List ℕ)
file_named [] name = None
file_named (entry ∷ more) name = cond (bytes_eq entry.0 name) (Some entry.1) (file_named more name)

-- a file that may be missing, as a shelf tells it
abbrev pub told_as : Option (List ℕ) → Told
told_as None = missing
told_as (Some bytes) = file bytes

-- what a shelf of these files tells of each name
abbrev pub holding : List (List ℕ × List ℕ) → List ℕ → Told
holding entries name = told_as (file_named entries name)

-- a shelf in memory: its files, the numbers from 1 of the calls that fail, and what its calls left
pub record Files : Type 0 where
  pub entries : List (List ℕ × List ℕ)
  pub failing : List ℕ
  pub calls : ℕ
  pub failed : List (List ℕ)
  pub faults : ℕ

-- the file that the next call, with this name, reads; a call that fails reads none
abbrev pub read_next : Files → List ℕ → Option (List ℕ)
read_next shelf name =
    cond (list_any (λ number. number == raised shelf.calls) shelf.failing) None (file_named shelf.entries name)

-- `Failed` comes only to a call that fails, and `Ok` and `TooLong` only to one that does not
abbrev pub FailsIf : {T : Type 0} → Bool → Result T ShelfRefusal → Type 0
FailsIf failing (Ok _) = IsFalse failing
FailsIf failing (Err Failed) = IsTrue failing
FailsIf failing (Err (TooLong _)) = IsFalse failing
FailsIf failing (Err Memory) = ⊤

-- the shelf after a call with this name
abbrev pub after_fetch : {T : Type 0} → Files → List ℕ → Result T ShelfRefusal → Files
after_fetch shelf name (Err Failed) =
    record shelf { calls = raised shelf.calls; failed = shelf.failed ++ name ∷ []; faults = raised shelf.faults }
after_fetch shelf name _ = record shelf { calls = raised shelf.calls }
