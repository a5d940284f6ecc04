-- What a shelf tells, and what a fetch does (docs/FORMATS.md, "Ports").
use Rattle.std.specs.Prelude.{◌≡◌, ℕ, ◌+◌, ◌<◌, ◌≤◌, ⊤, List, [], ◌∷◌, ◌++◌, length, Option, option_map, Result, Ok, Err}
use Rattle.std.specs.Io.{StartsWith}
use Rattle.vf_ports.specs.declared.shelf.ShelfRefusal.{ShelfRefusal}
use Rattle.vf_ports.specs.declared.shelf.ShelfRefusal.TheVariants.{Failed, TooLong}
use Rattle.vf_ports.specs.Counts.{Rose}

-- what a shelf tells of a name: nothing, that it has no file of that name, or the file's bytes
pub data Told : Type 0 where
  untold : Told
  missing : Told
  file : List ℕ → Told

-- a shelf at one moment: what it tells of each name, the names of its failed calls where it tells them, and its count of
-- faults
pub record ShelfState : Type 0 where
  pub holds : List ℕ → Told
  pub failed : Option (List (List ℕ))
  pub faults : ℕ

-- these are the bytes of the file, as far as the shelf tells
abbrev pub IsFile : Told → List ℕ → Type 0
IsFile untold bytes = ⊤
IsFile missing bytes = ⊥
IsFile (file held) bytes = bytes ≡ held

-- the count of faults rises exactly where the answer is `Failed`
abbrev pub CountsFault : {T : Type 0} → ℕ → ℕ → Result T ShelfRefusal → Type 0
CountsFault before after (Err Failed) = Rose before after
CountsFault before after _ = after ≡ before

-- the names that are told grew by this one, and whether they are told is as before
abbrev pub GainsName : Option (List (List ℕ)) → Option (List (List ℕ)) → List ℕ → Type 0
GainsName before after name = after ≡ option_map (λ earlier. earlier ++ name ∷ []) before

-- the names of failed calls grow by the call's exactly where the answer is `Failed`
abbrev pub ListsFailure : {T : Type 0} → Option (List (List ℕ)) → Option (List (List ℕ)) → List ℕ → Result T ShelfRefusal → Type 0
ListsFailure before after name (Err Failed) = GainsName before after name
ListsFailure before after name _ = after ≡ before

-- `TooLong` tells one byte more than the call allowed
abbrev pub TakesOneMore : {T : Type 0} → ℕ → Result T ShelfRefusal → Type 0
TakesOneMore max (Err (TooLong taken)) = taken ≡ max + 1
TakesOneMore max _ = ⊤

-- `Ok` appended the whole file, which is within the limit; `TooLong` came with a longer one; a refusal
-- left the target's old bytes and a prefix of the file
abbrev pub FetchesFile : {T : Type 0} → List ℕ → ℕ → List ℕ → List ℕ → Result T ShelfRefusal → Type 0
FetchesFile bytes max old new (Ok _) = (length bytes ≤ max) × (new ≡ old ++ bytes)
FetchesFile bytes max old new (Err (TooLong _)) = (max < length bytes) × StartsWith (old ++ bytes) new
FetchesFile bytes max old new (Err _) = StartsWith (old ++ bytes) new

-- where there is no file the call is refused, not for its length, and the target is unchanged
abbrev pub FetchesNothing : {T : Type 0} → List ℕ → List ℕ → Result T ShelfRefusal → Type 0
FetchesNothing old new (Ok _) = ⊥
FetchesNothing old new (Err (TooLong _)) = ⊥
FetchesNothing old new (Err _) = new ≡ old

-- what a call with this limit answers and leaves in its target, where the shelf tells of the name
abbrev pub Fetches : {T : Type 0} → Told → ℕ → List ℕ → List ℕ → Result T ShelfRefusal → Type 0
Fetches untold max old new r = ⊤
Fetches missing max old new r = FetchesNothing old new r
Fetches (file bytes) max old new r = FetchesFile bytes max old new r
