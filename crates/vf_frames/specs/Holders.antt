-- What it means that a pool accounts for holders (docs/FARM.md, "Frames").
use Rattle.std.specs.Prelude.{◌≡◌, ℕ, ◌+◌, ◌^◌, ◌<◌, ◌≤◌, cond, ⊤, List, [], ◌∷◌, ◌++◌, length, slice_index, Option, Some, None, is_some}
use Rattle.vf_frames.specs.declared.holder.Name.{Name}
use Rattle.vf_frames.specs.declared.holder.Holder.{Holder}
use Rattle.vf_frames.specs.Numbers.{has}

-- a sum over holders
abbrev pub total : (Holder → ℕ) → List Holder → ℕ
total f [] = 0
total f (h ∷ hs) = f h + total f hs

-- 1 where the holder has the frame
abbrev pub one_if_has : ℕ → Holder → ℕ
one_if_has f h = cond (has f h.frames) 1 0

abbrev pub parts_of : Holder → ℕ
parts_of h = h.parts

-- the count of a frame: how many of the holders have it
abbrev pub count : ℕ → List Holder → ℕ
count f hs = total (one_if_has f) hs

abbrev pub EachHasPart : List Holder → Type 0
EachHasPart [] = ⊤
EachHasPart (h ∷ hs) = (1 ≤ h.parts) × EachHasPart hs

-- each number is the count of its frame, and the holders have all parts of the pool
pub record Counts (numbers : List ℕ) (hs : List Holder) : Type 0 where
  pub each : (f : ℕ) → f < length numbers → slice_index numbers f ≡ count f hs
  pub parts : total parts_of hs ≡ 2 ^ 62
  pub some_part : EachHasPart hs

-- the pool accounts for these holders. A pool that tells no numbers accounts for nobody
abbrev pub Accounts : Option (List ℕ) → List Holder → Type 0
Accounts None hs = ⊥
Accounts (Some numbers) hs = Counts numbers hs

-- together with whatever others the pool accounted before, it accounts after
abbrev pub Keeps : Option (List ℕ) → List Holder → Option (List ℕ) → List Holder → Type 0
Keeps a before b after = (others : List Holder) → Accounts a (before ++ others) → Accounts b (after ++ others)

-- each of the first n frames stands in the list of one of the holders
abbrev pub AllHeld : ℕ → List Holder → Type 0
AllHeld n hs = (f : ℕ) → f < n → 1 ≤ count f hs

-- a pool keeps its name, and tells its numbers where it told them
pub record SamePool (before : Name) (numbers : Option (List ℕ)) (after : Name) (numbers' : Option (List ℕ)) : Type 0 where
  pub name : after ≡ before
  pub told : is_some numbers' ≡ is_some numbers
