-- Where an event of a time joins the future (docs/LANGUAGE.md, "The scheduler"; IEEE Std 1364-2005, 11.4).
use Rattle.std.specs.Prelude.{◌≡◌, ℕ, List, ◌∷◌, ◌++◌, Option, Some, None}
use Rattle.vf_elaborated.specs.Elaborated.{Elaborated}
use Rattle.vf_scheduler.specs.State.{State, Item}
use Rattle.vf_scheduler.specs.Posting.{time_of, put_by_time}
use Rattle.vf_layout.specs.Regions.{number, put_first, put_after}

-- an event of the future that any event of that time comes right after
pub record Follows (d : Elaborated) (s : State) (at : ℕ) (n : ℕ) : Type 0 where
  pub before : List Item
  pub other : Item
  pub rest : List Item
  pub is : s.future ≡ before ++ other ∷ rest
  pub numbered : number d other ≡ n
  pub put : (item : Item) → put_by_time (time_of s) at item s.future ≡ before ++ other ∷ item ∷ rest

-- the number of the event before it, if there is one
abbrev pub IsLastUntil : Elaborated → State → ℕ → Option ℕ → Type 0
IsLastUntil d s at None = (item : Item) → put_by_time (time_of s) at item s.future ≡ item ∷ s.future
IsLastUntil d s at (Some n) = Follows d s at n

-- an event is put there
abbrev pub put_in : Elaborated → Option ℕ → ℕ → List ℕ → List ℕ
put_in d None n words = put_first d n words
put_in d (Some m) n words = put_after d m n words
