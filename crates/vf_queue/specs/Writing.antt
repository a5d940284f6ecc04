-- What an operation writes into a patch over the words of a state.
use Rattle.std.specs.Prelude.{◌≡◌, ◌≢◌, ℕ, ◌+◌, ◌<◌, List, length, slice_index}
use Rattle.vf_base.specs.declared.write.Write.{Write}
use Rattle.vf_machine.specs.Writes.{AllInside, written}
use Rattle.vf_elaborated.specs.Elaborated.{Elaborated}

-- the words at the front of a state
abbrev pub FRONT : ℕ
FRONT = 16

-- how many events have a number: the processes and the slots
abbrev pub item_count : Elaborated → ℕ
item_count d = length d.processes + d.slots

-- the words under the patch change by a function, and all writes stay inside them
pub record Writes (base : List ℕ) (change : List ℕ → List ℕ) (old new : List Write) : Type 0 where
  pub words : written base new ≡ change (written base old)
  pub inside : AllInside (length base) old → AllInside (length base) new

-- a word is the link to an event
pub record Leads (d : Elaborated) (word : ℕ) : Type 0 where
  pub to : ℕ
  pub below : to < item_count d
  pub is : word ≡ to + 1

-- where a list has a first event, its tail leads to one
abbrev pub HasTail : Elaborated → ℕ → List ℕ → Type 0
HasTail d at words = slice_index words at ≢ 0 → Leads d (slice_index words (at + 1))
