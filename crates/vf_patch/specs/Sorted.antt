-- Writes by rising address, and where one stands among them.
use Rattle.std.specs.Prelude.{◌≡◌, ℕ, ◌<◌, ◌≤◌, true, cond, ◌==◌, List, [], ◌∷◌, length, Option, Some, None, slice_index_or}
use Rattle.vf_base.specs.declared.write.Write.{Write}
use Rattle.vf_machine.specs.Writes.{rises_from}

-- the word that is written at an address, if one is
abbrev pub found : List Write → ℕ → Option ℕ
found [] at = None
found (write ∷ more) at = cond (write.at == at) (Some write.word) (found more at)

-- what is read past the end of writes
abbrev pub no_write : Write
no_write = record { at = 0; word = 0 }

-- the address of the write at an index
abbrev pub address : List Write → ℕ → ℕ
address writes i = (slice_index_or writes i no_write).at

-- the write at an index has this address
pub record IsPlace (at : ℕ) (writes : List Write) (i : ℕ) : Type 0 where
  pub within : i < length writes
  pub there : address writes i ≡ at

-- no write has this address, and one that had it would stand at this index
pub record IsGap (at : ℕ) (writes : List Write) (i : ℕ) : Type 0 where
  pub within : i ≤ length writes
  pub below : (k : ℕ) → k < i → address writes k < at
  pub above : (k : ℕ) → i ≤ k → k < length writes → at < address writes k

-- one word is written beside or over the others, and the addresses go on to rise
pub record IsPut (at word : ℕ) (old new : List Write) : Type 0 where
  pub words : (a : ℕ) → found new a ≡ cond (at == a) (Some word) (found old a)
  pub rises : (low : ℕ) → low ≤ at → rises_from low old ≡ true → rises_from low new ≡ true
