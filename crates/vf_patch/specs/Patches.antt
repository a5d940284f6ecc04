-- The writes of a patch: those at the front of the state by a mask of bits, and the others in a list.
use Rattle.std.specs.Prelude.{◌≡◌, ◌≢◌, ℕ, zero, suc, ◌%◌, None, Bool, cond, not, ◌==◌, List, [], ◌∷◌, slice_index}
use Rattle.std.specs.Int.{bit_at}
use Rattle.std.specs.List.{filter}
use Rattle.vf_base.specs.declared.write.Write.{Write}
use Rattle.vf_patch.specs.Sorted.{found}

-- whether a mask has a bit
abbrev pub is_marked : ℕ → ℕ → Bool
is_marked mask i = bit_at mask i == 1

-- the writes of marked words, so many from an address on
unfoldable pub marked_from : ℕ → ℕ → ℕ → List ℕ → List Write
marked_from zero at mask words = []
marked_from (suc n) at mask words =
    cond (is_marked mask at) (record { at = at; word = slice_index words at } ∷ marked_from n (suc at) mask words) (marked_from n (suc at) mask words)

-- the writes of the 16 words at the front
abbrev pub front_writes : ℕ → List ℕ → List Write
front_writes mask words = marked_from 16 0 mask words

-- a write that changes the word at its address
abbrev pub is_change : List ℕ → Write → Bool
is_change words write = not (slice_index words write.at == write.word)

-- the writes that change a word
abbrev pub changes : List ℕ → List Write → List Write
changes words writes = filter (is_change words) writes

-- each address that is written has a bit of 64, which tells at once of most others that they are not
abbrev pub IsFilter : ℕ → List Write → Type 0
IsFilter filter writes = (a : ℕ) → found writes a ≢ None → bit_at filter (a % 64) ≡ 1
