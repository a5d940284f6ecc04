-- Words written and read from an address on.
use Rattle.std.specs.Prelude.{◌≡◌, ◌<◌, ℕ, suc, ◌+◌, List, [], ◌∷◌, length, slice_index, slice_set}

-- a list of words is written from an address on
abbrev pub put_all : ℕ → List ℕ → List ℕ → List ℕ
put_all at [] words = words
put_all at (word ∷ more) words = put_all (suc at) more (slice_set words at word)

-- a list of words stands from an address on
abbrev pub StandsAt : List ℕ → ℕ → List ℕ → Type 0
StandsAt words at list = (k : ℕ) → k < length list → slice_index words (at + k) ≡ slice_index list k
