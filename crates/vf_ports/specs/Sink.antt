-- What a sink's calls do to the bytes that it tells (docs/FORMATS.md, "Ports").
use Rattle.std.specs.Prelude.{◌≡◌, ℕ, ◌<◌, List, ◌++◌, length, take, Option, option_map}

-- a sink at one moment: the bytes written so far, where it tells them, and its count of faults
pub record SinkState : Type 0 where
  pub written : Option (List ℕ)
  pub faults : ℕ

-- where the bytes are told they grew by these, and whether they are told is as before
abbrev pub Appends : Option (List ℕ) → Option (List ℕ) → List ℕ → Type 0
Appends before after bytes = after ≡ option_map (λ earlier. earlier ++ bytes) before

-- a prefix of the bytes was appended
pub record AppendsPrefix (before after : Option (List ℕ)) (bytes : List ℕ) : Type 0 where
  pub count : ℕ
  pub is : Appends before after (take count bytes)

-- a prefix of the bytes was appended, and not all of them
pub record AppendsPart (before after : Option (List ℕ)) (bytes : List ℕ) : Type 0 where
  pub count : ℕ
  pub short : count < length bytes
  pub is : Appends before after (take count bytes)
