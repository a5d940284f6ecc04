-- Runs of bytes of a class, and the first byte. (docs/LANGUAGE.md, "Text and tokens".)
use Rattle.std.specs.Prelude.{ℕ, Bool, false, ◌==◌, List, [], ◌∷◌, if◌then◌else◌}

-- the longest run of bytes of a class at the front of a text
unfoldable pub run : (ℕ → Bool) → List ℕ → List ℕ
run class [] = []
run class (byte ∷ rest) = if class byte then byte ∷ run class rest else []

-- and what follows it
unfoldable pub after_run : (ℕ → Bool) → List ℕ → List ℕ
after_run class [] = []
after_run class (byte ∷ rest) = if class byte then after_run class rest else byte ∷ rest

-- the text begins with the byte
abbrev pub begins_with : ℕ → List ℕ → Bool
begins_with byte [] = false
begins_with byte (first ∷ rest) = first == byte
